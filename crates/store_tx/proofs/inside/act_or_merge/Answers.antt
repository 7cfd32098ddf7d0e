use Rattle.std.proofs.Common.{subst, sym}
use Rattle.stmt_text.specs.declared.stmt.Stmt.{Stmt}
use Rattle.store_tx.specs.Keeps.{needs_in}
use Rattle.store_tx.specs.Statements.{MayWork, GoesOn, acted_over}
use Rattle.store_tx.proofs.inside.act_or_merge.Goals as goal

pub merge-requires : goal.merge-requires
merge-requires g c = record { may = subst (λ (y : Stmt). MayWork (g.St.Store.state c.args.store.now) c.args.branch y c.args.tx.now) c.in-Merge.is c.requires.may.may }

pub returns-in_ok-reply-in-Merge-clause-tx : goal.returns-in_ok-reply-in-Merge-clause-tx
returns-in_ok-reply-in-Merge-clause-tx g c =
    let st = g.St.Store.state c.args.store.now in
    let b = c.args.branch in
    subst (λ (y : Stmt). GoesOn st b (needs_in st b c.args.tx.now y) (acted_over st b c.args.tx.now y) c.args.tx.now c.merge.new.tx) (sym c.in-Merge.is) c.in_ok-reply-in-Merge.ensures.tx
