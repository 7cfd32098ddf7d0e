use Rattle.std.proofs.Common.{sym, subst}
use Rattle.branch_tx.specs.Granted.{AreAllOf}
use Rattle.store_tx.proofs.Shows.{back_of}
use Rattle.store_tx.proofs.inside.work_or_back.Goals as goal

pub returns-in-Err-clause-shown : goal.returns-in-Err-clause-shown
returns-in-Err-clause-shown g c =
    let st = g.St.Store.state c.args.store.now in
    subst (AreAllOf st) (sym c.back_to.ensures) (back_of st c.act_or_merge.new.tx c.mark-mark.result c.in-Err.ensures.shown)
