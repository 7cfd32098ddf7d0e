use Rattle.std.proofs.Common.{sym, subst}
use Rattle.branch_tx.specs.Granted.{AreAllOf}
use Rattle.store_tx.proofs.KeepsLemmas.{ready_of}
use Rattle.store_tx.proofs.Shows.{back_of}
use Rattle.store_tx.proofs.granting.grant_or_back.Goals as goal

pub returns-in-Ok-clause-ready : goal.returns-in-Ok-clause-ready
returns-in-Ok-clause-ready g c = ready_of (g.St.Store.state c.args.store.now) c.args.branch c.args.stmt.now c.args.tx.now c.grant.new.tx c.in-Ok._lacking c.in-Ok.ensures.more.more c.in-Ok.ensures.covered c.in-Ok.ensures.lacks

pub returns-in-Err-clause-shown : goal.returns-in-Err-clause-shown
returns-in-Err-clause-shown g c =
    let st = g.St.Store.state c.args.store.now in
    subst (AreAllOf st) (sym c.back_to.ensures) (back_of st c.grant.new.tx c.mark-before.result c.in-Err.ensures.more.shown)
