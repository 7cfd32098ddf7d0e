use Rattle.std.proofs.Common.{[], ◌∷◌}
use Rattle.store_tx.proofs.Storing.{one_batch, stores_done, stores_failed, stores_unasked}
use Rattle.store_tx.proofs.stored.store_entry.Goals as goal

pub returns-in-Err-clause-stores : goal.returns-in-Err-clause-stores
returns-in-Err-clause-stores g c =
    let a = c.append.ensures in
    stores_failed g.J.Log (g.St.Store.state c.args.store.now) (c.args.entry.now ∷ []) c.in_ok-batch.batch
    (one_batch (g.St.Store.state c.args.store.now) c.args.entry.now c.in_ok-batch.batch c.in_ok-batch.ensures.bytes c.in_ok-batch.ensures.few c.requires.fits c.in_ok-batch.ensures.within) c.args.log.now c.append.new.self c.append.result
    a.any_moment a.owed a.goes_on a.faults.later _ c.in-Err.is c.in-Err.ensures.failed c.in-Err.ensures.faults.cause

pub returns-in-Commit-clause-stores : goal.returns-in-Commit-clause-stores
returns-in-Commit-clause-stores g c =
    let a = c.append.ensures in
    stores_done g.J.Log (g.St.Store.state c.args.store.now) (c.args.entry.now ∷ []) c.in_ok-batch.batch
    (one_batch (g.St.Store.state c.args.store.now) c.args.entry.now c.in_ok-batch.batch c.in_ok-batch.ensures.bytes c.in_ok-batch.ensures.few c.requires.fits c.in_ok-batch.ensures.within) c.args.log.now c.append.new.self c.append.result
    a.any_moment a.owed a.goes_on a.faults.later _ c.in-Ok.is c.in-Ok.ensures.done

pub returns-in-Err-append-clause-stores : goal.returns-in-Err-append-clause-stores
returns-in-Err-append-clause-stores g c =
    let a = c.append-in-Branch.ensures in
    stores_failed g.J.Log (g.St.Store.state c.args.store.now) (c.args.entry.now ∷ []) c.in_ok-batch.batch
    (one_batch (g.St.Store.state c.args.store.now) c.args.entry.now c.in_ok-batch.batch c.in_ok-batch.ensures.bytes c.in_ok-batch.ensures.few c.requires.fits c.in_ok-batch.ensures.within) c.args.log.now c.append-in-Branch.new.self c.append-in-Branch.result
    a.any_moment a.owed a.goes_on a.faults.later _ c.in-Err-append.is c.in-Err-append.ensures.failed c.in-Err-append.ensures.faults.cause

pub returns-clause-stores : goal.returns-clause-stores
returns-clause-stores g c =
    let a = c.append-in-Branch.ensures in
    stores_done g.J.Log (g.St.Store.state c.args.store.now) (c.args.entry.now ∷ []) c.in_ok-batch.batch
    (one_batch (g.St.Store.state c.args.store.now) c.args.entry.now c.in_ok-batch.batch c.in_ok-batch.ensures.bytes c.in_ok-batch.ensures.few c.requires.fits c.in_ok-batch.ensures.within) c.args.log.now c.append-in-Branch.new.self c.append-in-Branch.result
    a.any_moment a.owed a.goes_on a.faults.later _ c.in-Ok-append.is c.in-Ok-append.ensures.done

pub returns-then-stores_nothing-clause-stores : goal.returns-then-stores_nothing-clause-stores
returns-then-stores_nothing-clause-stores g c =
    stores_unasked g.J.Log g.met.J.Log.kept_opens g.met.J.Log.owes_opens g.met.J.Log.only_now
    (g.St.Store.state c.args.store.now) c.args.entry.now c.args.log.now (c.stores_nothing.ensures c.if-stores_nothing.true)
