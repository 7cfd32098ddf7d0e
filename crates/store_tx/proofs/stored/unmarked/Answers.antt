use Rattle.store_tx.proofs.Storing.{stores_none}
use Rattle.store_tx.proofs.stored.unmarked.Goals as goal

pub returns-clause-stores : goal.returns-clause-stores
returns-clause-stores g c = stores_none g.J.Log g.met.J.Log.kept_opens g.met.J.Log.owes_opens g.met.J.Log.only_now (g.St.Store.state c.args._store.now) c.args._log.now
