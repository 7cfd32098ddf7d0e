use Rattle.std.proofs.Common.{◌∙◌, ap}
use Rattle.std.specs.Prelude.{Err}
use Rattle.store_tx.proofs.Storing.{saves_done, saves_failed}
use Rattle.store_tx.proofs.stored.save.Goals as goal

pub returns-in-Ok-clause-stores : goal.returns-in-Ok-clause-stores
returns-in-Ok-clause-stores g c =
    let a = c.checkpoint.ensures in
    saves_done g.J.Log (g.St.Store.state c.args.store.now) c.args.log.now c.checkpoint.new.self c.checkpoint.result a.kept a.renewed a.faults _ c.in-Ok.is

pub returns-in-Err-DiskFault-clause-stores : goal.returns-in-Err-DiskFault-clause-stores
returns-in-Err-DiskFault-clause-stores g c =
    let a = c.checkpoint.ensures in
    saves_failed g.J.Log (g.St.Store.state c.args.store.now) c.args.log.now c.checkpoint.new.self c.checkpoint.result a.kept a.renewed a.faults (c.in-Err-DiskFault.is ∙ ap Err c.in-Err-DiskFault.field-0-is)
