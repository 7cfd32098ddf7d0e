use Rattle.std.proofs.Common.{◌<◌, ◌^◌, arith}
use Rattle.db_store.proofs.BodyLemmas.{sure_enough}
use Rattle.db_store.proofs.bulk.is_sure.Goals as goal

pub returns-clause-sure : goal.returns-clause-sure
returns-clause-sure c = sure_enough c.args.room c.args.most

pub returns-clause-few : goal.returns-clause-few
returns-clause-few c = omega (arith, c.ranges.most.fits)
