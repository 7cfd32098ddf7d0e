use Rattle.db_outside.specs.Count.{counted}
use Rattle.core_tests.proofs.batch_tests.share_anew.Given as goal

abbrev pub ghosts-share_on : goal.ghosts-share_on
ghosts-share_on g a = record { opened = g.St.Store.state a.store; first = counted (g.J.Log.faults a.log) }
