use Rattle.generations.proofs.Besides.{still}
use Rattle.generations.proofs.beside.Beside.close_owed.Goals as goal

pub returns-then-not-is_owed-clause-stands : goal.returns-then-not-is_owed-clause-stands
returns-then-not-is_owed-clause-stands g c second n s stands = still second n s g.met.D.Disk.only_now c.args.self.now stands
