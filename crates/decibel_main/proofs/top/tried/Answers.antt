use Rattle.std.proofs.Common.{refl, subst}
use Rattle.decibel_main.specs.Ends.{IsRunStatus}
use Rattle.decibel_main.proofs.FileLemmas.{none_tells}
use Rattle.decibel_main.proofs.top.tried.Goals as goal

pub returns-clause-disks : goal.returns-clause-disks
returns-clause-disks g c = none_tells g.D.Disk c.args.disks c.args.disks c.try_input.result (refl, refl) (λ is. subst IsRunStatus is c.try_input.ensures.ends)
