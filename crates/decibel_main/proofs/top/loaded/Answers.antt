use Rattle.std.proofs.Common.{refl, subst}
use Rattle.decibel_main.specs.Loads.{IsLoadStatus}
use Rattle.decibel_main.proofs.FileLemmas.{none_tells}
use Rattle.decibel_main.proofs.top.loaded.Goals as goal

pub returns-clause-disks : goal.returns-clause-disks
returns-clause-disks g c = none_tells g.D.Disk c.args.disks c.args.disks c.load_lines.result (refl, refl) (λ is. subst IsLoadStatus is c.load_lines.ensures.ends)
