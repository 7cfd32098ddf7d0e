-- What a status says of the disks' faults.
use Rattle.std.specs.Prelude.{◌≡◌, ◌<◌, ◌-◌, ◌^◌}
use Rattle.db_outside.specs.declared.disk.Disk.{Ghosts}
use Rattle.generations.specs.declared.pair.Pair.{Pair}
use Rattle.generations.specs.Pairs.{RoseInOne, NoneRose}
use Rattle.decibel_main.specs.Images.{faults_in}
use Rattle.decibel_main.specs.declared.status.Status.{Status}
use Rattle.decibel_main.specs.declared.status.Status.TheVariants.{Done, NotDataset, Damaged, DiskFault, AlreadyThere, BadLine}

-- the files as they were read, or the input, say why nothing was stored
abbrev pub EndsByBytes : Status → Type 0
EndsByBytes NotDataset = Unit {0}
EndsByBytes (Damaged file at) = Unit {0}
EndsByBytes AlreadyThere = Unit {0}
EndsByBytes (BadLine n) = Unit {0}
EndsByBytes _ = ⊥

-- A disk fault is told only if a count of faults rose. With status Done neither rose, if both together stand below the greatest number of 64 bits; and with the status of bytes neither rose.
pub record TellsDisks {D : Type 0} (g : Ghosts D) (old new : Pair D) (status : Status) : Type 0 where
  pub fault : status ≡ DiskFault → RoseInOne g old new
  pub done : status ≡ Done → faults_in g new < 2 ^ 64 - 1 → NoneRose g old new
  pub by_bytes : EndsByBytes status → NoneRose g old new
