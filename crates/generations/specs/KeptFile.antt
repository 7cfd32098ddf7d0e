-- What a file with a journal keeps.
use Rattle.std.specs.Prelude.{ℕ, List, Option}
use Rattle.db_outside.specs.declared.disk.Disk.{Ghosts}
use Rattle.generations.specs.declared.file.File.{File}
use Rattle.generations.specs.Ends.{IsKept}

-- every image begins with the acknowledged records, and may end with the pending one
abbrev pub IsKeptIn : {D : Type 0} {g : Ghosts D} → File D g → List ℕ → Option (List ℕ) → Type 0
IsKeptIn {D} {g} file front pending = IsKept file.journal.at file.journal.clean (g.image file.disk) front pending
