-- The files of a new dataset.
use Rattle.std.specs.Prelude.{◌≡◌, ◌⊎◌, ◌+◌, ◌<◌, ℕ, Bool, true, false, List, [], length}
use Rattle.db_value.specs.declared.schema.Relation.{Relation}
use Rattle.db_outside.specs.Device.{Rose}
use Rattle.db_outside.specs.declared.disk.Disk.{Ghosts}
use Rattle.gate_journal.specs.Reads.{OnlyReads}
use Rattle.generations.specs.declared.dataset.Dataset.{Dataset}
use Rattle.generations.specs.declared.new.CreateStop.{CreateStop}
use Rattle.generations.specs.declared.new.CreateStop.TheVariants.{AlreadyThere, DiskFault, Memory}
use Rattle.generations.specs.declared.pair.Pair.{Pair}
use Rattle.generations.specs.Datasets.{generation_in, entries_read_in, counted_in, place_in}
use Rattle.generations.specs.Pairs.{RoseInOne, NoneRose}
use Rattle.new_image.specs.Image.{image_of}

-- a new dataset: file 0 counts, with generation 1, no entry was read, and its first record goes behind the image
pub record IsNew {D : Type 0} {g : Ghosts D} (d : Dataset D g) (rs : List Relation) : Type 0 where
  pub counted : counted_in d ≡ 0
  pub generation : generation_in d ≡ 1
  pub entries_read : entries_read_in d ≡ 0
  pub place : place_in d ≡ 57 + length (image_of rs)

-- both files are empty
abbrev pub AreEmpty : List ℕ → List ℕ → Type 0
AreEmpty c d = (c ≡ []) × (d ≡ [])

-- a file isn't empty
abbrev pub IsOneThere : List ℕ → List ℕ → Type 0
IsOneThere c d = (0 < length c) ⊎ (0 < length d)

-- whether a file is empty
abbrev pub IsEmptyBy : Bool → List ℕ → Type 0
IsEmptyBy true c = c ≡ []
IsEmptyBy false c = 0 < length c

-- whether both files are
abbrev pub AreEmptyBy : Bool → List ℕ → List ℕ → Type 0
AreEmptyBy true c d = AreEmpty c d
AreEmptyBy false c d = IsOneThere c d

-- why no dataset was made
abbrev pub IsCreateStop : CreateStop → List ℕ → List ℕ → Type 0
IsCreateStop AlreadyThere c d = IsOneThere c d
IsCreateStop DiskFault c d = Unit {0}
IsCreateStop Memory c d = Unit {0}

-- No dataset was made: the first disk was only read, unless a disk failed after a write of it was called; the second one was only read; and a disk failed only if its count rose. If a file was there, none did.
pub record StopsCreating {D : Type 0} (g : Ghosts D) (stop : CreateStop) (old new : Pair D) : Type 0 where
  pub first : OnlyReads g.faults g.writes g.seen g.image g.moment g.since old.first new.first ⊎ ((stop ≡ DiskFault) × Rose (g.writes old.first) (g.writes new.first))
  pub second : OnlyReads g.faults g.writes g.seen g.image g.moment g.since old.second new.second
  pub cause : stop ≡ DiskFault → RoseInOne g old new
  pub still : stop ≡ AlreadyThere → NoneRose g old new
