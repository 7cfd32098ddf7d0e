-- What a dataset and its store are after opening two files.
use Rattle.std.specs.Prelude.{◌≡◌, ℕ, List, length, None}
use Rattle.db_value.specs.declared.entry.Entry.{Entry}
use Rattle.db_outside.specs.declared.disk.Disk.{Ghosts}
use Rattle.entry_codec.specs.Logs.{Opening}
use Rattle.generations.specs.declared.dataset.Dataset.{Dataset}
use Rattle.generations.specs.declared.look.OpenStop.{OpenStop}
use Rattle.generations.specs.declared.look.OpenStop.TheVariants.{DiskFault}
use Rattle.generations.specs.declared.pair.Pair.{Pair}
use Rattle.generations.specs.Datasets.{generation_in, entries_read_in, counted_in, place_in, KeepsIn, OpensSinceIn, QuietIn}
use Rattle.generations.specs.Files.{opened, counts, reads}
use Rattle.generations.specs.Given.{opening_of}
use Rattle.generations.specs.Looks.{IsByBytes}
use Rattle.generations.specs.Pairs.{RoseInOne, NoneRose, BothOnlyRead}
use Rattle.generations.specs.Stored.{DatasetStore, state_in}

-- The bytes of the files stand for the store's state, with entries of the number told, the file that counts, its generation and the place of its first closed gate. The dataset keeps that state, with no pending body.
abbrev pub Reopens : {D : Type 0} {g : Ghosts D} → Dataset D g → DatasetStore → List ℕ → List ℕ → Type 0
Reopens d store c e = (es : List Entry) × (length es ≡ entries_read_in d) × (reads c e ≡ counts (counted_in d) (generation_in d) (opened (state_in store) es (place_in d))) × KeepsIn d (state_in store) es None

-- Since these moments the dataset's log is quiet, and what a crash might have left opens to what these bytes stand for.
pub record StaysQuiet {D : Type 0} {g : Ghosts D} (t : ℕ × ℕ) (d : Dataset D g) (c e : List ℕ) : Type 0 where
  pub quiet : QuietIn d t
  pub opens : (o : Opening) → OpensSinceIn d t o → o ≡ opening_of (reads c e)

-- Two files weren't opened: both were only read, and a disk failed only if its count rose. If their bytes say why, none did.
pub record StopsOpening {D : Type 0} (g : Ghosts D) (stop : OpenStop) (old new : Pair D) : Type 0 where
  pub only_read : BothOnlyRead g old new
  pub cause : stop ≡ DiskFault → RoseInOne g old new
  pub still : IsByBytes stop → NoneRose g old new
