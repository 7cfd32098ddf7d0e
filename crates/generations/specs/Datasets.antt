-- What a dataset in two files says of itself, and the state that it keeps.
use Rattle.std.specs.Prelude.{◌≡◌, ◌+◌, ℕ, Bool, true, false, not, cond, List, Option}
use Rattle.db_value.specs.declared.entry.Entry.{Entry}
use Rattle.db_store.specs.State.{State}
use Rattle.db_outside.specs.Disk.{InAll}
use Rattle.db_outside.specs.declared.disk.Disk.{Ghosts}
use Rattle.entry_codec.specs.Logs.{Opening}
use Rattle.generations.specs.declared.dataset.Dataset.{Dataset}
use Rattle.generations.specs.declared.pair.Pair.{Pair}
use Rattle.generations.specs.declared.other_gate.OtherGate.TheVariants.{Low}
use Rattle.gate_journal.specs.declared.place.Journal.{Journal}
use Rattle.generations.specs.Files.{number_of}
use Rattle.generations.specs.Fronts.{KeepsBy, IsBeside}
use Rattle.generations.specs.Given.{Opens}
use Rattle.generations.specs.Pairs.{moments_of}

-- its two files, in their order
abbrev pub pair_in : {D : Type 0} {g : Ghosts D} → Dataset D g → Pair D
pair_in d = record { first = cond d.second d.beside.disk d.file.disk; second = cond d.second d.file.disk d.beside.disk }

-- the number of its image
abbrev pub generation_in : {D : Type 0} {g : Ghosts D} → Dataset D g → ℕ
generation_in d = d.generation

-- how many entries were read when it was opened
abbrev pub entries_read_in : {D : Type 0} {g : Ghosts D} → Dataset D g → ℕ
entries_read_in d = d.entries_read

-- the number of the file that counts
abbrev pub counted_in : {D : Type 0} {g : Ghosts D} → Dataset D g → ℕ
counted_in d = number_of d.second

-- the place of the gate behind its last record
abbrev pub place_in : {D : Type 0} {g : Ghosts D} → Dataset D g → ℕ
place_in d = d.file.journal.at

-- it has this state after these entries since its image; if there is a pending body, a crash may show it too, and no image of the other file counts unless one is owed
abbrev pub KeepsByIn : {D : Type 0} {g : Ghosts D} → Bool → Dataset D g → State → List Entry → Option (List ℕ) → Type 0
KeepsByIn {D} {g} owed d s es pending = KeepsBy owed d.second d.generation d.file.journal.at d.file.journal.clean d.beside.gate (g.image d.file.disk) (g.image d.beside.disk) s es pending

-- so, and no image of the other file counts
abbrev pub KeepsIn : {D : Type 0} {g : Ghosts D} → Dataset D g → State → List Entry → Option (List ℕ) → Type 0
KeepsIn d s es pending = KeepsByIn false d s es pending

-- so, and a checkpoint failed when it opened the other file: a crash may show it
abbrev pub OwesIn : {D : Type 0} {g : Ghosts D} → Dataset D g → State → List Entry → Option (List ℕ) → Type 0
OwesIn d s es pending = KeepsByIn true d s es pending

-- how often its two disks have failed
abbrev pub faults_of : {D : Type 0} {g : Ghosts D} → Dataset D g → ℕ
faults_of {D} {g} d = g.faults d.file.disk + g.faults d.beside.disk

-- the counts of their faults, in the files' order
abbrev pub counts_in : {D : Type 0} {g : Ghosts D} → Dataset D g → ℕ × ℕ
counts_in {D} {g} d = (g.faults (pair_in d).first, g.faults (pair_in d).second)

-- the moments of its two files, in their order
abbrev pub moment_in : {D : Type 0} {g : Ghosts D} → Dataset D g → ℕ × ℕ
moment_in {D} {g} d = moments_of g (pair_in d)

-- a crash now may leave files that open so
abbrev pub OpensNowIn : {D : Type 0} {g : Ghosts D} → Dataset D g → Opening → Type 0
OpensNowIn {D} {g} d o = Opens (g.image (pair_in d).first) (g.image (pair_in d).second) o

-- a crash at some moment from these on might have left files that open so
abbrev pub OpensSinceIn : {D : Type 0} {g : Ghosts D} → Dataset D g → ℕ × ℕ → Opening → Type 0
OpensSinceIn {D} {g} d t o = Opens (g.since (pair_in d).first t.0) (g.since (pair_in d).second t.1) o

-- of the moments of two files that of the one beside the first or the second file
abbrev pub moment_beside : Bool → ℕ × ℕ → ℕ
moment_beside second t = cond second t.0 t.1

-- since these moments nothing but the file that counts could count
abbrev pub QuietIn : {D : Type 0} {g : Ghosts D} → Dataset D g → ℕ × ℕ → Type 0
QuietIn {D} {g} d t = InAll (g.since d.beside.disk (moment_beside d.second t)) (IsBeside d.second d.generation)

-- the file that didn't count counts, with this journal and the next generation, and the other one is as if it were never touched
pub record Turns {D : Type 0} {g : Ghosts D} (old new : Dataset D g) (next : Journal) : Type 0 where
  pub disk : new.file.disk ≡ old.beside.disk
  pub journal : new.file.journal ≡ next
  pub beside : new.beside.disk ≡ old.file.disk
  pub gate : new.beside.gate ≡ Low
  pub second : new.second ≡ not old.second
  pub generation : new.generation ≡ old.generation + 1
  pub pair : pair_in new ≡ pair_in old
