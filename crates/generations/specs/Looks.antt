-- What the code finds in two files.
use Rattle.std.specs.Prelude.{◌≡◌, ℕ, Bool, true, List, length, Option, Some, None}
use Rattle.generations.specs.declared.header.Header.{Header}
use Rattle.generations.specs.Headers.{Says, IsHeaderOf}
use Rattle.generations.specs.Pairs.{disk_of}
use Rattle.db_outside.specs.Disk.{InAll}
use Rattle.db_outside.specs.declared.disk.Disk.{Ghosts}
use Rattle.gate_journal.specs.Gate.{IsShut}
use Rattle.generations.specs.declared.pair.Pair.{Pair}
use Rattle.db_value.specs.declared.entry.Entry.{Entry}
use Rattle.generations.specs.Stored.{state_in}
use Rattle.generations.specs.declared.look.Looked.{Looked}
use Rattle.generations.specs.declared.look.OpenStop.{OpenStop}
use Rattle.generations.specs.declared.look.OpenStop.TheVariants.{NotDataset, Damaged as DamagedFile, DiskFault, Memory}
use Rattle.generations.specs.Files.{no_header, has_header, counts, opened, damaged, counting, reads, number_of}
use Rattle.generations.specs.Picks.{of_two}

-- neither file counts, or the one that does has this header
abbrev pub IsPicked : Option (Bool × Header) → List ℕ → List ℕ → Type 0
IsPicked None c d = reads c d ≡ no_header
IsPicked (Some p) c d = (reads c d ≡ counting (number_of p.0) (of_two p.0 c d)) × (has_header (of_two p.0 c d) ≡ true) × Says p.1 (of_two p.0 c d) (length (of_two p.0 c d))

-- the header says what the bytes of the file that counts have, if its disk tells them
abbrev pub SaysPicked : {D : Type 0} → Ghosts D → Pair D → Option (Bool × Header) → Type 0
SaysPicked g disks None = Unit {0}
SaysPicked g disks (Some p) = (s : List ℕ) → g.seen (disk_of p.0 disks) ≡ Some s → IsHeaderOf (Some p.1) s

-- the files open to the store's state, as it is told
abbrev pub IsLooked : Looked → List ℕ → List ℕ → Type 0
IsLooked l c d = (es : List Entry) × (length es ≡ l.entries) × (reads c d ≡ counts (number_of l.second) l.generation (opened (state_in l.store) es l.journal.at))

-- the journal of the file that counts is clean, and its gate is shut in every image
pub record IsClean {D : Type 0} (g : Ghosts D) (disks : Pair D) (l : Looked) : Type 0 where
  pub clean : l.journal.clean ≡ true
  pub shut : InAll (g.image (disk_of l.second disks)) (IsShut l.journal.at)

-- it is the bytes of the files that say why they don't open
abbrev pub IsByBytes : OpenStop → Type 0
IsByBytes NotDataset = Unit {0}
IsByBytes (DamagedFile file at cause) = Unit {0}
IsByBytes DiskFault = ⊥
IsByBytes Memory = ⊥

-- why the files don't open
abbrev pub IsOpenStop : OpenStop → List ℕ → List ℕ → Type 0
IsOpenStop NotDataset c d = reads c d ≡ no_header
IsOpenStop (DamagedFile file at cause) c d = (g : ℕ) × (reads c d ≡ counts file g (damaged at cause))
IsOpenStop DiskFault c d = Unit {0}
IsOpenStop Memory c d = Unit {0}
