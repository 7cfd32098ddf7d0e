-- Two disks at once.
use Rattle.std.specs.Prelude.{◌≡◌, ◌⊎◌, ℕ, Bool, cond, List, Some}
use Rattle.db_outside.specs.Device.{Rose}
use Rattle.db_outside.specs.Disk.{IsAllOnDisk}
use Rattle.db_outside.specs.declared.disk.Disk.{Ghosts}
use Rattle.gate_journal.specs.Reads.{OnlyReads}
use Rattle.generations.specs.declared.pair.Pair.{Pair}

-- the first of two disks, or the second
abbrev pub disk_of : {D : Type 0} → Bool → Pair D → D
disk_of second disks = cond second disks.second disks.first

-- the moments of both
abbrev pub moments_of : {D : Type 0} → Ghosts D → Pair D → ℕ × ℕ
moments_of g disks = (g.moment disks.first, g.moment disks.second)

-- if both disks tell what a read gives, their bytes have this
abbrev pub IfTold : {D : Type 0} → Ghosts D → Pair D → (List ℕ → List ℕ → Type 0) → Type 0
IfTold g disks P = (c : List ℕ) (d : List ℕ) → g.seen disks.first ≡ Some c → g.seen disks.second ≡ Some d → P c d

-- of each disk a crash leaves what a read gives
abbrev pub AreAllOnDisk : {D : Type 0} → Ghosts D → Pair D → Type 0
AreAllOnDisk g disks = IsAllOnDisk (g.seen disks.first) (g.image disks.first) × IsAllOnDisk (g.seen disks.second) (g.image disks.second)

-- one of the two counts of faults rose
abbrev pub RoseInOne : {D : Type 0} → Ghosts D → Pair D → Pair D → Type 0
RoseInOne g old new = Rose (g.faults old.first) (g.faults new.first) ⊎ Rose (g.faults old.second) (g.faults new.second)

-- neither of them rose
abbrev pub NoneRose : {D : Type 0} → Ghosts D → Pair D → Pair D → Type 0
NoneRose g old new = (g.faults new.first ≡ g.faults old.first) × (g.faults new.second ≡ g.faults old.second)

-- both disks were only read
pub record BothOnlyRead {D : Type 0} (g : Ghosts D) (old new : Pair D) : Type 0 where
  pub first : OnlyReads g.faults g.writes g.seen g.image g.moment g.since old.first new.first
  pub second : OnlyReads g.faults g.writes g.seen g.image g.moment g.since old.second new.second
