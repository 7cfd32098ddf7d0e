-- What holds of two disks, of one of them.
use Rattle.std.proofs.Common.{◌≡◌, ℕ, Bool, true, false, List, Some}
use Rattle.db_outside.specs.Disk.{IsAllOnDisk}
use Rattle.db_outside.specs.declared.disk.Disk.{Ghosts}
use Rattle.gate_journal.specs.Reads.{OnlyReads}
use Rattle.gate_journal.proofs.OnlyReading.{reads_none, reads_then}
use Rattle.generations.specs.declared.pair.Pair.{Pair}
use Rattle.generations.specs.Pairs.{disk_of, AreAllOnDisk, BothOnlyRead}
use Rattle.generations.specs.Picks.{of_two}

module _ {D : Type 0} (g : Ghosts D) where
  pub one_read : (second : Bool) (old new : Pair D) → BothOnlyRead g old new → OnlyReads g.faults g.writes g.seen g.image g.moment g.since (disk_of second old) (disk_of second new)
  one_read true old new reads = reads.second
  one_read false old new reads = reads.first

  pub one_on_disk : (second : Bool) (disks : Pair D) → AreAllOnDisk g disks → IsAllOnDisk (g.seen (disk_of second disks)) (g.image (disk_of second disks))
  one_on_disk true disks all = all.1
  one_on_disk false disks all = all.0

  pub one_told : (second : Bool) (disks : Pair D) (c d : List ℕ) → g.seen disks.first ≡ Some c → g.seen disks.second ≡ Some d → g.seen (disk_of second disks) ≡ Some (of_two second c d)
  one_told true disks c d told_c told_d = told_d
  one_told false disks c d told_c told_d = told_c

  module _ (only_now : (d : D) (c : List ℕ) → g.since d (g.moment d) c → g.image d c) (disks : Pair D) where
    -- one of them was read, and the other one wasn't called
    pub first_read : (new : D) → OnlyReads g.faults g.writes g.seen g.image g.moment g.since disks.first new → BothOnlyRead g disks (record { first = new; second = disks.second })
    first_read new reads = record { first = reads; second = reads_none g.faults g.writes g.seen g.image g.moment g.since only_now disks.second }

    pub second_read : (new : D) → OnlyReads g.faults g.writes g.seen g.image g.moment g.since disks.second new → BothOnlyRead g disks (record { first = disks.first; second = new })
    second_read new reads = record { first = reads_none g.faults g.writes g.seen g.image g.moment g.since only_now disks.first; second = reads }

  -- both were read, and then once more
  pub both_read : (only_now : (d : D) (c : List ℕ) → g.since d (g.moment d) c → g.image d c) (old mid new : Pair D) → BothOnlyRead g old mid → BothOnlyRead g mid new → BothOnlyRead g old new
  both_read only_now old mid new a b = record {
    first = reads_then g.faults g.writes g.seen g.image g.moment g.since only_now old.first mid.first new.first a.first b.first;
    second = reads_then g.faults g.writes g.seen g.image g.moment g.since only_now old.second mid.second new.second a.second b.second;
  }
