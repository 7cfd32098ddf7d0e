use Rattle.std.proofs.Common.{◌≡◌, ◌-◌, drop, length}
use Rattle.db_value.specs.Marks.{mark}
use Rattle.multi_scan.proofs.Runs.{IsJoined}
use Rattle.multi_scan.proofs.scans.join.Given as goal

-- the rows so far are those of the runs that were joined
abbrev pub invariant-runs : goal.invariant-runs
invariant-runs l = record {
  runs : IsJoined l.found (drop l.at l.found) (mark l.rows l.marks.items);
  even : length l.marks.items ≡ length l.rows;
}

abbrev pub decreases-runs : goal.decreases-runs
decreases-runs l = length l.found - l.at
