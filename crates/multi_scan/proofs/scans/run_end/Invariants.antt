use Rattle.std.proofs.Common.{◌≡◌, ◌+◌, ◌-◌, ◌≤◌, drop}
use Rattle.multi_scan.specs.Found.{run_length}
use Rattle.multi_scan.proofs.scans.run_end.Given as goal

-- the rows in front of the place are this one
abbrev pub invariant-loop-at : goal.invariant-loop-at
invariant-loop-at l = record {
  same : run_length l.row (drop l.from l.found) ≡ l.at - l.from + run_length l.row (drop l.at l.found);
  from : l.from ≤ l.at;
}
