use Rattle.std.proofs.Common.{◌≡◌, ◌-◌, ◌≤◌, take, drop}
use Rattle.multi_scan.specs.Found.{positions_of}
use Rattle.multi_scan.proofs.scans.collect.Given as goal

-- the positions of the rows in front of the place
abbrev pub invariant-loop-at : goal.invariant-loop-at
invariant-loop-at l = record {
  items : l.all.items ≡ positions_of (take (l.at - l.from) (drop l.from l.found));
  from : l.from ≤ l.at;
}
