use Rattle.std.proofs.Common.{◌<◌, ◌≤◌, ◌-◌, length, take}
use Rattle.key_index.specs.Runs.{Each, IsWithin, first_of}
use Rattle.key_index.proofs.run.run_of.Given as goal

abbrev pub invariant-loop-n : goal.invariant-loop-n
invariant-loop-n l = record {
  some : 0 < l.n;
  within : l.n ≤ length l.changes;
  rises : first_of l.changes ≤ l.last;
  keys : Each (IsWithin (first_of l.changes) l.end) (take l.n l.changes);
}

abbrev pub decreases-loop-n : goal.decreases-loop-n
decreases-loop-n l = length l.changes - l.n
