use Rattle.std.proofs.Common.{◌≡◌, ◌+◌, ◌≤◌, length, map}
use Rattle.version_graph.specs.Parents.{list_of}
use Rattle.version_graph.proofs.Visits.{Walk}
use Rattle.version_graph.proofs.walk.last_common_from.Given as goal

abbrev pub invariant-loop-version : goal.invariant-loop-version
invariant-loop-version l = record {
  walk : Walk (map list_of l.versions) l.left l.right l.marks.low l.version l.marks.marks;
  there : l.version ≤ length l.versions;
  wide : l.version ≤ l.marks.low + length l.marks.marks;
  from : l.low ≤ l.version;
  first : l.marks.low ≡ l.low;
}

abbrev pub decreases-loop-version : goal.decreases-loop-version
decreases-loop-version l = l.version
