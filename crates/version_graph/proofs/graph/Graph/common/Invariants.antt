use Rattle.std.proofs.Common.{◌≤◌}
use Rattle.version_graph.proofs.graph.Graph.common.Given as goal

abbrev pub invariant-loop-last : goal.invariant-loop-last
invariant-loop-last l = (l.low ≤ l.a) × (l.low ≤ l.b)

abbrev pub decreases-loop-last : goal.decreases-loop-last
decreases-loop-last l = l.low
