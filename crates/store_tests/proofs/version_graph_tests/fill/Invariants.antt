use Rattle.std.proofs.Common.{◌≡◌, ◌+◌, length}
use Rattle.store_tests.proofs.version_graph_tests.fill.Given as goal

abbrev pub invariant-loop-version : goal.invariant-loop-version
invariant-loop-version l = record {
  next : length l.graph.versions ≡ l.version;
  spare : l.graph.spare + l.version ≡ 64;
}
