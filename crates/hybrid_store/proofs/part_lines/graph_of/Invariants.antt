use Rattle.std.proofs.Common.{◌<◌, ◌≤◌, ◌+◌, length}
use Rattle.hybrid_store.specs.PartLines.{AreLined}
use Rattle.hybrid_store.proofs.part_lines.graph_of.Given as goal

abbrev pub invariant-loop-index : goal.invariant-loop-index
invariant-loop-index l = record {
  later : 0 < l.index;
  lined : AreLined l.lanes l.order l.index l.graph.versions;
  room : length l.order ≤ l.graph.spare + l.index;
}
