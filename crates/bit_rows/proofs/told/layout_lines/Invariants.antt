use Rattle.std.proofs.Common.{◌≡◌, ◌≤◌, length}
use Rattle.std.specs.List.{flat_map, range_with_len}
use Rattle.bit_rows.specs.Told.{relation_told}
use Rattle.bit_rows.proofs.told.layout_lines.Given as goal

abbrev pub invariant-loop-relation : goal.invariant-loop-relation
invariant-loop-relation l = record {
  told : l.lines.items ≡ flat_map (relation_told l.schema l.lanes l.lists) (range_with_len 0 l.relation);
  within : l.relation ≤ length l.lists;
}
