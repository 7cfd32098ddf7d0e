use Rattle.std.proofs.Common.{◌≡◌, ◌≤◌, ◌++◌, map, length}
use Rattle.std.specs.List.{range_with_len}
use Rattle.bit_rows.specs.Told.{line_told}
use Rattle.bit_rows.proofs.told.put_lines.Given as goal

abbrev pub invariant-loop-index : goal.invariant-loop-index
invariant-loop-index l = record {
  told : l.lines.items ≡ l.initial.lines.items ++ map (line_told l.name l.lanes l.relation l.kept.all) (range_with_len 0 l.index);
  within : l.index ≤ length l.kept.all;
}
