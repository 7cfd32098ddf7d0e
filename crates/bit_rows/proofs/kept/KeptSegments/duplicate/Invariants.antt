use Rattle.std.proofs.Common.{◌≡◌, ◌≤◌, take}
use Rattle.std.specs.Prelude.{vec_capacity}
use Rattle.bit_rows.proofs.kept.KeptSegments.duplicate.Given as goal

abbrev pub invariant-loop-kept : goal.invariant-loop-kept
invariant-loop-kept l = record {
  same : l.items.items ≡ take l.kept-index l.self.all;
  room : 2048 ≤ vec_capacity l.items;
}
