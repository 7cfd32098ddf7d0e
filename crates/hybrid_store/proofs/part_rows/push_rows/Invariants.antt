use Rattle.std.proofs.Common.{◌≡◌, ◌++◌, take}
use Rattle.hybrid_store.specs.Assembled.{rows_among}
use Rattle.hybrid_store.proofs.part_rows.push_rows.Given as goal

abbrev pub invariant-loop-part : goal.invariant-loop-part
invariant-loop-part l = l.rows.items ≡ l.initial.rows.items ++ rows_among l.branch l.segment (take l.part-index l.parts)
