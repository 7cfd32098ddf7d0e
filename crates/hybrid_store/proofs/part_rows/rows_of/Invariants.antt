use Rattle.std.proofs.Common.{◌≡◌, take, length}
use Rattle.hybrid_store.specs.Parts.{parts_of}
use Rattle.hybrid_store.specs.Assembled.{rows_kept_from}
use Rattle.hybrid_store.proofs.part_rows.rows_of.Given as goal

abbrev pub invariant-loop-part : goal.invariant-loop-part
invariant-loop-part l = record {
  rows : l.rows.items ≡ rows_kept_from l.branch 0 (parts_of l.relation (take l.part-index l.segments));
  number : l.number ≡ length (parts_of l.relation (take l.part-index l.segments));
}
