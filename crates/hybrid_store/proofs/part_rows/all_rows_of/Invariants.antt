use Rattle.std.proofs.Common.{◌≡◌, map}
use Rattle.std.specs.List.{range_with_len}
use Rattle.hybrid_store.specs.Assembled.{rows_of_parts}
use Rattle.hybrid_store.proofs.part_rows.all_rows_of.Given as goal

abbrev pub invariant-loop-relation : goal.invariant-loop-relation
invariant-loop-relation l = l.all.items ≡ map (λ r. rows_of_parts l.segments l.branch r) (range_with_len 0 l.relation)
