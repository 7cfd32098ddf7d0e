use Rattle.std.proofs.Common.{◌∙◌, ◌++◌, ◌∷◌, [], sym, arith}
use Rattle.std.proofs.lemmas.List.FromFn.{map-range_with_len_more}
use Rattle.hybrid_store.specs.Assembled.{rows_of_parts}
use Rattle.hybrid_store.proofs.part_rows.all_rows_of.Goals as goal

pub loop-relation-preserved : goal.loop-relation-preserved
loop-relation-preserved c =
    c.in_ok-push.ensures.items
    ∙ (λ j. c.loop-relation.invariant j ++ c.in_ok-rows.ensures j ∷ [])
    ∙ sym (map-range_with_len_more (λ r. rows_of_parts c.args.segments.now c.args.branch r) 0 c.loop-relation.relation c.loop-relation.relation (omega arith))
