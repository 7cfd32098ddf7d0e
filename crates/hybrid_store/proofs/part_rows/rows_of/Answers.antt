use Rattle.std.proofs.Common.{◌∙◌, ◌+◌, ◌<◌, ◌++◌, ◌∷◌, [], List, length, sym, arith}
use Rattle.hybrid_store.specs.declared.parts.SegmentPart.{SegmentPart}
use Rattle.hybrid_store.specs.Parts.{parts_of}
use Rattle.hybrid_store.specs.Assembled.{rows_kept_from}
use Rattle.hybrid_store.proofs.PartRows.{parts_fewer, rows_more, count_more}
use Rattle.hybrid_store.proofs.part_rows.rows_of.Goals as goal

pub push_part-requires : goal.push_part-requires
push_part-requires c =
    let few = parts_fewer c.args.relation c.args.segments.now c.loop-part.part-index in
    omega (arith, few, c.loop-part.invariant.number, c.requires)

pub loop-part-preserved : goal.loop-part-preserved
loop-part-preserved c =
    let xs : List SegmentPart = c.args.segments.now in
    let i = c.loop-part.part-index in
    let lt : i < length xs = c.loop-part-test.true in
    let part : SegmentPart = c.part-item.result in
    let v = c.loop-part.invariant in
    record {
      rows = c.in_ok-number.ensures.rows
          ∙ (λ j. v.rows j ++ rows_kept_from c.args.branch (v.number j) (parts_of c.args.relation (c.part-item.is j ∷ [])))
          ∙ sym (rows_more c.args.branch c.args.relation xs i part lt);
      number = c.in_ok-number.ensures.next
          ∙ (λ j. v.number j + length (parts_of c.args.relation (c.part-item.is j ∷ [])))
          ∙ sym (count_more c.args.relation xs i part lt);
    }
