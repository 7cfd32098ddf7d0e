use Rattle.std.proofs.Common.{ℕ, ◌+◌, ◌<◌, ◌∙◌, List, [], ap, sym, subst, length, get_or}
use Rattle.std.specs.List.{All}
use Rattle.std.proofs.lemmas.List.Elements.{All-push}
use Rattle.std.proofs.lemmas.List.FromFn.{length-map-range_with_len}
use Rattle.db_value.specs.Relations.{widths_at}
use Rattle.hybrid_store.specs.Store.{layout_of}
use Rattle.hybrid_store.proofs.NewLemmas.{each_more}
use Rattle.image_text.specs.declared.image.SegmentPart.{SegmentPart}
use Rattle.image_text.specs.Spelling.{FitsSegments}
use Rattle.db_image.specs.Imaged.{AllAreRanged}
use Rattle.db_image.specs.Images.{segments_image}
use Rattle.db_image.proofs.ImageSteps.{range_next}
use Rattle.db_image.proofs.image_segments.all_segments.Goals as goal

pub loop-relation-preserved : goal.loop-relation-preserved
loop-relation-preserved c =
    let v = c.loop-relation.invariant in
    let e = c.in_ok-push.ensures.items in
    let count = ap (λ (xs : List (List SegmentPart)). length xs) v.value ∙ length-map-range_with_len (segments_image (layout_of c.args.store.now)) 0 c.loop-relation.relation in
    record {
      value = range_next (segments_image (layout_of c.args.store.now)) c.loop-relation.relation c.loop-relation.made.items c.push.new.self.items c.in_ok-segments_image.field-0 e c.in_ok-segments_image.ensures.value v.value;
      fits = subst (λ (xs : List (List SegmentPart)). (r : ℕ) → r < c.loop-relation.relation + 1 → FitsSegments (widths_at (layout_of c.args.store.now).schema r) (get_or xs r [])) (sym e)
          (each_more (λ r ss. FitsSegments (widths_at (layout_of c.args.store.now).schema r) ss) c.loop-relation.made.items c.in_ok-segments_image.field-0 [] c.loop-relation.relation count v.fits c.in_ok-segments_image.ensures.fits);
      ranged = subst (All AllAreRanged) (sym e) (All-push AllAreRanged c.loop-relation.made.items c.in_ok-segments_image.field-0 v.ranged c.in_ok-segments_image.ensures.ranged);
    }
