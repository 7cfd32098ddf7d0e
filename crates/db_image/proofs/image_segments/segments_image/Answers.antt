use Rattle.std.proofs.Common.{List, ap, sym, subst, length, arith}
use Rattle.std.specs.List.{All}
use Rattle.std.proofs.lemmas.List.Elements.{All-push}
use Rattle.std.proofs.lemmas.List.FromFn.{length-map-range_with_len}
use Rattle.db_value.specs.Relations.{widths_at}
use Rattle.hybrid_store.specs.Store.{layout_of}
use Rattle.image_text.specs.declared.image.SegmentPart.{SegmentPart}
use Rattle.image_text.specs.Spelling.{FitsSegment}
use Rattle.db_image.specs.Imaged.{AreRanged}
use Rattle.db_image.specs.Images.{segment_image}
use Rattle.db_image.proofs.ImageSteps.{range_next}
use Rattle.db_image.proofs.image_segments.segments_image.Goals as goal

pub loop-index-preserved : goal.loop-index-preserved
loop-index-preserved c =
    let v = c.loop-index.invariant in
    let e = c.in_ok-push.ensures.items in
    record {
      value = range_next (segment_image (layout_of c.args.store.now) c.args.relation) c.loop-index.index c.loop-index.made.items c.push.new.self.items c.in_ok-segment_image.field-0 e c.in_ok-segment_image.ensures.value v.value;
      fits = subst (All (FitsSegment (widths_at (layout_of c.args.store.now).schema c.args.relation))) (sym e) (All-push (FitsSegment (widths_at (layout_of c.args.store.now).schema c.args.relation)) c.loop-index.made.items c.in_ok-segment_image.field-0 v.fits c.in_ok-segment_image.ensures.fits);
      ranged = subst (All AreRanged) (sym e) (All-push AreRanged c.loop-index.made.items c.in_ok-segment_image.field-0 v.ranged c.in_ok-segment_image.ensures.ranged);
    }

pub returns-clause-fits : goal.returns-clause-fits
returns-clause-fits c =
    let v = c.loop-index.invariant in
    let a = ap (λ (xs : List SegmentPart). length xs) c.of.ensures in
    let b = ap (λ (xs : List SegmentPart). length xs) v.value in
    let n = length-map-range_with_len (segment_image (layout_of c.args.store.now) c.args.relation) 0 c.loop-index.index in
    record { few = omega (arith, a, b, n, c.loop-index.auto, c.segments-index-end.type_inv); each = subst (All (FitsSegment (widths_at (layout_of c.args.store.now).schema c.args.relation))) (sym c.of.ensures) v.fits }
