-- The numbers of a store's segments fit, if those of the image do.
use Rattle.std.proofs.Common.{◌≡◌, ℕ, zero, suc, ◌<◌, List, [], ◌∷◌, length, get_or, refl, ap, subst, ◌∙◌, arith}
use Rattle.std.specs.List.{All}
use Rattle.std.proofs.lemmas.List.FromFn.{get_or-map-range_with_len, length-map-range_with_len}
use Rattle.db_value.specs.Relations.{widths_at}
use Rattle.db_value.specs.declared.schema.Relation.{Relation}
use Rattle.db_store.specs.Layout.{Segment, Layout, no_segment, segments_at}
use Rattle.db_store.proofs.SegmentLemmas.{at_relation, length_by}
use Rattle.image_text.specs.declared.image.Image.{Image}
use Rattle.image_text.specs.Spelling.{FitsSegment, FitsSegments, AllFit}
use Rattle.db_image.proofs.FitsRelations.{fit_at}
use Rattle.image_parts.specs.Walk.{no_segment as no_part}
use Rattle.db_image.specs.Images.{segment_image, segments_image, image_of}
use Rattle.db_image.specs.Imaged.{AreRanged, AllAreRanged, NumbersFit, AllNumbersFit}

same_default : (xs : List Segment) (i : ℕ) (d e : Segment) → i < length xs → get_or xs i d ≡ get_or xs i e
same_default [] i d e l = absurd (omega (arith, l))
same_default (x ∷ xs) zero d e l = refl
same_default (x ∷ xs) (suc i) d e l = same_default xs i d e (omega (arith, l))

pub numbers_fit : (l : Layout) (i : Image) → i ≡ image_of l → AllFit i.relations i.segments → All AllAreRanged i.segments → AllNumbersFit l
numbers_fit l i e fits ranged = λ r hr k d hk.
    let at : get_or i.segments r [] ≡ segments_image l r = ap (λ (j : Image). get_or j.segments r []) e ∙ at_relation l.schema (segments_image l) r [] hr in
    let there : r < length i.segments = (let n = ap (λ (j : Image). length j.segments) e ∙ length_by l.schema (segments_image l) in omega (arith, n, hr)) in
    let size = length-map-range_with_len (segment_image l r) 0 (length (segments_at l.segments r)) in
    let one : get_or (segments_image l r) k no_part ≡ segment_image l r k = get_or-map-range_with_len (segment_image l r) 0 (length (segments_at l.segments r)) k k no_part hk (omega arith) in
    let ws : List ℕ = widths_at l.schema r in
    let known : r < length i.relations = (let n = ap (λ (j : Image). length j.relations) e in omega (arith, n, hr)) in
    let here : FitsSegments ws (get_or i.segments r []) = subst (λ (rs : List Relation). FitsSegments (widths_at rs r) (get_or i.segments r [])) (ap (λ (j : Image). j.relations) e) (fit_at i.relations i.segments fits r known there) in
    let all_fit : All (FitsSegment ws) (segments_image l r) = (subst (FitsSegments ws) at here).each in
    let all_ranged : All AreRanged (segments_image l r) = subst AllAreRanged at (ranged r [] there) in
    let fit : FitsSegment ws (segment_image l r k) = subst (FitsSegment ws) one (all_fit k no_part (omega (arith, size, hk))) in
    let own : AreRanged (segment_image l r k) = subst AreRanged one (all_ranged k no_part (omega (arith, size, hk))) in
    subst NumbersFit (same_default (segments_at l.segments r) k no_segment d hk) (record { few = fit.records; records = own })
