-- The image of a new dataset is one of its state.
use Rattle.std.proofs.Common.{◌≡◌, ◌≢◌, ℕ, suc, ◌+◌, ◌<◌, ◌≤◌, cond, codes, Bool, List, [], ◌∷◌, map, length, None, refl, sym, ◌∙◌, ap, arith, ◌⊎◌, inl, inr}
use Rattle.std.proofs.lemmas.Bool.{eq-eqb, ne_eqb, cases_eq}
use Rattle.db_value.specs.declared.schema.Relation.{Relation}
use Rattle.db_store.specs.Dataset.{root}
use Rattle.db_store.specs.Layout.{Layout, Segment, Row, by_relation, head_segment, head_row, new_layout}
use Rattle.db_store.specs.State.{laid}
use Rattle.db_store.proofs.LayoutLaw.{same_relations}
use Rattle.hybrid_store.specs.declared.parts.SegmentPart.{SegmentPart as SegmentLaid}
use Rattle.hybrid_store.specs.Parts.{segment_laid, rows_from, layout_of_parts}
use Rattle.hybrid_store.specs.Parts as layouts
use Rattle.db_image.specs.Parts.{segment_part, segments_from, parts_of}
use Rattle.image_text.specs.declared.image.Format.TheVariants.{Two}
use Rattle.db_image.specs.Stores.{IsImageOf}
use Rattle.new_image.specs.Image.{image_of}
use Rattle.new_image.specs.Schemas.{IsSchema}
use Rattle.generations.specs.NewState.{new_state}
use Rattle.generations.proofs.NewRead.{new_segment, new_segments, new_parts, new_read}

-- one segment of a relation among those of all from a number on
abbrev others : List Relation → ℕ → ℕ → List Relation → List SegmentLaid
others all r k rs = layouts.parts_of r (segments_from all k (new_segments rs))

abbrev none_laid : List SegmentLaid
none_laid = []

none_earlier : (all : List Relation) (r k : ℕ) (rs : List Relation) → r < k → others all r k rs ≡ none_laid
none_earlier all r k [] lt = refl
none_earlier all r k (x ∷ rs) lt =
    ap (λ (q : Bool). cond q (segment_part all k new_segment ∷ others all r (suc k) rs) (others all r (suc k) rs)) (ne_eqb k r (λ e. omega (arith, e, lt)))
    ∙ none_earlier all r (suc k) rs (omega (arith, lt))

one_there : (all : List Relation) (r k : ℕ) (rs : List Relation) → k ≤ r → r < k + length rs → others all r k rs ≡ segment_part all r new_segment ∷ []
one_there all r k [] le lt = absurd (omega (arith, le, lt))
one_there all r k (x ∷ rs) le lt = by (cases_eq k r) (λ not. one_there all r (suc k) rs (omega (arith, le, not)) (omega (arith, lt)))
  where
    by : (k ≡ r) ⊎ (k ≢ r) → (k ≢ r → others all r (suc k) rs ≡ segment_part all r new_segment ∷ []) → others all r k (x ∷ rs) ≡ segment_part all r new_segment ∷ []
    by (inl is) later =
        ap (λ (q : Bool). cond q (segment_part all k new_segment ∷ others all r (suc k) rs) (others all r (suc k) rs)) (eq-eqb k r is)
        ∙ ap (λ (l : List SegmentLaid). segment_part all k new_segment ∷ l) (none_earlier all r (suc k) rs (omega (arith, is)))
        ∙ ap (λ (n : ℕ). segment_part all n new_segment ∷ none_laid) is
    by (inr not) later =
        ap (λ (q : Bool). cond q (segment_part all k new_segment ∷ others all r (suc k) rs) (others all r (suc k) rs)) (ne_eqb k r not)
        ∙ later not

abbrev none_rows : List Row
none_rows = []

abbrev none_segments : List Segment
none_segments = []

-- the layout of a new dataset, by its rows and segments
abbrev layout_with : List Relation → List (List Row) → List (List Segment) → Layout
layout_with rs rows segments = record {
  schema = rs;
  lanes = record { name = codes "master"; origin = root; base = root; seconds = None ∷ []; rows = rows } ∷ [];
  order = root ∷ [];
  segments = segments;
}

new_laid : (rs : List Relation) → layout_of_parts (parts_of (new_parts rs)) ≡ new_layout rs
new_laid rs =
    let segs = segments_from rs 0 (new_segments rs) in
    let rows : by_relation rs (λ r. rows_from 0 0 (layouts.parts_of r segs)) ≡ by_relation rs (λ r. head_row 0 0 ∷ []) =
    same_relations rs (λ r. rows_from 0 0 (layouts.parts_of r segs)) (λ r. head_row 0 0 ∷ []) none_rows (λ r lt. ap (λ (l : List SegmentLaid). rows_from 0 0 l) (one_there rs r 0 rs (omega arith) (omega (arith, lt)))) in
    let segments : by_relation rs (λ r. map segment_laid (layouts.parts_of r segs)) ≡ by_relation rs (λ r. head_segment 0 ∷ []) =
    same_relations rs (λ r. map segment_laid (layouts.parts_of r segs)) (λ r. head_segment 0 ∷ []) none_segments (λ r lt. ap (λ (l : List SegmentLaid). map segment_laid l) (one_there rs r 0 rs (omega arith) (omega (arith, lt)))) in
    ap (λ (l : List (List Row)). layout_with rs l (by_relation rs (λ r. map segment_laid (layouts.parts_of r segs)))) rows
    ∙ ap (λ (l : List (List Segment)). layout_with rs (by_relation rs (λ r. head_row 0 0 ∷ [])) l) segments

pub new_image_is : (rs : List Relation) → IsSchema rs → IsImageOf Two (image_of rs) (new_state rs)
new_image_is rs is = record { image = new_parts rs; read = new_read rs is; layout = sym (ap laid (new_laid rs)) }
