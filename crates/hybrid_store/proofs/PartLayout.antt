-- The layout of what a store keeps of parts is that of the parts.
use Rattle.std.proofs.Common.{◌≡◌, ℕ, zero, suc, ◌+◌, ◌<◌, ◌≤◌, ◌==◌, Bool, true, false, cond, List, [], ◌∷◌, ◌++◌, length, map, filter, get_or, refl, arith, ap, sym, ◌∙◌, ext_get_or}
use Rattle.std.specs.List.{range_with_len, All}
use Rattle.std.proofs.lemmas.Bool.{and_parts, leb-true, eqb-true}
use Rattle.std.proofs.lemmas.List.{length-map, get_or-map, map-append}
use Rattle.std.proofs.lemmas.List.Elements.{All-append, All-map}
use Rattle.std.proofs.lemmas.List.FromFn.{get_or-map-range_with_len, length-map-range_with_len}
use Rattle.db_store.specs.Layout.{Segment, Row, no_lane, by_relation}
use Rattle.db_store.specs.LaidOut.{row_at, rises}
use Rattle.db_store.proofs.LayoutLaw.{same_relations}
use Rattle.db_store.proofs.SegmentLemmas.{at_relation}
use Rattle.hybrid_view.specs.Deltas.{slots_of}
use Rattle.bit_rows.specs.Short.{shortest}
use Rattle.bit_rows.specs.Rows.{KeptRow, no_kept_row, kept_row_at, laid_row, shortest_row}
use Rattle.bit_rows.specs.Kept.{KeptLane, no_kept, kept_rows}
use Rattle.bit_rows.specs.Segments.{KeptList, list_at}
use Rattle.bit_rows.proofs.ShortLemmas.{shorts_same}
use Rattle.hybrid_store.specs.declared.parts.RowPart.{RowPart}
use Rattle.hybrid_store.specs.declared.parts.SegmentPart.{SegmentPart}
use Rattle.hybrid_store.specs.declared.parts.LayoutParts.{LayoutParts}
use Rattle.hybrid_store.specs.Lanes.{segment_of, lane_of, kept_layout}
use Rattle.hybrid_store.specs.Parts.{parts_of, no_segment_part, order_of, rows_from, row_laid, segment_laid, lane_laid, layout_of_parts}
use Rattle.hybrid_store.specs.Assembled.{rows_among, rows_kept_from, rows_of_parts, segment_kept, AreLists, bare, bare_of}

-- ---- rows

rows_laid : (s : ℕ) (xs : List RowPart) → map laid_row (map (λ (x : RowPart). shortest_row s x.from x.deltas) xs) ≡ map (row_laid s) xs
rows_laid s [] = refl
rows_laid s (x ∷ xs) = λ i. record { segment = s; from = x.from; deltas = shorts_same x.deltas i } ∷ rows_laid s xs i

pub kept_laid : (b n : ℕ) (ss : List SegmentPart) → map laid_row (rows_kept_from b n ss) ≡ rows_from b n ss
kept_laid b n [] = refl
kept_laid b n (s ∷ ss) =
    map-append laid_row (rows_among b n s.rows) (rows_kept_from b (suc n) ss)
    ∙ (λ i. rows_laid n (filter (λ (x : RowPart). x.branch == b) s.rows) i ++ kept_laid b (suc n) ss i)

-- their deltas are shortest
abbrev pub IsShort : KeptRow → Type 0
IsShort row = map shortest (map slots_of row.deltas) ≡ row.deltas

short_one : (s : ℕ) (x : RowPart) → IsShort (shortest_row s x.from x.deltas)
short_one s x = ap (map shortest) (shorts_same x.deltas)

short_among : (s : ℕ) (xs : List RowPart) → All IsShort (map (λ (x : RowPart). shortest_row s x.from x.deltas) xs)
short_among s xs = All-map IsShort (λ (x : RowPart). shortest_row s x.from x.deltas) xs (λ i d h. short_one s (get_or xs i d))

short_kept : (b n : ℕ) (ss : List SegmentPart) → All IsShort (rows_kept_from b n ss)
short_kept b n [] = λ i d h. absurd (omega (arith, h))
short_kept b n (s ∷ ss) = All-append IsShort (rows_among b n s.rows) (rows_kept_from b (suc n) ss) (short_among n (filter (λ (x : RowPart). x.branch == b) s.rows)) (short_kept b (suc n) ss)

pub short_rows : (segments : List SegmentPart) (b r i : ℕ) → i < length (rows_of_parts segments b r) → IsShort (kept_row_at (rows_of_parts segments b r) i)
short_rows segments b r i h = short_kept b 0 (parts_of r segments) i no_kept_row h

-- ---- segments

pub segments_laid : (ss : List SegmentPart) → map segment_of (map segment_kept ss) ≡ map segment_laid ss
segments_laid [] = refl
segments_laid (s ∷ ss) = ap (λ (xs : List Segment). segment_laid s ∷ xs) (segments_laid ss)

-- what holds of the segments of a relation
pub each_part : (P : SegmentPart → Type 0) (r : ℕ) (xs : List SegmentPart) → ((i : ℕ) → i < length xs → (get_or xs i no_segment_part).relation ≡ r → P (get_or xs i no_segment_part))
    → (i : ℕ) → i < length (parts_of r xs) → P (get_or (parts_of r xs) i no_segment_part)
each_part P r [] f = λ i h. absurd (omega (arith, h))
each_part P r (x ∷ xs) f = by (x.relation == r) refl (each_part P r xs (λ i h e. f (suc i) (omega (arith, h)) e))
  where
    by : (t : Bool) → (x.relation == r) ≡ t → ((i : ℕ) → i < length (parts_of r xs) → P (get_or (parts_of r xs) i no_segment_part))
        → (i : ℕ) → i < length (cond t (x ∷ parts_of r xs) (parts_of r xs)) → P (get_or (cond t (x ∷ parts_of r xs) (parts_of r xs)) i no_segment_part)
    by true e rest zero h = f 0 (omega arith) (eqb-true x.relation r e)
    by true e rest (suc i) h = rest i (omega (arith, h))
    by false e rest i h = rest i h

-- ---- rows that ascend are no more than the segments

pub rise_few : (low most : ℕ) (rows : List Row) → rises low rows ≡ true → ((i : ℕ) → i < length rows → (row_at rows i).segment < most) → low ≤ most → low + length rows ≤ most
rise_few low most [] e f h = omega (arith, h)
rise_few low most (row ∷ rows) e f h =
    let two = and_parts _ _ e in
    let up = leb-true low row.segment two.0 in
    let lt = f 0 (omega arith) in
    let rest = rise_few (suc row.segment) most rows two.1 (λ i g. f (suc i) (omega (arith, g))) (omega (arith, lt)) in
    omega (arith, up, rest)

-- ---- the layout

module _ (p : LayoutParts) (lanes : List KeptLane) (lists : List KeptList) (count : length lanes ≡ length p.branches) (told : (b : ℕ) → b < length p.branches → bare (get_or lanes b no_kept) ≡ bare_of p b)
    (are : AreLists (length p.schema) p.segments lists) where
  pub rows_told : (b r : ℕ) → b < length p.branches → r < length p.schema → kept_rows (get_or lanes b no_kept) r ≡ rows_of_parts p.segments b r
  rows_told b r h g = ap (λ (k : KeptLane). kept_rows k r) (told b h) ∙ at_relation p.schema (λ q. rows_of_parts p.segments b q) r [] g

  lane_told : (b : ℕ) → b < length p.branches → lane_of p.schema (get_or lanes b no_kept) ≡ lane_laid p b
  lane_told b h =
      ap (lane_of p.schema) (told b h)
      ∙ (λ i. record {
        name = (lane_laid p b).name;
        origin = (lane_laid p b).origin;
        base = (lane_laid p b).base;
        seconds = (lane_laid p b).seconds;
        rows = same_relations p.schema (λ r. map laid_row (kept_rows (bare_of p b) r)) (λ r. rows_from b 0 (parts_of r p.segments)) []
            (λ r g. ap (map laid_row) (at_relation p.schema (λ q. rows_of_parts p.segments b q) r [] g) ∙ kept_laid b 0 (parts_of r p.segments)) i;
      })

  lanes_told : map (lane_of p.schema) lanes ≡ map (lane_laid p) (range_with_len 0 (length p.branches))
  lanes_told =
      let n = length-map lanes (lane_of p.schema) in
      let m = length-map-range_with_len (lane_laid p) 0 (length p.branches) in
      ext_get_or no_lane (map (lane_of p.schema) lanes) (map (lane_laid p) (range_with_len 0 (length p.branches))) (n ∙ count ∙ sym m)
      (λ b h.
      let lt : b < length p.branches = omega (arith, n, count, h) in
      get_or-map (lane_of p.schema) lanes b no_kept no_lane (omega (arith, lt, count))
      ∙ lane_told b lt
      ∙ sym (get_or-map-range_with_len (lane_laid p) 0 (length p.branches) b b no_lane lt (omega arith)))

  segments_told : by_relation p.schema (λ r. map segment_of (list_at lists r)) ≡ by_relation p.schema (λ r. map segment_laid (parts_of r p.segments))
  segments_told = same_relations p.schema (λ r. map segment_of (list_at lists r)) (λ r. map segment_laid (parts_of r p.segments)) [] (λ r g. ap (map segment_of) (are.each r g) ∙ segments_laid (parts_of r p.segments))

  pub layout_told : kept_layout p.schema lanes (order_of p.versions) lists ≡ layout_of_parts p
  layout_told = λ i. record { schema = p.schema; lanes = lanes_told i; order = order_of p.versions; segments = segments_told i }
