-- The segments and the rows of a store's layout are those of its relations.
use Rattle.std.proofs.Common.{◌≡◌, ℕ, zero, suc, ◌+◌, ◌-◌, ◌<◌, ◌≤◌, Bool, true, false, List, [], map, take, length, get_or, refl, sym, ap, subst, ◌∙◌, arith}
use Rattle.std.specs.List.{All}
use Rattle.std.proofs.lemmas.List.{length-map, get_or-map, take_more}
use Rattle.db_value.specs.declared.version.VersionPlace.{VersionPlace}
use Rattle.db_value.specs.declared.schema.Relation.{Relation}
use Rattle.db_store.specs.Layout.{Row, Lane, Layout, has, combined, differ, bit, lane_at, records_at, segments_at, rows_at, by_relation}
use Rattle.db_store.specs.LaidOut.{no_row, IsRow, IsLaid}
use Rattle.db_store.proofs.BitLemmas.{combined_push}
use Rattle.db_store.proofs.SegmentLemmas.{at_relation}
use Rattle.hybrid_view.specs.Deltas.{slots_of}
use Rattle.hybrid_view.proofs.DeltaLemmas.{slots_by, slots_stop}
use Rattle.bit_rows.specs.Rows.{KeptRow, no_kept_row, kept_row_at, laid_row}
use Rattle.bit_rows.specs.Kept.{KeptLane, no_kept, kept_rows}
use Rattle.bit_rows.specs.Segments.{KeptList, no_list}
use Rattle.hybrid_store.specs.Lanes.{segment_of, lane_of, kept_layout}
use Rattle.hybrid_store.proofs.LayoutLemmas.{lane_kept, rows_kept}
use Rattle.db_image.specs.Imaged.{AreSlots, IsRowOf, AreRowsIn, AreWithin}
use Rattle.db_image.proofs.ImageWords.{has_bit}
use Rattle.db_image.proofs.LayoutBack.{maps_agree}

-- ---- slots

not_has : (slots : List ℕ) (size s : ℕ) → ((k : ℕ) → has slots k ≡ true → k < size) → size ≤ s → has slots s ≡ false
not_has slots size s h g = at (has slots s) refl
  where
    at : (q : Bool) → has slots s ≡ q → q ≡ false
    at true t = absurd (let l = h s t in omega (arith, l, g))
    at false t = refl

slots_are : (bits : List Bool) (size : ℕ) → ((k : ℕ) → has (slots_of bits) k ≡ true → k < size) → AreSlots size (slots_of bits)
slots_are bits size h =
    slots_by bits (has (slots_of bits)) (size + length bits) (omega arith) (λ s l. sym (has_bit bits s))
    ∙ slots_stop (has (slots_of bits)) size (length bits) (λ s g. not_has (slots_of bits) size s h g)

-- ---- the slots of a row's deltas

combined_more : (ds : List (List ℕ)) (j slot : ℕ) → j < length ds → combined (take (suc j) ds) slot ≡ differ (combined (take j ds) slot) (has (get_or ds j []) slot)
combined_more ds j slot l =
    let one : suc j ≡ j + 1 = omega arith in
    ap (λ n. combined (take n ds) slot) one ∙ ap (λ xs. combined xs slot) (take_more ds j [] l) ∙ combined_push (take j ds) (get_or ds j []) slot

delta_within : (size : ℕ) (row : Row) → ((n slot : ℕ) → bit row n slot ≡ true → slot < size) → (j slot : ℕ) → j < length row.deltas → has (get_or row.deltas j []) slot ≡ true → slot < size
delta_within size row within j slot l t = at (combined (take j row.deltas) slot) refl j refl
  where
    before : (i : ℕ) → j ≡ suc i → combined (take j row.deltas) slot ≡ true → slot < size
    before i e c = within (row.from + i) slot (let n : suc (row.from + i) - row.from ≡ j = omega (arith, e) in ap (λ k. combined (take k row.deltas) slot) n ∙ c)

    at : (q : Bool) → combined (take j row.deltas) slot ≡ q → (i : ℕ) → j ≡ i → slot < size
    at true c zero e = absurd (let z : true ≡ false = sym c ∙ ap (λ k. combined (take k row.deltas) slot) e in cc)
    at true c (suc i) e = before i e c
    at false c i e =
        within (row.from + j) slot
        (let n : suc (row.from + j) - row.from ≡ suc j = omega arith in
        ap (λ k. combined (take k row.deltas) slot) n ∙ combined_more row.deltas j slot l ∙ (λ k. differ (c k) (t k)))

row_slots : (size : ℕ) (k : KeptRow) → ((n slot : ℕ) → bit (laid_row k) n slot ≡ true → slot < size) → All (AreSlots size) (map slots_of k.deltas)
row_slots size k within = λ j d h.
    let n = length-map k.deltas slots_of in
    let l : j < length k.deltas = omega (arith, n, h) in
    let e : get_or (map slots_of k.deltas) j d ≡ slots_of (get_or k.deltas j []) = get_or-map slots_of k.deltas j [] d l in
    let f : get_or (map slots_of k.deltas) j [] ≡ slots_of (get_or k.deltas j []) = get_or-map slots_of k.deltas j [] [] l in
    subst (AreSlots size) (sym e) (slots_are (get_or k.deltas j []) size (λ slot t. delta_within size (laid_row k) within j slot h (ap (λ xs. has xs slot) f ∙ t)))

-- ---- the layout

module _ (schema : List Relation) (lanes : List KeptLane) (order : List VersionPlace) (segments : List KeptList) where
  abbrev l : Layout
  l = kept_layout schema lanes order segments

  segments_are : l.segments ≡ by_relation schema (segments_at l.segments)
  segments_are =
      maps_agree (λ r. map segment_of (get_or segments r no_list).all) (segments_at l.segments) (length schema) 0
      (λ r g m. sym (at_relation schema (λ q. map segment_of (get_or segments q no_list).all) r [] (omega (arith, m))))

  rows_are : (k : KeptLane) → (lane_of schema k).rows ≡ by_relation schema (rows_at (lane_of schema k))
  rows_are k = maps_agree (λ r. map laid_row (kept_rows k r)) (rows_at (lane_of schema k)) (length schema) 0 (λ r g m. sym (rows_kept schema k r (omega (arith, m))))

  row_is : (b r : ℕ) → IsLaid l → b < length l.lanes → r < length schema → AreRowsIn (segments_at l.segments r) (rows_at (lane_at l b) r)
  row_is b r laid h m = record {
    ascend = ((laid.lanes b h).rows r m).ascend;
    each = subst (All (IsRowOf (segments_at l.segments r))) (sym rows_at_is) each;
  }
    where
      there : b < length lanes
      there = let n = length-map lanes (lane_of schema) in omega (arith, n, h)

      own : List KeptRow
      own = kept_rows (get_or lanes b no_kept) r

      rows_at_is : rows_at (lane_at l b) r ≡ map laid_row own
      rows_at_is = ap (λ (x : Lane). rows_at x r) (lane_kept schema lanes order segments b there) ∙ rows_kept schema (get_or lanes b no_kept) r m

      row : (i : ℕ) → i < length own → IsRow (segments_at l.segments r) (length (lane_at l b).seconds) (laid_row (kept_row_at own i))
      row i li =
          let n = ap (λ (xs : List Row). length xs) rows_at_is in
          let k = length-map own laid_row in
          subst (IsRow (segments_at l.segments r) (length (lane_at l b).seconds))
          (ap (λ (xs : List Row). get_or xs i no_row) rows_at_is ∙ get_or-map laid_row own i no_kept_row no_row li)
          (((laid.lanes b h).rows r m).are i (omega (arith, n, k, li)))

      one : (i : ℕ) → i < length own → IsRowOf (segments_at l.segments r) (laid_row (kept_row_at own i))
      one i li = record {
        there = (row i li).there;
        slots = row_slots (length (records_at (segments_at l.segments r) (kept_row_at own i).segment)) (kept_row_at own i) (row i li).within;
      }

      each : All (IsRowOf (segments_at l.segments r)) (map laid_row own)
      each = λ i d li.
          let k = length-map own laid_row in
          let lo : i < length own = omega (arith, k, li) in
          subst (IsRowOf (segments_at l.segments r)) (sym (get_or-map laid_row own i no_kept_row d lo)) (one i lo)

  pub are_within : IsLaid l → AreWithin l
  are_within laid = record {
    segments = segments_are;
    lanes = λ b h.
        let there : b < length lanes = let n = length-map lanes (lane_of schema) in omega (arith, n, h) in
        record {
          wide = subst (λ (x : Lane). x.rows ≡ by_relation schema (rows_at x)) (sym (lane_kept schema lanes order segments b there)) (rows_are (get_or lanes b no_kept));
          rows = λ r m. row_is b r laid h m;
        };
  }
