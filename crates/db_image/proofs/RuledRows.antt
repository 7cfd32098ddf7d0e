-- The segments of a layout's image keep their rules.
use Rattle.std.proofs.Common.{◌≡◌, ◌⊎◌, inl, inr, ℕ, zero, suc, ◌+◌, ◌-◌, ◌*◌, ◌^◌, ◌<◌, ◌≤◌, ◌==◌, ◌||◌, Bool, true, false, cond, List, [], ◌∷◌, ◌++◌, map, take, length, get_or, Option, Some, None, refl, sym, ap, subst, ◌∙◌, arith}
use Rattle.std.specs.List.{All, flat_map, range_with_len}
use Rattle.std.proofs.lemmas.Bool.{eqb-true, eq-eqb, ne_eqb, lt-ltb, le-leb, cases_lt}
use Rattle.std.proofs.lemmas.List.{length-append, length-map, get_or-map}
use Rattle.std.proofs.lemmas.List.Elements.{All-nil, All-push}
use Rattle.std.proofs.lemmas.List.FromFn.{get_or-map-range_with_len, length-map-range_with_len}
use Rattle.db_value.specs.Widths.{meets}
use Rattle.db_value.specs.Relations.{widths_at}
use Rattle.db_value.specs.declared.record.Record.{Record}
use Rattle.record_page.specs.Page.{IsRecord}
use Rattle.db_store.specs.Sound.{IsSound}
use Rattle.db_store.specs.Layout.{Segment, Row, Layout, lane_at, records_at, segments_at, no_segment, branch_of, dataset_in}
use Rattle.db_store.specs.LayoutGrowth.{is_head_of}
use Rattle.db_store.specs.LaidOut.{no_row, row_at, head_at, IsRow, IsLaid}
use Rattle.db_store.proofs.LayoutLaw.{count_is}
use Rattle.hybrid_store.specs.Readers.{place_from, from_at, deltas_at, rows_in}
use Rattle.image_text.specs.declared.image.RowPart.{RowPart}
use Rattle.image_text.specs.Reading.{rises, are_blank, last_of, has_room}
use Rattle.image_text.specs.Reading as image
use Rattle.db_image.specs.Images.{delta_image, row_with, row_image, head_image, segment_image, segments_image, image_of}
use Rattle.db_image.specs.Imaged.{AreSlots, AreWithin, AreInOrder, HasSegments, IsRanged, AllNumbersFit}
use Rattle.db_image.specs.Rules.{EachNext, onto, IsDelta, IsNextRow, IsSegment, AreSegments, AreByRelation, lasts_of}
use Rattle.db_image.proofs.RuledDelta.{delta_ruled}
use Rattle.db_image.proofs.LinesKept.{lasts, lasts_same, count, last_is, lanes_few}

-- ---- the row of a segment, among the rows of a branch

pub place_cases : (rows : List Row) (i s : ℕ) → (place_from i rows s ≡ None) ⊎ ((k : ℕ) × (place_from i rows s ≡ Some (i + k)) × (k < length rows) × ((row_at rows k).segment ≡ s))
place_cases [] i s = inl refl
place_cases (x ∷ xs) i s = at (x.segment == s) refl (place_cases xs (i + 1) s)
  where
    at : (q : Bool) → (x.segment == s) ≡ q → (place_from (i + 1) xs s ≡ None) ⊎ ((k : ℕ) × (place_from (i + 1) xs s ≡ Some (i + 1 + k)) × (k < length xs) × ((row_at xs k).segment ≡ s))
        → (cond q (Some i) (place_from (i + 1) xs s) ≡ None) ⊎ ((k : ℕ) × (cond q (Some i) (place_from (i + 1) xs s) ≡ Some (i + k)) × (k < length (x ∷ xs)) × ((row_at (x ∷ xs) k).segment ≡ s))
    at true e later = let n : i ≡ i + 0 = omega arith in inr (0, ap (λ m. Some m) n, omega arith, eqb-true x.segment s e)
    at false e (inl none) = inl none
    at false e (inr y) = let n : i + 1 + y.0 ≡ i + suc y.0 = omega arith in let l = y.2 in inr (suc y.0, y.1 ∙ ap (λ m. Some m) n, omega (arith, l), y.3)

rises_of : (seen : List RowPart) (a : ℕ) → All (λ (y : RowPart). y.branch < a) seen → rises seen a ≡ true
rises_of [] a all = refl
rises_of (y ∷ ys) a all = lt-ltb (get_or (y ∷ ys) (length ys) image.no_row).branch a (all (length ys) image.no_row (omega arith))

row_few : (b : ℕ) (f : Option ℕ) (ds : List (List ℕ)) → length (row_with b f ds) ≤ 1
row_few b None ds = omega arith
row_few b (Some f) ds = omega arith

rows_few : (l : Layout) (r s n a : ℕ) → length (flat_map (row_image l r s) (range_with_len a n)) ≤ n
rows_few l r s zero a = omega arith
rows_few l r s (suc n) a =
    let m = length-append (row_image l r s a) (flat_map (row_image l r s) (range_with_len (a + 1) n)) in
    let o = row_few a (from_at (rows_in l r a) (place_from 0 (rows_in l r a) s)) (deltas_at (rows_in l r a) (place_from 0 (rows_in l r a) s)) in
    let rest = rows_few l r s n (a + 1) in
    omega (arith, m, o, rest)

deltas_ruled : (size : ℕ) (ds : List (List ℕ)) → size < 2 ^ 32 → All (AreSlots size) ds → All (IsDelta size) (map delta_image ds)
deltas_ruled size ds few all = λ k d l.
    let n = length-map ds delta_image in
    let h : k < length ds = omega (arith, n, l) in
    subst (IsDelta size) (sym (get_or-map delta_image ds k [] d h)) (delta_ruled size (get_or ds k []) (all k [] h) few)

-- a first delta without slots has no words
blank_of : (from : ℕ) (ds : List (List ℕ)) → (0 < from → get_or ds 0 [] ≡ []) → (from == 0 || are_blank (take 1 (map delta_image ds))) ≡ true
blank_of zero ds h = refl
blank_of (suc from) [] h = ap (λ q. q || true) (ne_eqb (suc from) 0 (λ e. omega (arith, e)))
blank_of (suc from) (d ∷ ds) h = λ i. ne_eqb (suc from) 0 (λ e. omega (arith, e)) i || are_blank (delta_image (h (omega arith) i) ∷ [])

all_records : (ws : List ℕ) (xs : List Record) → All (λ (x : Record). meets ws x.fields ≡ true) xs → All IsRanged xs → All (IsRecord ws) xs
all_records ws xs wide ranged = λ k d l. record { key = (ranged k d l).key; meets = wide k d l; values = (ranged k d l).values }

module _ (l : Layout) (laid : IsLaid l) (sound : IsSound (dataset_in l)) (within : AreWithin l) (are : AreInOrder l) (has : HasSegments l) (numbers : AllNumbersFit l) (r : ℕ) (hr : r < length l.schema) where
  abbrev ss : List Segment
  ss = segments_at l.segments r

  abbrev size : ℕ → ℕ
  size s = length (records_at ss s)

  -- a branch has no row of a segment, or one that may come after those of earlier branches
  abbrev Cases : ℕ → ℕ → Type 0
  Cases s b = (row_image l r s b ≡ []) ⊎ ((x : RowPart) × (row_image l r s b ≡ x ∷ []) × (x.branch ≡ b) × ((seen : List RowPart) → rises seen b ≡ true → IsNextRow (lasts l) (size s) seen x))

  row_cases : (s b : ℕ) → s < length ss → b < length l.lanes → Cases s b
  row_cases s b hs hb = at (place_cases (rows_in l r b) 0 s)
    where
      at : (place_from 0 (rows_in l r b) s ≡ None) ⊎ ((k : ℕ) × (place_from 0 (rows_in l r b) s ≡ Some (0 + k)) × (k < length (rows_in l r b)) × ((row_at (rows_in l r b) k).segment ≡ s)) → Cases s b
      at (inl e) = inl (ap (λ p. row_with b (from_at (rows_in l r b) p) (deltas_at (rows_in l r b) p)) e)
      at (inr y) =
          let n : 0 + y.0 ≡ y.0 = omega arith in
          let row : Row = row_at (rows_in l r b) y.0 in
          let is : IsRow (segments_at l.segments r) (length (lane_at l b).seconds) (row_at (rows_in l r b) y.0) = ((laid.lanes b hb).rows r hr).are y.0 y.2 in
          let of = ((within.lanes b hb).rows r hr).each y.0 no_row y.2 in
          let last = last_is l are sound b hb in
          let begun = is.begun in
          let full = is.full in
          let c = count l are sound in
          let f = lanes_few l are sound in
          let m = length-map (row_at (rows_in l r b) y.0).deltas delta_image in
          let few = (numbers r hr s no_segment hs).few in
          let slots : All (AreSlots (length (records_at (segments_at l.segments r) s))) (row_at (rows_in l r b) y.0).deltas =
          subst (λ k. All (AreSlots (length (records_at (segments_at l.segments r) k))) (row_at (rows_in l r b) y.0).deltas) y.3 of.slots in
          inr (
            record { branch = b; from = (row_at (rows_in l r b) y.0).from; deltas = map delta_image (row_at (rows_in l r b) y.0).deltas },
            ap (λ p. row_with b (from_at (rows_in l r b) p) (deltas_at (rows_in l r b) p)) (y.1 ∙ ap (λ k. Some k) n),
            refl,
            λ seen rise. record {
              branch = omega (arith, f, hb);
              there = omega (arith, c, hb);
              rises = rise;
              from = let w = sound.few_versions b (let k = length-map l.lanes (branch_of l.schema l.segments) in omega (arith, k, hb)) in let v = count_is l b hb in omega (arith, begun, w, v);
              within = omega (arith, begun, last);
              full = omega (arith, m, full, last, begun);
              blank = blank_of (row_at (rows_in l r b) y.0).from (row_at (rows_in l r b) y.0).deltas (has.blank b r hb hr y.0 no_row y.2);
              deltas = deltas_ruled (length (records_at (segments_at l.segments r) s)) (row_at (rows_in l r b) y.0).deltas few slots;
            },
          )

  rows_each : (s : ℕ) → s < length ss → (n a : ℕ) (seen : List RowPart) → All (λ (y : RowPart). y.branch < a) seen → a + n ≤ length l.lanes → EachNext onto (IsNextRow (lasts l) (size s)) seen (flat_map (row_image l r s) (range_with_len a n))
  rows_each s hs zero a seen all le = tt
  rows_each s hs (suc n) a seen all le =
      at (row_cases s a hs (omega (arith, le)))
      (λ now h. rows_each s hs n (a + 1) now h (omega (arith, le)))
    where
      wider : All (λ (y : RowPart). y.branch < a + 1) seen
      wider = λ k d g. let h = all k d g in omega (arith, h)

      at : Cases s a → ((now : List RowPart) → All (λ (y : RowPart). y.branch < a + 1) now → EachNext onto (IsNextRow (lasts l) (size s)) now (flat_map (row_image l r s) (range_with_len (a + 1) n)))
          → EachNext onto (IsNextRow (lasts l) (size s)) seen (row_image l r s a ++ flat_map (row_image l r s) (range_with_len (a + 1) n))
      at (inl e) rest = subst (λ xs. EachNext onto (IsNextRow (lasts l) (size s)) seen (xs ++ flat_map (row_image l r s) (range_with_len (a + 1) n))) (sym e) (rest seen wider)
      at (inr y) rest =
          subst (λ xs. EachNext onto (IsNextRow (lasts l) (size s)) seen (xs ++ flat_map (row_image l r s) (range_with_len (a + 1) n))) (sym y.1)
          (y.3 seen (rises_of seen a all), rest (seen ++ y.0 ∷ []) (All-push (λ (z : RowPart). z.branch < a + 1) seen y.0 wider (let b = y.2 in omega (arith, b))))

  -- the head of a segment is a branch that is there, and has room for its records
  head_there : (s : ℕ) → s < length ss → (o : Option ℕ) → head_at ss s ≡ o → (head_image o ≤ length l.lanes) × (has_room (lasts l) (head_image o) (size s) ≡ true)
  head_there s hs None e = (omega arith, refl)
  head_there s hs (Some b) e = at (cases_lt b (length l.lanes))
    where
      at : (b < length l.lanes) ⊎ (length l.lanes ≤ b) → (suc b ≤ length l.lanes) × (has_room (lasts l) (suc b) (size s) ≡ true)
      at (inl h) =
          let room = (has.filled r hr s no_segment hs).room b e in
          let last = last_is l are sound b h in
          let same : length (lane_at l b).seconds - 1 ≡ last_of (lasts l) b = omega (arith, last) in
          (omega (arith, h), le-leb (size s) (65536 * last_of (lasts l) b) (subst (λ k. size s ≤ 65536 * k) same room))
      at (inr g) = absurd (let z : true ≡ false = sym (ap (is_head_of b) e ∙ eq-eqb b b refl) ∙ laid.heads r s b hr hs g in cc)

  pub segment_ruled : (s : ℕ) → s < length ss → IsSegment (widths_at l.schema r) (lasts l) (segment_image l r s)
  segment_ruled s hs =
      let head = head_there s hs (head_at ss s) refl in
      let f = lanes_few l are sound in
      let c = count l are sound in
      let h = head.0 in
      let n = rows_few l r s (length l.lanes) 0 in
      record {
        head = omega (arith, h, f);
        there = omega (arith, h, c);
        few = (numbers r hr s no_segment hs).few;
        room = head.1;
        records = all_records (widths_at l.schema r) (records_at ss s) (has.filled r hr s no_segment hs).wide (numbers r hr s no_segment hs).records;
        few_rows = omega (arith, n, f);
        rows_within = omega (arith, n, c);
        rows = rows_each s hs (length l.lanes) 0 [] (All-nil (λ (y : RowPart). y.branch < 0)) (omega arith);
      }

  pub segments_ruled : AreSegments (widths_at l.schema r) (lasts l) (segments_image l r)
  segments_ruled =
      let n = length-map-range_with_len (segment_image l r) 0 (length (segments_at l.segments r)) in
      let few = has.few r hr in
      let f = lanes_few l are sound in
      let c = count l are sound in
      record {
        count = omega (arith, n, few, f);
        few = omega (arith, n, few, c);
        each = λ k d h.
            let g : k < length (segments_at l.segments r) = omega (arith, n, h) in
            subst (IsSegment (widths_at l.schema r) (lasts l)) (sym (get_or-map-range_with_len (segment_image l r) 0 (length (segments_at l.segments r)) k k d g (omega arith))) (segment_ruled k g);
      }

by_from : (l : Layout) → ((r : ℕ) → r < length l.schema → AreSegments (widths_at l.schema r) (lasts l) (segments_image l r)) → (m k : ℕ) → k + m ≤ length l.schema → AreByRelation l.schema (lasts l) k (map (segments_image l) (range_with_len k m))
by_from l f zero k le = tt
by_from l f (suc m) k le = (f k (omega (arith, le)), by_from l f m (k + 1) (omega (arith, le)))

pub all_ruled : (l : Layout) → IsLaid l → IsSound (dataset_in l) → AreWithin l → AreInOrder l → HasSegments l → AllNumbersFit l → AreByRelation l.schema (lasts_of (image_of l)) 0 (image_of l).segments
all_ruled l laid sound within are has numbers =
    subst (λ xs. AreByRelation l.schema xs 0 (image_of l).segments) (sym (lasts_same l)) (by_from l (λ r hr. segments_ruled l laid sound within are has numbers r hr) (length l.schema) 0 (omega arith))
