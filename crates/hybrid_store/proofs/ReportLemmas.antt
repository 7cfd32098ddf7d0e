-- What is told of a segment is what the layout says of it.
use Rattle.std.proofs.Common.{◌≡◌, ◌⊎◌, inl, inr, ℕ, zero, suc, ◌+◌, ◌-◌, ◌<◌, ◌≤◌, ◌==◌, Bool, true, false, cond, List, [], ◌∷◌, ◌++◌, length, map, get_or, Option, Some, None, refl, arith, ap, sym, ◌∙◌, subst}
use Rattle.std.specs.List.{flat_map, range_with_len}
use Rattle.std.proofs.lemmas.List.Sums.{sum_by-cons}
use Rattle.std.proofs.lemmas.List.{length-map, get_or-map, get_or_past}
use Rattle.std.proofs.lemmas.Bool.{cases_lt, eq-eqb, false≢true}
use Rattle.db_value.specs.declared.record.Record.{Record}
use Rattle.db_value.specs.declared.report.Live.{Live}
use Rattle.db_value.specs.declared.schema.Relation.{Relation}
use Rattle.db_value.specs.declared.version.VersionPlace.{VersionPlace}
use Rattle.plain_bits.specs.Truth.{bit_of, count_true}
use Rattle.db_store.specs.Sound.{IsSound}
use Rattle.db_store.specs.LaidOut.{IsLaid, head_at}
use Rattle.db_store.specs.LayoutGrowth.{is_head_of}
use Rattle.db_store.specs.Layout.{Segment, Row, Lane, no_segment, no_lane, lane_at, bit, records_at, live_from, live_of, segments_at, rows_at}
use Rattle.db_store.specs.LayoutGrowth.{last_in}
use Rattle.db_store.specs.Report.{relation_name, lives_in, lives_at, head_name, segment_line, segment_lines}
use Rattle.db_store.proofs.BitLemmas.{live_none}
use Rattle.hybrid_view.specs.Live.{Piece, lived_at}
use Rattle.hybrid_view.specs.RowPlaces.{AllShow}
use Rattle.hybrid_view.proofs.NextLemmas.{show_all}
use Rattle.hybrid_view.proofs.PlaceLemmas.{shown_shorter}
use Rattle.bit_rows.specs.Kept.{KeptLane, no_kept, kept_rows}
use Rattle.bit_rows.specs.Rows.{laid_row}
use Rattle.bit_rows.specs.Told.{lives_of, lives_by, lives_among, name_of_head, line_told, relation_told, all_told, CanTell}
use Rattle.hybrid_store.specs.Lanes.{segment_of, lane_of, kept_layout}
use Rattle.bit_rows.specs.Segments.{KeptList, no_rows, kept_at, list_at}
use Rattle.hybrid_store.specs.Stored.{kept_dataset, IsKept, IsStored}
use Rattle.hybrid_store.proofs.LayoutLemmas.{lane_kept, segments_kept, rows_kept}
use Rattle.hybrid_store.proofs.StoredLemmas.{kept_count}
use Rattle.hybrid_store.proofs.BegunRows.{AreCovered}

-- as many records are live as places of the bitmap are true
count_live : (bits : List Bool) (xs : List Record) (slot : ℕ) (p : ℕ → Bool) → ((i : ℕ) → p (slot + i) ≡ bit_of bits i) → length bits ≤ length xs → length (live_from slot xs p) ≡ count_true bits
count_live [] xs slot p f h = ap (λ (ys : List Record). length ys) (live_none slot xs p (λ s g. let e : s ≡ slot + (s - slot) = omega (arith, g) in ap p e ∙ f (s - slot) ∙ get_or_past [] (s - slot) false (omega arith)))
count_live (b ∷ bs) [] slot p f h = absurd (omega (arith, h))
count_live (b ∷ bs) (x ∷ xs) slot p f h = by b (count_live bs xs (suc slot) p (λ i. let e : suc slot + i ≡ slot + suc i = omega arith in ap p e ∙ f (suc i)) (omega (arith, h))) (let e : slot ≡ slot + 0 = omega arith in ap p e ∙ f 0)
  where
    by : (q : Bool) → length (live_from (suc slot) xs p) ≡ count_true bs → p slot ≡ q → length (live_from slot (x ∷ xs) p) ≡ count_true (q ∷ bs)
    by true r e =
        let n : count_true (true ∷ bs) ≡ 1 + count_true bs = sum_by-cons (λ b. cond b 1 0) true bs in
        ap (λ t. length (cond t (x ∷ live_from (suc slot) xs p) (live_from (suc slot) xs p))) e ∙ (let g : suc (length (live_from (suc slot) xs p)) ≡ count_true (true ∷ bs) = omega (arith, n, r) in g)
    by false r e =
        let n : count_true (false ∷ bs) ≡ 0 + count_true bs = sum_by-cons (λ b. cond b 1 0) false bs in
        ap (λ t. length (cond t (x ∷ live_from (suc slot) xs p) (live_from (suc slot) xs p))) e ∙ (let g : length (live_from (suc slot) xs p) ≡ count_true (false ∷ bs) = omega (arith, n, r) in g)

-- pieces that show rows tell what the rows tell
lives_shown : (ss : List Segment) (n s : ℕ) (name : List ℕ) (rows : List Row) (ps : List Piece) → AllShow ss n rows ps → AreCovered ps → lives_of name s ps ≡ lives_in ss name n s rows
lives_shown ss n s name [] [] shown covered = refl
lives_shown ss n s name [] (p ∷ ps) shown covered = absurd shown
lives_shown ss n s name (row ∷ rows) [] shown covered = absurd shown
lives_shown ss n s name (row ∷ rows) (p ∷ ps) shown covered =
    let c = covered 0 (omega arith) in
    let e = shown_shorter ss n row p shown.0 in
    let count : length (live_of ss n row) ≡ count_true p.bits = count_live p.bits (records_at ss row.segment) 0 (bit row n) (λ i. let z : 0 + i ≡ i = omega arith in ap (bit row n) z ∙ sym (shown.0.bits i)) (omega (arith, c, e)) in
    let rest = lives_shown ss n s name rows ps shown.1 (λ i h. covered (suc i) (omega (arith, h))) in
    (λ i. cond (shown.0.segment i == s) (record { branch = name; bits = sym count i } ∷ rest i) (rest i))

module _ (schema : List Relation) (segments : List KeptList) (r s : ℕ) (g : r < length schema) where
  abbrev ss : List Segment
  ss = map segment_of (list_at segments r)

  one_told : (b : ℕ) (k : KeptLane) → IsKept schema segments b k → lives_by r s k ≡ lives_in (map segment_of (list_at segments r)) k.name (length k.seconds - 1) s (map laid_row (kept_rows k r))
  one_told b k is =
      let at = is.at r g in
      lives_shown ss (length k.seconds - 1) s k.name (map laid_row (kept_rows k r)) (lived_at k.head r).pieces (show_all ss (length k.seconds - 1) (map laid_row (kept_rows k r)) (lived_at k.head r).pieces at.shown.count at.shown.each) at.lived.covered

  -- what lanes tell of a segment
  abbrev told : Lane → List Live
  told lane = lives_in (map segment_of (list_at segments r)) lane.name (last_in lane) s (rows_at lane r)

  all_lives : (b : ℕ) (ks : List KeptLane) → ((i : ℕ) → i < length ks → IsKept schema segments (b + i) (get_or ks i no_kept)) → lives_among r s ks ≡ flat_map told (map (lane_of schema) ks)
  all_lives b [] f = refl
  all_lives b (k ∷ ks) f =
      let first : IsKept schema segments b k = (let z : b + 0 ≡ b = omega arith in subst (λ x. IsKept schema segments x k) z (f 0 (omega arith))) in
      let one : lives_by r s k ≡ told (lane_of schema k) = one_told b k first ∙ ap (λ (rows : List Row). lives_in ss k.name (length k.seconds - 1) s rows) (sym (rows_kept schema k r g)) in
      let rest = all_lives (suc b) ks (λ i h. let z : b + suc i ≡ suc b + i = omega arith in subst (λ x. IsKept schema segments x (get_or ks i no_kept)) z (f (suc i) (omega (arith, h)))) in
      λ i. one i ++ rest i

-- what all branches tell of a segment is what the layout says
pub lives_are : (schema : List Relation) (lanes : List KeptLane) (order : List VersionPlace) (segments : List KeptList) (r s : ℕ) → IsStored schema lanes segments → r < length schema → lives_among r s lanes ≡ lives_at (kept_layout schema lanes order segments) r s
lives_are schema lanes order segments r s is g =
    all_lives schema segments r s g 0 lanes (λ i h. let z : i ≡ 0 + i = omega arith in subst (λ x. IsKept schema segments x (get_or lanes i no_kept)) z (is.each i h))
    ∙ ap (λ (ss : List Segment). flat_map (λ (lane : Lane). lives_in ss lane.name (last_in lane) s (rows_at lane r)) (map (lane_of schema) lanes)) (sym (segments_kept schema lanes order segments r g))

-- ---- lines

map_agree : {X : Type 0} (f g : ℕ → X) (a n : ℕ) → ((i : ℕ) → i < a + n → f i ≡ g i) → map f (range_with_len a n) ≡ map g (range_with_len a n)
map_agree f g a zero e = refl
map_agree f g a (suc n) e = λ j. e a (omega arith) j ∷ map_agree f g (a + 1) n (λ i h. e i (omega (arith, h))) j

flat_agree : {X : Type 0} (f g : ℕ → List X) (a n : ℕ) → ((i : ℕ) → i < a + n → f i ≡ g i) → flat_map f (range_with_len a n) ≡ flat_map g (range_with_len a n)
flat_agree f g a zero e = refl
flat_agree f g a (suc n) e = λ j. e a (omega arith) j ++ flat_agree f g (a + 1) n (λ i h. e i (omega (arith, h))) j

module _ (schema : List Relation) (lanes : List KeptLane) (order : List VersionPlace) (segments : List KeptList) (is : IsStored schema lanes segments) where
  -- whose head a segment is
  head_told : (o : Option ℕ) → name_of_head lanes o ≡ head_name (kept_layout schema lanes order segments) o
  head_told None = refl
  head_told (Some b) = by (cases_lt b (length lanes))
    where
      by : (b < length lanes) ⊎ (length lanes ≤ b) → Some (get_or lanes b no_kept).name ≡ Some (lane_at (kept_layout schema lanes order segments) b).name
      by (inl h) = ap (λ (x : Lane). Some x.name) (sym (lane_kept schema lanes order segments b h))
      by (inr h) =
          let n = length-map lanes (lane_of schema) in
          ap (λ (k : KeptLane). Some k.name) (get_or_past lanes b no_kept h) ∙ ap (λ (x : Lane). Some x.name) (sym (get_or_past (map (lane_of schema) lanes) b no_lane (omega (arith, n, h))))

  line_is : (r s : ℕ) → r < length schema → s < length (list_at segments r) → line_told (relation_name schema r) lanes r (list_at segments r) s ≡ segment_line (kept_layout schema lanes order segments) r s
  line_is r s g h =
      let kept : get_or (segments_at (kept_layout schema lanes order segments).segments r) s no_segment ≡ segment_of (kept_at (list_at segments r) s) =
      ap (λ (ss : List Segment). get_or ss s no_segment) (segments_kept schema lanes order segments r g) ∙ get_or-map segment_of (list_at segments r) s no_rows no_segment h in
      let head : name_of_head lanes (kept_at (list_at segments r) s).head ≡ head_name (kept_layout schema lanes order segments) (get_or (segments_at (kept_layout schema lanes order segments).segments r) s no_segment).head =
      head_told (kept_at (list_at segments r) s).head ∙ ap (λ (x : Segment). head_name (kept_layout schema lanes order segments) x.head) (sym kept) in
      let count : length (kept_at (list_at segments r) s).rows.records ≡ length (get_or (segments_at (kept_layout schema lanes order segments).segments r) s no_segment).records = ap (λ (x : Segment). length x.records) (sym kept) in
      let live = lives_are schema lanes order segments r s is g in
      λ j. record { relation = relation_name schema r; index = s; head = head j; records = count j; live = live j }

  lines_are : (r : ℕ) → r < length schema → relation_told schema lanes segments r ≡ map (segment_line (kept_layout schema lanes order segments) r) (range_with_len 0 (length (segments_at (kept_layout schema lanes order segments).segments r)))
  lines_are r g =
      let n : length (list_at segments r) ≡ length (segments_at (kept_layout schema lanes order segments).segments r) = sym (ap (λ (ss : List Segment). length ss) (segments_kept schema lanes order segments r g) ∙ length-map (list_at segments r) segment_of) in
      map_agree (line_told (relation_name schema r) lanes r (list_at segments r)) (segment_line (kept_layout schema lanes order segments) r) 0 (length (list_at segments r)) (λ s h. line_is r s g (omega (arith, h)))
      ∙ ap (λ m. map (segment_line (kept_layout schema lanes order segments) r) (range_with_len 0 m)) n

  -- all lines are those of the layout
  pub told_is : all_told schema lanes segments ≡ segment_lines (kept_layout schema lanes order segments)
  told_is =
      flat_agree (relation_told schema lanes segments) (λ r. map (segment_line (kept_layout schema lanes order segments) r) (range_with_len 0 (length (segments_at (kept_layout schema lanes order segments).segments r)))) 0 (length schema)
      (λ r h. lines_are r (omega (arith, h)))

  -- and what is asked for them holds
  pub can_tell : IsLaid (kept_layout schema lanes order segments) → IsSound (kept_dataset schema lanes order segments) → (r : ℕ) → r < length segments → CanTell lanes r (list_at segments r)
  can_tell laid sound r h = record {
    wide = λ b lt. let w = (is.each b lt).head in omega (arith, w, g);
    heads = λ s b lt e. by s b lt e (cases_lt b (length lanes));
    few = let f = is.few r g in let m = sound.few_branches in let n = kept_count schema lanes order segments in omega (arith, f, m, n);
  }
    where
      g : r < length schema
      g = let w = is.wide in omega (arith, h, w)

      by : (s b : ℕ) → s < length (list_at segments r) → (kept_at (list_at segments r) s).head ≡ Some b → (b < length lanes) ⊎ (length lanes ≤ b) → b < length lanes
      by s b lt e (inl l) = l
      by s b lt e (inr over) =
          let ss : List Segment = segments_at (kept_layout schema lanes order segments).segments r in
          let m = length-map lanes (lane_of schema) in
          let wide = segments_kept schema lanes order segments r g in
          let c : length ss ≡ length (list_at segments r) = ap (λ (xs : List Segment). length xs) wide ∙ length-map (list_at segments r) segment_of in
          let none : is_head_of b (head_at ss s) ≡ false = laid.heads r s b g (omega (arith, lt, c)) (omega (arith, m, over)) in
          let head : head_at ss s ≡ Some b = ap (λ (xs : List Segment). (get_or xs s no_segment).head) wide ∙ ap (λ (x : Segment). x.head) (get_or-map segment_of (list_at segments r) s no_rows no_segment lt) ∙ e in
          absurd (false≢true (sym none ∙ ap (is_head_of b) head ∙ eq-eqb b b refl))
