-- What is made ready for a new branch is ready for it.
use Rattle.std.proofs.Common.{◌≡◌, ◌≢◌, ℕ, ◌+◌, ◌-◌, ◌^◌, ◌<◌, ◌≤◌, ◌==◌, cond, Bool, true, false, List, [], ◌∷◌, ◌++◌, length, map, set, get_or, arith, ap, sym, ◌∙◌, subst}
use Rattle.std.proofs.lemmas.List.{length-map, length-set, length_push, get_or_push, get_or-map}
use Rattle.std.proofs.lemmas.Bool.{eqb-true}
use Rattle.db_value.specs.Relations.{widths_at}
use Rattle.db_value.specs.declared.schema.Relation.{Relation}
use Rattle.db_value.specs.declared.version.VersionPlace.{VersionPlace}
use Rattle.db_value.specs.declared.entry.Entry.TheVariants.{Branch as NewBranch}
use Rattle.record_page.specs.Page.{Rows}
use Rattle.db_store.specs.Dataset.{branch_at}
use Rattle.db_store.specs.Fits.{fits}
use Rattle.db_store.specs.Layout.{Segment, Row, Lane, Layout, no_lane, lane_at, segments_at, rows_at}
use Rattle.db_store.specs.LayoutGrowth.{is_head_of, segments_with, new_head, rows_begun, is_last, last_in, made_at, with_branch, lane_with, lane_begun}
use Rattle.db_store.specs.LaidOut.{IsLaid, AreRows, AreRowsOf, head_at, no_row, row_at}
use Rattle.db_store.proofs.LayoutLaw.{made_there}
use Rattle.db_store.proofs.LaidLemmas.{laid_stays}
use Rattle.db_store.proofs.SegmentLemmas.{at_relation}
use Rattle.db_store.proofs.SoundLemmas.{branch_parts}
use Rattle.hybrid_view.specs.Live.{Lived, lived_at, begun_pieces, IsLived}
use Rattle.bit_rows.specs.Rows.{KeptRow, no_kept_row, kept_row_at, laid_row, begun_row, MoreRow}
use Rattle.bit_rows.specs.Seen.{begun_by}
use Rattle.bit_rows.proofs.BegunRowsLemmas.{are_begun, begun_carried, begun_whole}
use Rattle.bit_rows.specs.Kept.{KeptLane, no_kept, kept_rows}
use Rattle.hybrid_store.specs.Lanes.{segment_of, lane_of, kept_layout}
use Rattle.bit_rows.specs.Segments.{KeptList, list_at}
use Rattle.hybrid_store.specs.New.{own_at}
use Rattle.hybrid_store.specs.Begun.{head_piece, empty_head, lived_begun, lived_turned, turned_row, begun_in, turned_in}
use Rattle.hybrid_store.specs.Ready.{no_own}
use Rattle.hybrid_store.specs.ReadyBranch.{short_row, IsBegunAt, IsTurnedAt}
use Rattle.hybrid_store.specs.Stored.{kept_dataset, Show, IsSeen, IsKeptAt, IsStored}
use Rattle.hybrid_store.proofs.LayoutLemmas.{lane_kept, segments_kept, rows_kept}
use Rattle.hybrid_store.proofs.BegunKept.{with_count, begun_rows, begun_is_lived, begun_kept, turned_lived, turned_kept}
use Rattle.hybrid_store.proofs.BranchStored.{rows_of_lane}
use Rattle.hybrid_store.proofs.StoredLemmas.{kept_count, kept_base}
use Rattle.hybrid_store.proofs.TurnedLemmas.{short_rows}

-- how many heads come before that of a new branch
abbrev pub more_of : Bool → ℕ
more_of q = cond q 1 0

head_number : (q : Bool) (ss : List Segment) (n : ℕ) → n ≡ length ss → n + cond q 1 0 ≡ new_head q ss
head_number true ss n e = omega (arith, e)
head_number false ss n e = omega (arith, e)

module _ (schema : List Relation) (lanes : List KeptLane) (order : List VersionPlace) (segments : List KeptList) (is : IsStored schema lanes segments) (whole : IsLaid (kept_layout schema lanes order segments)) (few : length lanes < 1024)
    (name : List ℕ) (origin : VersionPlace) (q : Bool) (there : origin.branch < length lanes) (made : origin.position < length (get_or lanes origin.branch no_kept).seconds)
    (after : IsLaid (with_branch (kept_layout schema lanes order segments) q name origin)) (owns : List Rows)
    (empty : (r : ℕ) → r < length schema → own_at owns r ≡ record { widths = widths_at schema r; records = [] }) where
  abbrev k : KeptLane
  k = get_or lanes origin.branch no_kept

  abbrev l : Layout
  l = kept_layout schema lanes order segments

  abbrev ss : ℕ → List Segment
  ss r = map segment_of (list_at segments r)

  apart : origin.branch ≢ length lanes
  apart e = absurd (omega (arith, e, there))

  before : (r : ℕ) → r < length schema → AreRowsOf (map segment_of (list_at segments r)) origin.branch (length (get_or lanes origin.branch no_kept).seconds) (map laid_row (kept_rows (get_or lanes origin.branch no_kept) r))
  before r g = rows_of_lane schema lanes order segments whole origin.branch there r g

  free : (r : ℕ) → r < length schema → (s : ℕ) → s < length (map segment_of (list_at segments r)) → is_head_of (length lanes) (head_at (map segment_of (list_at segments r)) s) ≡ false
  free r g s h =
      let e = segments_kept schema lanes order segments r g in
      let n = length-map lanes (lane_of schema) in
      subst (λ (xs : List Segment). s < length xs → is_head_of (length lanes) (head_at xs s) ≡ false) e (λ lt. whole.heads r s (length lanes) g lt (omega (arith, n))) h

  few_segments : (r : ℕ) → r < length schema → length (segments_with q origin.branch (length lanes) (map segment_of (list_at segments r))) < 2 ^ 32 - 1
  few_segments r g =
      let w = with_count q origin.branch (length lanes) (ss r) in
      let m = length-map (list_at segments r) segment_of in
      let f = is.few r g in
      omega (arith, w, m, f, few)

  here : lane_at (kept_layout schema lanes order segments) origin.branch ≡ lane_of schema (get_or lanes origin.branch no_kept)
  here = lane_kept schema lanes order segments origin.branch there

  rows_here : (r : ℕ) → r < length schema → rows_at (lane_at (kept_layout schema lanes order segments) origin.branch) r ≡ map laid_row (kept_rows (get_or lanes origin.branch no_kept) r)
  rows_here r g = ap (λ (x : Lane). rows_at x r) here ∙ rows_kept schema k r g

  segments_here : (r : ℕ) → r < length schema → segments_at (kept_layout schema lanes order segments).segments r ≡ map segment_of (list_at segments r)
  segments_here r g = segments_kept schema lanes order segments r g

  count : length (kept_layout schema lanes order segments).lanes ≡ length lanes
  count = length-map lanes (lane_of schema)

  behind : (r : ℕ) → r < length schema
      → AreRowsOf (segments_with q origin.branch (length lanes) (map segment_of (list_at segments r))) (length lanes) 1 (rows_begun q origin.position (map segment_of (list_at segments r)) (map laid_row (kept_rows (get_or lanes origin.branch no_kept) r)))
  behind r g =
      let w : Layout = with_branch l q name origin in
      let olds : List Lane = set l.lanes origin.branch (lane_with l q (lane_at l origin.branch) origin.position) in
      let new : Lane = lane_begun l q name origin in
      let ls = length-set l.lanes origin.branch (lane_with l q (lane_at l origin.branch) origin.position) in
      let m : length olds ≡ length lanes = ls ∙ count in
      let lp = length_push olds new in
      let at : lane_at w (length lanes) ≡ new = get_or_push olds new no_lane (length lanes) m in
      let base = (after.lanes (length lanes) (omega (arith, lp, m))).rows r g in
      let one = subst (λ (x : Lane). AreRowsOf (segments_at w.segments r) (length lanes) (length x.seconds) (rows_at x r)) at base in
      let rows : rows_at new r ≡ rows_begun q origin.position (map segment_of (list_at segments r)) (map laid_row (kept_rows k r)) =
      at_relation schema (λ x. rows_begun q origin.position (segments_at l.segments x) (rows_at (lane_at l origin.branch) x)) r [] g ∙ (λ j. rows_begun q origin.position (segments_here r g j) (rows_here r g j)) in
      let wide : segments_at w.segments r ≡ segments_with q origin.branch (length lanes) (map segment_of (list_at segments r)) =
      at_relation schema (λ x. segments_with q origin.branch (length l.lanes) (segments_at l.segments x)) r [] g ∙ (λ j. segments_with q origin.branch (count j) (segments_here r g j)) in
      subst (λ (xs : List Segment). AreRowsOf xs (length lanes) 1 (rows_begun q origin.position (map segment_of (list_at segments r)) (map laid_row (kept_rows k r)))) wide
      (subst (λ (xs : List Row). AreRowsOf (segments_at w.segments r) (length lanes) 1 xs) rows one)

  module _ (view : List Lived) (seen : IsSeen schema segments (get_or lanes origin.branch no_kept) origin.position view) where
    -- the rows of the origin that have begun, and what a new branch carries over of them
    abbrev begun : ℕ → List KeptRow
    begun r = begun_by origin.position (kept_rows (get_or lanes origin.branch no_kept) r)

    are : (r : ℕ) → r < length schema → AreRows (map segment_of (list_at segments r)) (length (get_or lanes origin.branch no_kept).seconds) (map laid_row (begun_by origin.position (kept_rows (get_or lanes origin.branch no_kept) r)))
    are r g = are_begun (ss r) (length k.seconds) origin.position (kept_rows k r) (before r g).are

    carried : (r : ℕ) → rows_begun q origin.position (map segment_of (list_at segments r)) (map laid_row (begun_by origin.position (kept_rows (get_or lanes origin.branch no_kept) r)))
        ≡ rows_begun q origin.position (map segment_of (list_at segments r)) (map laid_row (kept_rows (get_or lanes origin.branch no_kept) r))
    carried r = begun_carried q (ss r) origin.position (kept_rows k r)

    after_rows : (r : ℕ) → r < length schema → AreRowsOf (segments_with q origin.branch (length lanes) (map segment_of (list_at segments r))) (length lanes) 1
        (rows_begun q origin.position (map segment_of (list_at segments r)) (map laid_row (begun_by origin.position (kept_rows (get_or lanes origin.branch no_kept) r))))
    after_rows r g = subst (λ (xs : List Row). AreRowsOf (segments_with q origin.branch (length lanes) (ss r)) (length lanes) 1 xs) (sym (carried r)) (behind r g)

    begun_is : (r : ℕ) → r < length schema → begun_in segments (cond q 1 0) owns view r ≡ lived_begun (lived_at view r) (empty_head (new_head q (map segment_of (list_at segments r))) (widths_at schema r))
    begun_is r g = λ i. lived_begun (lived_at view r) (head_piece (head_number q (ss r) (length (list_at segments r)) (sym (length-map (list_at segments r) segment_of)) i) (empty r g i))

    -- what is asked of what a new branch has
    pub begun_ready : (r : ℕ) → r < length schema → IsLived (begun_in segments (cond q 1 0) owns view r)
    begun_ready r g =
        let s = seen.at r g in
        subst IsLived (sym (begun_is r g))
        (begun_is_lived q origin.branch (length lanes) origin.position (length k.seconds) (widths_at schema r) (ss r) apart (free r g) (few_segments r g) (map laid_row (begun r)) (lived_at view r) made (are r g) (after_rows r g) s.lived s.shown s.small s.widths)

    -- it is ready for the new branch
    pub begun_at : (r : ℕ) → r < length schema → (news : List KeptRow) (lv : Lived) → lv ≡ begun_in segments (cond q 1 0) owns view r → news ≡ map begun_row (begun_in segments (cond q 1 0) owns view r).pieces
        → IsBegunAt (segments_at (kept_layout schema lanes order segments).segments r) q (widths_at schema r) origin.branch (length (kept_layout schema lanes order segments).lanes) origin.position (rows_at (lane_at (kept_layout schema lanes order segments) origin.branch) r) news lv (get_or owns r no_own)
    begun_at r g news lv e f =
        let s = seen.at r g in
        let ws : List ℕ = widths_at schema r in
        let b : ℕ = origin.branch in
        let n : ℕ = origin.position in
        let head = empty_head (new_head q (ss r)) ws in
        let lived : lv ≡ lived_begun (lived_at view r) head = e ∙ begun_is r g in
        let rows : news ≡ map begun_row (begun_pieces (lived_at view r).pieces head) = f ∙ ap (λ (x : Lived). map begun_row x.pieces) (begun_is r g) in
        let at : IsBegunAt (ss r) q ws b (length lanes) n (map laid_row (kept_rows k r)) news lv (get_or owns r no_own) = record {
          begun = ap (map laid_row) rows ∙ begun_rows q b (length lanes) n (length k.seconds) ws (ss r) apart (free r g) (few_segments r g) (map laid_row (begun r)) (lived_at view r) made (are r g) (after_rows r g) s.lived s.shown s.small s.widths ∙ carried r;
          kept = subst (λ (x : Lived). IsKeptAt (segments_with q b (length lanes) (ss r)) ws (length lanes) 0 news x) (sym lived)
              (subst (λ (xs : List KeptRow). IsKeptAt (segments_with q b (length lanes) (ss r)) ws (length lanes) 0 xs (lived_begun (lived_at view r) head)) (sym rows)
              (begun_kept q b (length lanes) n (length k.seconds) ws (ss r) apart (free r g) (few_segments r g) (map laid_row (begun r)) (lived_at view r) made (are r g) (after_rows r g) s.lived s.shown s.small s.widths));
          empty = empty r g;
        } in
        subst (λ c. IsBegunAt (segments_at l.segments r) q ws b c n (rows_at (lane_at l b) r) news lv (get_or owns r no_own)) (sym count)
        (subst (λ (xs : List Segment). IsBegunAt xs q ws b (length lanes) n (rows_at (lane_at l b) r) news lv (get_or owns r no_own)) (sym (segments_here r g))
        (subst (λ (xs : List Row). IsBegunAt (ss r) q ws b (length lanes) n xs news lv (get_or owns r no_own)) (sym (rows_here r g)) at))

  -- ---- another head of the origin

  module _ (last : origin.position ≡ length (get_or lanes origin.branch no_kept).seconds - 1) where
    kept_at_last : (r : ℕ) → r < length schema → IsKeptAt (map segment_of (list_at segments r)) (widths_at schema r) origin.branch origin.position (kept_rows (get_or lanes origin.branch no_kept) r) (lived_at (get_or lanes origin.branch no_kept).head r)
    kept_at_last r g = subst (λ n. IsKeptAt (ss r) (widths_at schema r) origin.branch n (kept_rows k r) (lived_at k.head r)) (sym last) ((is.each origin.branch there).at r g)

    few_now : (r : ℕ) → r < length schema → length (map segment_of (list_at segments r)) + 1 < 2 ^ 32 - 1
    few_now r g = let m = length-map (list_at segments r) segment_of in let f = is.few r g in omega (arith, m, f, few)

    turned_is : (r : ℕ) → r < length schema → turned_in segments owns (get_or lanes origin.branch no_kept).head r ≡ lived_turned (lived_at (get_or lanes origin.branch no_kept).head r) (empty_head (length (map segment_of (list_at segments r))) (widths_at schema r))
    turned_is r g = λ i. lived_turned (lived_at k.head r) (head_piece (sym (length-map (list_at segments r) segment_of) i) (empty r g i))

    pub turned_ready : (r : ℕ) → r < length schema → IsLived (turned_in segments owns (get_or lanes origin.branch no_kept).head r)
    turned_ready r g =
        let b = before r g in
        subst IsLived (sym (turned_is r g)) (turned_lived origin.branch (length lanes) origin.position (widths_at schema r) (ss r) apart (kept_rows k r) (lived_at k.head r) (few_now r g) b.ascend (λ i h. (b.are i h).there) (kept_at_last r g))

    pub turned_at : (r : ℕ) → r < length schema → (more : MoreRow) (lv : Lived) → lv ≡ turned_in segments owns (get_or lanes origin.branch no_kept).head r → more.row ≡ turned_row (length (list_at segments r)) origin.position → length (kept_rows (get_or lanes origin.branch no_kept) r) < more.room
        → IsTurnedAt (segments_at (kept_layout schema lanes order segments).segments r) (widths_at schema r) origin.branch (length (kept_layout schema lanes order segments).lanes) origin.position (rows_at (lane_at (kept_layout schema lanes order segments) origin.branch) r) more lv (get_or owns r no_own)
    turned_at r g more lv e row room =
        let b : ℕ = origin.branch in
        let n : ℕ = origin.position in
        let ws : List ℕ = widths_at schema r in
        let old = before r g in
        let m = length-map (list_at segments r) segment_of in
        let lm = length-map (kept_rows k r) laid_row in
        let lived : lv ≡ lived_turned (lived_at k.head r) (empty_head (length (ss r)) ws) = e ∙ turned_is r g in
        let at : IsTurnedAt (ss r) ws b (length lanes) n (map laid_row (kept_rows k r)) more lv (get_or owns r no_own) = record {
          room = omega (arith, room, lm);
          row = row ∙ ap (λ s. turned_row s n) (sym m);
          kept = subst (λ (x : Lived). IsKeptAt (segments_with true b (length lanes) (ss r)) ws b n (map short_row (map laid_row (kept_rows k r)) ++ turned_row (length (ss r)) n ∷ []) x) (sym lived)
              (subst (λ (xs : List KeptRow). IsKeptAt (segments_with true b (length lanes) (ss r)) ws b n (xs ++ turned_row (length (ss r)) n ∷ []) (lived_turned (lived_at k.head r) (empty_head (length (ss r)) ws))) (sym (short_rows (kept_rows k r) (kept_at_last r g).short))
              (turned_kept b (length lanes) n ws (ss r) apart (kept_rows k r) (lived_at k.head r) (few_now r g) old.ascend (λ i h. (old.are i h).there) (kept_at_last r g)));
          empty = empty r g;
        } in
        subst (λ c. IsTurnedAt (segments_at l.segments r) ws b c n (rows_at (lane_at l b) r) more lv (get_or owns r no_own)) (sym count)
        (subst (λ (xs : List Segment). IsTurnedAt xs ws b (length lanes) n (rows_at (lane_at l b) r) more lv (get_or owns r no_own)) (sym (segments_here r g))
        (subst (λ (xs : List Row). IsTurnedAt (ss r) ws b (length lanes) n xs more lv (get_or owns r no_own)) (sym (rows_here r g)) at))

-- ---- a new branch that fits

module _ (schema : List Relation) (lanes : List KeptLane) (order : List VersionPlace) (segments : List KeptList) (whole : IsLaid (kept_layout schema lanes order segments)) (name : List ℕ) (origin : VersionPlace)
    (fit : fits (kept_dataset schema lanes order segments) (NewBranch name origin) ≡ true) where
  fit_place : (origin.branch < length (kept_layout schema lanes order segments).lanes) × (origin.position < length (lane_at (kept_layout schema lanes order segments) origin.branch).seconds)
  fit_place = made_there (kept_layout schema lanes order segments) origin (branch_parts (kept_dataset schema lanes order segments) name origin fit).made

  pub fit_few : length lanes < 1024
  fit_few = let f = (branch_parts (kept_dataset schema lanes order segments) name origin fit).room in let n = kept_count schema lanes order segments in omega (arith, f, n)

  pub fit_there : origin.branch < length lanes
  fit_there = let p = fit_place.0 in let n = length-map lanes (lane_of schema) in omega (arith, p, n)

  pub fit_made : origin.position < length (get_or lanes origin.branch no_kept).seconds
  fit_made = let p = fit_place.1 in let e = ap (λ (x : Lane). length x.seconds) (lane_kept schema lanes order segments origin.branch fit_there) in omega (arith, p, e)

  pub fit_after : IsLaid (with_branch (kept_layout schema lanes order segments) (is_last (kept_layout schema lanes order segments) origin) name origin)
  fit_after = laid_stays (kept_layout schema lanes order segments) (NewBranch name origin) whole fit

  pub fit_last : is_last (kept_layout schema lanes order segments) origin ≡ true → origin.position ≡ length (get_or lanes origin.branch no_kept).seconds - 1
  fit_last t = eqb-true origin.position (last_in (lane_at (kept_layout schema lanes order segments) origin.branch)) t ∙ ap (λ (x : Lane). length x.seconds - 1) (lane_kept schema lanes order segments origin.branch fit_there)

  pub fit_base : cond (origin.position == 0) (branch_at (kept_dataset schema lanes order segments) origin.branch).base origin ≡ made_at (kept_layout schema lanes order segments) origin
  fit_base = ap (λ b. cond (origin.position == 0) b origin) (sym (kept_base schema lanes order segments origin.branch fit_there) ∙ sym (ap (λ (x : Lane). x.base) (lane_kept schema lanes order segments origin.branch fit_there)))

-- what the last version of a branch has is seen at its last position, by which all its rows have begun
pub head_seen : (schema : List Relation) (lanes : List KeptLane) (order : List VersionPlace) (segments : List KeptList) (b n : ℕ) → IsStored schema lanes segments → IsLaid (kept_layout schema lanes order segments)
    → b < length lanes → n ≡ length (get_or lanes b no_kept).seconds - 1 → IsSeen schema segments (get_or lanes b no_kept) n (get_or lanes b no_kept).head
head_seen schema lanes order segments b n is laid h e =
    let k : KeptLane = get_or lanes b no_kept in
    let kept = is.each b h in
    subst (λ m. IsSeen schema segments k m k.head) (sym e)
    (record {
      wide = kept.head;
      at = λ r g.
          let at = kept.at r g in
          record {
            shown = subst (λ (rows : List KeptRow). Show (map segment_of (list_at segments r)) (length k.seconds - 1) (map laid_row rows) (lived_at k.head r).pieces) (sym (begun_whole (length k.seconds - 1) (kept_rows k r) (last r g))) at.shown;
            lived = at.lived;
            small = at.small;
            widths = at.widths;
          };
    })
  where
    last : (r : ℕ) → r < length schema → (i : ℕ) → i < length (kept_rows (get_or lanes b no_kept) r) → (kept_row_at (kept_rows (get_or lanes b no_kept) r) i).from ≤ length (get_or lanes b no_kept).seconds - 1
    last r g i lt =
        let rows : List KeptRow = kept_rows (get_or lanes b no_kept) r in
        let m = length-map rows laid_row in
        let from : (row_at (map laid_row rows) i).from ≡ (kept_row_at rows i).from = ap (λ (x : Row). x.from) (get_or-map laid_row rows i no_kept_row no_row lt) in
        let t = ((rows_of_lane schema lanes order segments laid b h r g).are i (omega (arith, lt, m))).begun in
        omega (arith, from, t)
