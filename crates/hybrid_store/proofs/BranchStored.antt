-- All that a store keeps, after a new branch.
use Rattle.std.proofs.Common.{◌≡◌, ◌≢◌, ◌⊎◌, inl, inr, ℕ, ◌+◌, ◌-◌, ◌<◌, ◌≤◌, Bool, true, List, [], ◌∷◌, ◌++◌, length, map, set, get_or, arith, ap, sym, ◌∙◌, subst}
use Rattle.std.proofs.lemmas.Bool.{cases_eq}
use Rattle.std.proofs.lemmas.List.{length-map, length-set, length_push, get_or_push, get_or_append_left, get_or-set_same, get_or-set_other}
use Rattle.db_value.specs.Relations.{widths_at}
use Rattle.db_value.specs.declared.schema.Relation.{Relation}
use Rattle.db_value.specs.declared.version.VersionPlace.{VersionPlace}
use Rattle.db_store.specs.Layout.{Segment, Row, Lane, Layout, lane_at, segments_at, rows_at}
use Rattle.db_store.specs.LayoutGrowth.{segments_with}
use Rattle.db_store.specs.LaidOut.{IsLaid, AreRowsOf}
use Rattle.hybrid_view.specs.Live.{lived_at}
use Rattle.bit_rows.specs.Rows.{laid_row}
use Rattle.bit_rows.specs.Kept.{KeptLane, no_kept, kept_rows}
use Rattle.hybrid_store.specs.Lanes.{segment_of, lane_of, kept_layout}
use Rattle.bit_rows.specs.Segments.{KeptList, no_list, most_segments, list_at, kept_at}
use Rattle.hybrid_store.specs.Stored.{head_number, HasHead, IsKeptAt, IsKept, IsStored}
use Rattle.hybrid_store.proofs.LayoutLemmas.{lane_kept, segments_kept, rows_kept}
use Rattle.hybrid_store.proofs.OwnLemmas.{has_at, kept_head}
use Rattle.hybrid_store.proofs.BegunKept.{with_count, kept_with}

-- the rows of a branch, as the layout has them
module _ (schema : List Relation) (lanes : List KeptLane) (order : List VersionPlace) (segments : List KeptList) (laid : IsLaid (kept_layout schema lanes order segments)) (b : ℕ) (there : b < length lanes) (r : ℕ) (h : r < length schema) where
  abbrev l : Layout
  l = kept_layout schema lanes order segments

  below : b < length (map (lane_of schema) lanes)
  below = let n = length-map lanes (lane_of schema) in omega (arith, n, there)

  here : lane_at (kept_layout schema lanes order segments) b ≡ lane_of schema (get_or lanes b no_kept)
  here = lane_kept schema lanes order segments b there

  pub rows_of_lane : AreRowsOf (map segment_of (list_at segments r)) b (length (get_or lanes b no_kept).seconds) (map laid_row (kept_rows (get_or lanes b no_kept) r))
  rows_of_lane =
      subst (λ (ss : List Segment). AreRowsOf ss b (length (get_or lanes b no_kept).seconds) (map laid_row (kept_rows (get_or lanes b no_kept) r))) (segments_kept schema lanes order segments r h)
      (subst (λ (rows : List Row). AreRowsOf (segments_at l.segments r) b (length (get_or lanes b no_kept).seconds) rows) (ap (λ (x : Lane). rows_at x r) here ∙ rows_kept schema (get_or lanes b no_kept) r h)
      (subst (λ n. AreRowsOf (segments_at l.segments r) b n (rows_at (lane_at l b) r)) (ap (λ (x : Lane). length x.seconds) here) ((laid.lanes b below).rows r h)))

-- each branch of a store has its head in each relation
pub store_head : (schema : List Relation) (lanes : List KeptLane) (order : List VersionPlace) (segments : List KeptList) → IsStored schema lanes segments → IsLaid (kept_layout schema lanes order segments)
    → (b r : ℕ) → b < length lanes → r < length schema → HasHead b (list_at segments r) (kept_rows (get_or lanes b no_kept) r)
store_head schema lanes order segments is laid b r h g =
    let k : KeptLane = get_or lanes b no_kept in
    kept_head (list_at segments r) (widths_at schema r) b (length k.seconds - 1) (kept_rows k r) (lived_at k.head r) (λ i lt. ((rows_of_lane schema lanes order segments laid b h r g).are i lt).there) ((is.each b h).at r g)

-- and it is there
pub store_head_there : (schema : List Relation) (lanes : List KeptLane) (order : List VersionPlace) (segments : List KeptList) → IsStored schema lanes segments → IsLaid (kept_layout schema lanes order segments)
    → (b r : ℕ) → b < length lanes → r < length schema → head_number segments b r < length (list_at segments r)
store_head_there schema lanes order segments is laid b r h g =
    let head = store_head schema lanes order segments is laid b r h g in
    let at = has_at (head_number segments b r) (kept_rows (get_or lanes b no_kept) r) head.own in
    let below = head.there at.0 at.1.0 in
    let e = at.1.1 in
    omega (arith, below, e)

module _ (schema : List Relation) (lanes : List KeptLane) (order : List VersionPlace) (segments news : List KeptList) (q : Bool) (b : ℕ) (old new : KeptLane) (there : b < length lanes)
    (is : IsStored schema lanes segments) (laid : IsLaid (kept_layout schema lanes order segments)) (wide : length news ≡ length schema)
    (rooms : (r : ℕ) → r < length schema → most_segments ≤ (get_or news r no_list).room)
    (put : (r : ℕ) → r < length schema → map segment_of (list_at news r) ≡ segments_with q b (length lanes) (map segment_of (list_at segments r)))
    (widths : (r s : ℕ) → r < length schema → s < length (list_at news r) → (kept_at (list_at news r) s).rows.widths ≡ widths_at schema r)
    (old_kept : IsKept schema news b old) (new_kept : IsKept schema news (length lanes) new) where
  abbrev c : ℕ
  c = length lanes

  -- another branch keeps what it has
  pub other_kept : (x : ℕ) → x < length lanes → (q ≡ true → x ≢ b) → IsKept schema news x (get_or lanes x no_kept)
  other_kept x h away =
      let k : KeptLane = get_or lanes x no_kept in
      let was = is.each x h in
      record {
        rows = was.rows;
        head = was.head;
        at = λ r g.
            subst (λ (xs : List Segment). IsKeptAt xs (widths_at schema r) x (length k.seconds - 1) (kept_rows k r) (lived_at k.head r)) (sym (put r g))
            (kept_with q b (length lanes) 0 0 (widths_at schema r) (map segment_of (list_at segments r)) (λ e. absurd (omega (arith, e, there))) x (length k.seconds - 1) (kept_rows k r) (lived_at k.head r)
            (λ e. absurd (omega (arith, e, h))) away (λ i lt. ((rows_of_lane schema lanes order segments laid x h r g).are i lt).there) (was.at r g));
      }

  pub branch_stored : IsStored schema (set lanes b old ++ new ∷ []) news
  branch_stored =
      let ls = length-set lanes b old in
      let lp = length_push (set lanes b old) new in
      record {
        wide = wide;
        room = rooms;
        few = λ r g.
            let f = is.few r g in
            let e = ap (λ (xs : List Segment). length xs) (put r g) in
            let n = length-map (list_at news r) segment_of in
            let m = length-map (list_at segments r) segment_of in
            let w = with_count q b (length lanes) (map segment_of (list_at segments r)) in
            omega (arith, f, e, n, m, w, ls, lp);
        widths = widths;
        each = λ x h. each_kept x (omega (arith, h, ls, lp)) (cases_eq x (length lanes));
      }
    where
      before : (x : ℕ) → x < length lanes → (b ≡ x) ⊎ (b ≢ x) → IsKept schema news x (get_or (set lanes b old) x no_kept)
      before x h (inl e) = subst (λ y. IsKept schema news y (get_or (set lanes b old) y no_kept)) e (subst (IsKept schema news b) (sym (get_or-set_same lanes b old no_kept there)) old_kept)
      before x h (inr n) = subst (IsKept schema news x) (sym (get_or-set_other lanes b x old no_kept (λ e. n (sym e)))) (other_kept x h (λ t e. n (sym e)))

      each_kept : (x : ℕ) → x < length lanes + 1 → (x ≡ length lanes) ⊎ (x ≢ length lanes) → IsKept schema news x (get_or (set lanes b old ++ new ∷ []) x no_kept)
      each_kept x h (inl e) =
          let ls = length-set lanes b old in
          subst (IsKept schema news x) (sym (get_or_push (set lanes b old) new no_kept x (ls ∙ sym e))) (subst (λ y. IsKept schema news y new) (sym e) new_kept)
      each_kept x h (inr n) =
          let ls = length-set lanes b old in
          let lt : x < length lanes = omega (arith, h, n) in
          subst (IsKept schema news x) (sym (get_or_append_left (set lanes b old) (new ∷ []) no_kept x (omega (arith, lt, ls)))) (before x lt (cases_eq b x))
