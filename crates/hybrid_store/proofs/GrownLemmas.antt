-- All that a store keeps, after a commit is installed.
use Rattle.std.proofs.Common.{◌≡◌, ◌≢◌, ◌⊎◌, inl, inr, ℕ, suc, ◌-◌, ◌<◌, ◌≤◌, List, [], ◌∷◌, ◌++◌, length, map, set, get_or, Option, refl, arith, ap, sym, ◌∙◌, subst}
use Rattle.std.proofs.lemmas.Bool.{cases_eq}
use Rattle.std.proofs.lemmas.List.{length-map, length-set, length_push, get_or-set_same, get_or-set_other}
use Rattle.db_value.specs.Relations.{widths_at}
use Rattle.db_value.specs.declared.schema.Relation.{Relation}
use Rattle.db_value.specs.declared.version.VersionPlace.{VersionPlace}
use Rattle.db_value.specs.declared.entry.Change.{Change}
use Rattle.record_page.specs.Page.{Rows}
use Rattle.commit_history.specs.Runs.{Next, next_of}
use Rattle.db_store.specs.Layout.{Segment, Row, Lane, Layout, lane_at, segments_at, rows_at}
use Rattle.db_store.specs.LayoutGrowth.{puts, touches, segment_after, row_after, segments_after, last_in, after_commit}
use Rattle.db_store.specs.LaidOut.{IsLaid, row_at}
use Rattle.db_store.proofs.SegmentLemmas.{at_relation}
use Rattle.hybrid_view.specs.Live.{Lived, lived_at}
use Rattle.bit_rows.specs.Rows.{kept_row_at, laid_row, next_at, pushed_row}
use Rattle.bit_rows.specs.Kept.{KeptLane, no_kept, kept_rows, nexts_at}
use Rattle.hybrid_store.specs.Lanes.{segment_of, lane_of, kept_layout}
use Rattle.bit_rows.specs.Segments.{KeptRecords, KeptList, no_rows, no_list, most_segments, list_at, kept_at}
use Rattle.hybrid_store.specs.Ready.{IsMadeAt, IsMadeOf, no_own}
use Rattle.hybrid_store.specs.Stored.{head_number, HasHead, IsKeptAt, IsKept, IsStored}
use Rattle.hybrid_store.proofs.LayoutLemmas.{lane_kept, segments_kept, rows_kept}
use Rattle.hybrid_store.proofs.CommitLayout.{commit_layout}
use Rattle.hybrid_store.proofs.OwnLemmas.{own_there, kept_head}
use Rattle.hybrid_store.proofs.InstallLemmas.{kept_stays, next_is, nexts_count, laid_after, made_kept, segments_put}

module _ (schema : List Relation) (lanes : List KeptLane) (order : List VersionPlace) (segments : List KeptList) (b : ℕ) (second : Option VersionPlace) (cs : List Change) (nexts : List (List Next)) (head : List Lived) (owns : List Rows)
    (there : b < length lanes) (is : IsStored schema lanes segments) (laid : IsLaid (kept_layout schema lanes order segments)) (m : IsMadeOf (kept_layout schema lanes order segments) b second cs b second nexts head owns) where
  abbrev k : KeptLane
  k = get_or lanes b no_kept

  abbrev l : Layout
  l = kept_layout schema lanes order segments

  abbrev ss : ℕ → List Segment
  ss r = map segment_of (list_at segments r)

  here : (c : ℕ) → c < length lanes → lane_at (kept_layout schema lanes order segments) c ≡ lane_of schema (get_or lanes c no_kept)
  here c h = lane_kept schema lanes order segments c h

  last : last_in (lane_at (kept_layout schema lanes order segments) b) ≡ length (get_or lanes b no_kept).seconds - 1
  last = ap (λ (x : Lane). length x.seconds - 1) (here b there)

  rows_eq : (c r : ℕ) → c < length lanes → r < length schema → rows_at (lane_at (kept_layout schema lanes order segments) c) r ≡ map laid_row (kept_rows (get_or lanes c no_kept) r)
  rows_eq c r h g = ap (λ (x : Lane). rows_at x r) (here c h) ∙ rows_kept schema (get_or lanes c no_kept) r g

  below : (c : ℕ) → c < length lanes → c < length (map (lane_of schema) lanes)
  below c h = let n = length-map lanes (lane_of schema) in omega (arith, n, h)

  some : 0 < length (get_or lanes b no_kept).seconds
  some = let s = (laid.lanes b (below b there)).some in let e = ap (λ (x : Lane). length x.seconds) (here b there) in omega (arith, s, e)

  -- the rows of every branch are of segments that are there
  rows_there : (c r : ℕ) → c < length lanes → r < length schema → (i : ℕ) → i < length (map laid_row (kept_rows (get_or lanes c no_kept) r)) → (row_at (map laid_row (kept_rows (get_or lanes c no_kept) r)) i).segment < length (map segment_of (list_at segments r))
  rows_there c r h g =
      subst (λ (xs : List Segment). (i : ℕ) → i < length (map laid_row (kept_rows (get_or lanes c no_kept) r)) → (row_at (map laid_row (kept_rows (get_or lanes c no_kept) r)) i).segment < length xs) (segments_kept schema lanes order segments r g)
      (subst (λ (rows : List Row). (i : ℕ) → i < length rows → (row_at rows i).segment < length (segments_at l.segments r)) (rows_eq c r h g) (λ i lt. (((laid.lanes c (below c h)).rows r g).are i lt).there))

  at : (r : ℕ) → r < length schema → IsKeptAt (map segment_of (list_at segments r)) (widths_at schema r) b (length (get_or lanes b no_kept).seconds - 1) (kept_rows (get_or lanes b no_kept) r) (lived_at (get_or lanes b no_kept).head r)
  at r g = (is.each b there).at r g

  made : (r : ℕ) → r < length schema → IsMadeAt (map segment_of (list_at segments r)) (widths_at schema r) b (length (get_or lanes b no_kept).seconds - 1) r cs (map laid_row (kept_rows (get_or lanes b no_kept) r)) (nexts_at nexts r) (lived_at head r) (get_or owns r no_own)
  made r g =
      let ws : List ℕ = widths_at schema r in
      subst (λ (xs : List Segment). IsMadeAt xs ws b (length k.seconds - 1) r cs (map laid_row (kept_rows k r)) (nexts_at nexts r) (lived_at head r) (get_or owns r no_own)) (segments_kept schema lanes order segments r g)
      (subst (λ (rows : List Row). IsMadeAt (segments_at l.segments r) ws b (length k.seconds - 1) r cs rows (nexts_at nexts r) (lived_at head r) (get_or owns r no_own)) (rows_eq b r there g)
      (subst (λ n. IsMadeAt (segments_at l.segments r) ws b n r cs (rows_at (lane_at l b) r) (nexts_at nexts r) (lived_at head r) (get_or owns r no_own)) last (m.at r g)))

  -- the head of the branch is there
  pub head_there : (r : ℕ) → r < length schema → head_number segments b r < length (list_at segments r)
  head_there r g =
      let t = own_there (length (ss r)) (head_number segments b r) (kept_rows k r) (at r g).own (rows_there b r there g) in
      let ls = length-map (list_at segments r) segment_of in
      omega (arith, t, ls)

  -- and one row of the branch is of it
  pub rows_head : (r : ℕ) → r < length schema → HasHead b (list_at segments r) (kept_rows (get_or lanes b no_kept) r)
  rows_head r g = kept_head (list_at segments r) (widths_at schema r) b (length k.seconds - 1) (kept_rows k r) (lived_at k.head r) (rows_there b r there g) (at r g)

  -- ---- what is asked of what is ready

  pub ready_count : length nexts ≡ length (get_or lanes b no_kept).rows
  ready_count = m.ready ∙ sym (is.each b there).rows

  pub ready_counts : (r : ℕ) → r < length (get_or lanes b no_kept).rows → length (nexts_at nexts r) ≡ length (kept_rows (get_or lanes b no_kept) r)
  ready_counts r h =
      let w = (is.each b there).rows in
      let g : r < length schema = omega (arith, h, w) in
      nexts_count (ss r) (widths_at schema r) b (length k.seconds - 1) r cs (kept_rows k r) [] (nexts_at nexts r) (lived_at k.head r) (lived_at head r) (get_or owns r no_own) (at r g) (made r g)

  pub ready_each : (r i : ℕ) → r < length (get_or lanes b no_kept).rows → i < length (kept_rows (get_or lanes b no_kept) r)
      → next_at (nexts_at nexts r) i ≡ next_of (kept_row_at (kept_rows (get_or lanes b no_kept) r) i).deltas (next_at (nexts_at nexts r) i).delta.item
  ready_each r i h lt =
      let w = (is.each b there).rows in
      let g : r < length schema = omega (arith, h, w) in
      next_is (ss r) (widths_at schema r) b (length k.seconds - 1) r cs (kept_rows k r) [] (nexts_at nexts r) (lived_at k.head r) (lived_at head r) (get_or owns r no_own) (at r g) (made r g) i lt

  -- ---- what is kept after it

  module _ (new : KeptLane) (news : List KeptList)
      (new_is : new ≡ record (get_or lanes b no_kept) { seconds = (get_or lanes b no_kept).seconds ++ second ∷ []; rows = new.rows; head = head })
      (wide : length new.rows ≡ length (get_or lanes b no_kept).rows)
      (counts : (r : ℕ) → r < length (get_or lanes b no_kept).rows → length (kept_rows new r) ≡ length (kept_rows (get_or lanes b no_kept) r))
      (each : (r i : ℕ) → r < length (get_or lanes b no_kept).rows → i < length (kept_rows (get_or lanes b no_kept) r) → kept_row_at (kept_rows new r) i ≡ pushed_row (kept_row_at (kept_rows (get_or lanes b no_kept) r) i) (next_at (nexts_at nexts r) i))
      (long : length news ≡ length segments)
      (put : (r : ℕ) → r < length segments → get_or news r no_list ≡ record (get_or segments r no_list) { all = set (list_at segments r) (head_number segments b r) (record (kept_at (list_at segments r) (head_number segments b r)) { rows = get_or owns r no_own }) }) where
    in_rows : (r : ℕ) → r < length schema → r < length (get_or lanes b no_kept).rows
    in_rows r g = let w = (is.each b there).rows in omega (arith, g, w)

    in_lists : (r : ℕ) → r < length schema → r < length segments
    in_lists r g = let w = is.wide in omega (arith, g, w)

    lists_put : (r : ℕ) → r < length schema → map segment_of (list_at news r) ≡ map (segment_after b (puts cs r)) (map segment_of (list_at segments r))
    lists_put r g =
        ap (λ (x : KeptList). map segment_of x.all) (put r (in_lists r g))
        ∙ segments_put (ss r) (widths_at schema r) b (length k.seconds - 1) r cs (kept_rows k r) (kept_rows new r) (nexts_at nexts r) (lived_at k.head r) (lived_at head r) (get_or owns r no_own) (at r g) (made r g) (list_at segments r) refl (head_there r g)

    rows_after : (r : ℕ) → r < length schema
        → map laid_row (kept_rows new r)
        ≡ map (row_after (segments_at (kept_layout schema lanes order segments).segments r) (segments_at (segments_after (kept_layout schema lanes order segments) b cs) r) (touches cs r) (last_in (lane_at (kept_layout schema lanes order segments) b))) (map laid_row (kept_rows (get_or lanes b no_kept) r))
    rows_after r g =
        let sk = segments_kept schema lanes order segments r g in
        let af : segments_at (segments_after l b cs) r ≡ map (segment_after b (puts cs r)) (ss r) = at_relation schema (λ q. map (segment_after b (puts cs q)) (segments_at l.segments q)) r [] g ∙ ap (map (segment_after b (puts cs r))) sk in
        laid_after (ss r) (widths_at schema r) b (length k.seconds - 1) r cs (kept_rows k r) (kept_rows new r) (nexts_at nexts r) (lived_at k.head r) (lived_at head r) (get_or owns r no_own) (at r g) (made r g) (counts r (in_rows r g)) (λ i h. each r i (in_rows r g) h)
        ∙ (λ i. map (row_after (sym sk i) (sym af i) (touches cs r) (sym last i)) (map laid_row (kept_rows k r)))

    pub layout_is : kept_layout schema (set lanes b new) (order ++ record { branch = b; position = length (get_or lanes b no_kept).seconds } ∷ []) news ≡ after_commit (kept_layout schema lanes order segments) b second cs
    layout_is = commit_layout schema lanes order segments news b second cs new head there new_is rows_after lists_put

    seconds_is : suc (length (get_or lanes b no_kept).seconds - 1) ≡ length new.seconds - 1
    seconds_is = let e = ap (λ (x : KeptLane). length x.seconds) new_is in let p = length_push k.seconds second in let s = some in omega (arith, e, p, s)

    own_kept : IsKept schema news b new
    own_kept = record {
      rows = wide ∙ (is.each b there).rows;
      head = ap (λ (x : KeptLane). length x.head) new_is ∙ m.wide;
      at = λ r g.
          let ws : List ℕ = widths_at schema r in
          subst (λ (xs : List Segment). IsKeptAt xs ws b (length new.seconds - 1) (kept_rows new r) (lived_at new.head r)) (sym (lists_put r g))
          (subst (λ n. IsKeptAt (map (segment_after b (puts cs r)) (ss r)) ws b n (kept_rows new r) (lived_at new.head r)) seconds_is
          (subst (λ (xs : List Lived). IsKeptAt (map (segment_after b (puts cs r)) (ss r)) ws b (suc (length k.seconds - 1)) (kept_rows new r) (lived_at xs r)) (sym (ap (λ (x : KeptLane). x.head) new_is))
          (made_kept (ss r) ws b (length k.seconds - 1) r cs (kept_rows k r) (kept_rows new r) (nexts_at nexts r) (lived_at k.head r) (lived_at head r) (get_or owns r no_own) (at r g) (made r g) (counts r (in_rows r g)) (λ i h. each r i (in_rows r g) h))));
    }

    other_kept : (c : ℕ) → c < length lanes → c ≢ b → IsKept schema news c (get_or lanes c no_kept)
    other_kept c h n =
        let x : KeptLane = get_or lanes c no_kept in
        let old = is.each c h in
        record {
          rows = old.rows;
          head = old.head;
          at = λ r g.
              subst (λ (xs : List Segment). IsKeptAt xs (widths_at schema r) c (length x.seconds - 1) (kept_rows x r) (lived_at x.head r)) (sym (lists_put r g))
              (kept_stays (ss r) (widths_at schema r) c b (length x.seconds - 1) (puts cs r) (kept_rows x r) (lived_at x.head r) n (rows_there c r h g) (old.at r g));
        }

    pub stored_is : IsStored schema (set lanes b new) news
    stored_is =
        let ls = length-set lanes b new in
        record {
          wide = long ∙ is.wide;
          room = λ r g. subst (λ n. most_segments ≤ n) (sym (ap (λ (x : KeptList). x.room) (put r (in_lists r g)))) (is.room r g);
          few = λ r g.
              let f = is.few r g in
              let e = ap (λ (x : KeptList). length x.all) (put r (in_lists r g)) in
              let n = length-set (list_at segments r) (head_number segments b r) (record (kept_at (list_at segments r) (head_number segments b r)) { rows = get_or owns r no_own }) in
              omega (arith, f, e, n, ls);
          widths = widths;
          each = λ c h. each_kept c (omega (arith, h, ls)) (cases_eq b c);
        }
      where
        each_kept : (c : ℕ) → c < length lanes → (b ≡ c) ⊎ (b ≢ c) → IsKept schema news c (get_or (set lanes b new) c no_kept)
        each_kept c h (inl e) = subst (λ x. IsKept schema news x (get_or (set lanes b new) x no_kept)) e (subst (IsKept schema news b) (sym (get_or-set_same lanes b new no_kept there)) own_kept)
        each_kept c h (inr n) = subst (IsKept schema news c) (sym (get_or-set_other lanes b c new no_kept (λ e. n (sym e)))) (other_kept c h (λ e. n (sym e)))

        widths : (r s : ℕ) → r < length schema → s < length (list_at news r) → (kept_at (list_at news r) s).rows.widths ≡ widths_at schema r
        widths r s g lt =
            let x : KeptRecords = record (kept_at (list_at segments r) (head_number segments b r)) { rows = get_or owns r no_own } in
            let e = put r (in_lists r g) in
            let n = ap (λ (y : KeptList). length y.all) e in
            let ls = length-set (list_at segments r) (head_number segments b r) x in
            ap (λ (y : KeptList). (kept_at y.all s).rows.widths) e ∙ by (omega (arith, lt, n, ls)) (cases_eq (head_number segments b r) s)
          where
            by : s < length (list_at segments r) → (head_number segments b r ≡ s) ⊎ (head_number segments b r ≢ s)
                → (kept_at (set (list_at segments r) (head_number segments b r) (record (kept_at (list_at segments r) (head_number segments b r)) { rows = get_or owns r no_own })) s).rows.widths ≡ widths_at schema r
            by q (inl t) =
                let x : KeptRecords = record (kept_at (list_at segments r) (head_number segments b r)) { rows = get_or owns r no_own } in
                ap (λ y. (kept_at (set (list_at segments r) (head_number segments b r) x) y).rows.widths) (sym t)
                ∙ ap (λ (y : KeptRecords). y.rows.widths) (get_or-set_same (list_at segments r) (head_number segments b r) x no_rows (head_there r g))
                ∙ (made r g).own_widths
            by q (inr t) =
                let x : KeptRecords = record (kept_at (list_at segments r) (head_number segments b r)) { rows = get_or owns r no_own } in
                ap (λ (y : KeptRecords). y.rows.widths) (get_or-set_other (list_at segments r) (head_number segments b r) s x no_rows (λ e. t (sym e)))
                ∙ is.widths r s g q
