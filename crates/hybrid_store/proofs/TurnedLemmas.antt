-- What a store keeps after the origin of a new branch got another head, or didn't.
use Rattle.std.proofs.Common.{◌≡◌, ◌≢◌, ◌⊎◌, inl, inr, ℕ, suc, ◌+◌, ◌-◌, ◌*◌, ◌<◌, ◌≤◌, ◌==◌, Bool, true, false, List, [], ◌∷◌, ◌++◌, length, map, set, get_or, Option, Some, None, refl, arith, ap, sym, ◌∙◌, subst}
use Rattle.std.specs.Prelude.{IfSome}
use Rattle.std.proofs.lemmas.Bool.{cases_eq, eq-eqb, eqb-true, ne_eqb, false≢true}
use Rattle.std.proofs.lemmas.List.{length-map, length-set, length_push, map-append, get_or-map, get_or-set_same, get_or-set_other, ext_get_or, set-get_or, append_assoc}
use Rattle.db_value.specs.Relations.{widths_at}
use Rattle.db_value.specs.Schema.{most_relations}
use Rattle.db_value.specs.declared.schema.Relation.{Relation}
use Rattle.db_value.specs.declared.version.VersionPlace.{VersionPlace}
use Rattle.record_page.specs.Page.{Rows}
use Rattle.db_store.specs.Layout.{Segment, Row, Lane, Layout, no_segment, lane_at, segments_at, rows_at, head_segment}
use Rattle.db_store.specs.LayoutGrowth.{is_head_of, internal_if, without_head, segments_with, rows_with, is_last, last_in}
use Rattle.db_store.specs.LaidOut.{IsLaid, head_at, row_at}
use Rattle.hybrid_view.specs.Deltas.{slots_of}
use Rattle.hybrid_view.specs.Live.{Lived, lived_at}
use Rattle.bit_rows.specs.Short.{shortest}
use Rattle.bit_rows.specs.Rows.{KeptRow, kept_row_at, laid_row}
use Rattle.bit_rows.specs.Kept.{KeptLane, no_kept, kept_rows, more_at}
use Rattle.hybrid_store.specs.Lanes.{segment_of, lane_of, kept_layout}
use Rattle.bit_rows.specs.Segments.{KeptRecords, KeptList, no_rows, no_list, most_segments, list_at, kept_at}
use Rattle.hybrid_store.specs.Begun.{turned_row}
use Rattle.hybrid_store.specs.Ready.{no_own}
use Rattle.hybrid_store.specs.ReadyBranch.{Turn, short_row, IsTurnedAt, IsTurnedOf, IsTurnedIf, CanTake, TurnsIf}
use Rattle.hybrid_store.specs.Stored.{head_number, IsKeptAt, IsStored}
use Rattle.hybrid_store.proofs.LayoutLemmas.{lane_kept, segments_kept, rows_kept}
use Rattle.hybrid_store.proofs.BegunKept.{kept_with}
use Rattle.hybrid_store.proofs.BranchStored.{rows_of_lane, store_head, store_head_there}

-- rows whose deltas are shortest are kept as the layout has them
pub short_rows : (rows : List KeptRow) → ((i : ℕ) → i < length rows → map shortest (map slots_of (kept_row_at rows i).deltas) ≡ (kept_row_at rows i).deltas) → map short_row (map laid_row rows) ≡ rows
short_rows [] f = refl
short_rows (x ∷ xs) f = λ i. record { segment = x.segment; from = x.from; deltas = f 0 (omega arith) i } ∷ short_rows xs (λ j h. f (suc j) (omega (arith, h))) i

-- a list in which the branch's head became internal
module _ (b h : ℕ) (all : List KeptRecords) (there : h < length all) (headed : (s : ℕ) → s < length (map segment_of all) → is_head_of b (head_at (map segment_of all) s) ≡ (s == h)) where
  abbrev closed : List KeptRecords
  closed = set all h (record (kept_at all h) { head = None })

  seg : (s : ℕ) → s < length all → get_or (map segment_of all) s no_segment ≡ segment_of (kept_at all s)
  seg s lt = get_or-map segment_of all s no_rows no_segment lt

  test : (s : ℕ) → s < length all → is_head_of b (kept_at all s).head ≡ (s == h)
  test s lt = let n = length-map all segment_of in ap (λ (y : Segment). is_head_of b y.head) (sym (seg s lt)) ∙ headed s (omega (arith, lt, n))

  one : (s : ℕ) → s < length all → (h ≡ s) ⊎ (h ≢ s) → segment_of (kept_at closed s) ≡ without_head b (segment_of (kept_at all s))
  one s lt (inl e) =
      ap (λ k. segment_of (kept_at closed k)) (sym e)
      ∙ ap segment_of (get_or-set_same all h (record (kept_at all h) { head = None }) no_rows there)
      ∙ ap (λ k. internal_if true (segment_of (kept_at all k))) e
      ∙ ap (λ t. internal_if t (segment_of (kept_at all s))) (sym (test s lt ∙ eq-eqb s h (sym e)))
  one s lt (inr n) =
      ap segment_of (get_or-set_other all h s (record (kept_at all h) { head = None }) no_rows (λ e. n (sym e)))
      ∙ ap (λ t. internal_if t (segment_of (kept_at all s))) (sym (test s lt ∙ ne_eqb s h (λ e. n (sym e))))

  pub list_closed : map segment_of (set all h (record (kept_at all h) { head = None })) ≡ map (without_head b) (map segment_of all)
  list_closed =
      let ls = length-set all h (record (kept_at all h) { head = None }) in
      let lm = length-map closed segment_of in
      let la = length-map all segment_of in
      let lf = length-map (map segment_of all) (without_head b) in
      ext_get_or no_segment (map segment_of closed) (map (without_head b) (map segment_of all)) (omega (arith, ls, lm, la, lf))
      (λ s k.
      let lt : s < length all = omega (arith, k, lm, ls) in
      get_or-map segment_of closed s no_rows no_segment (omega (arith, k, lm))
      ∙ one s lt (cases_eq h s)
      ∙ sym (get_or-map (without_head b) (map segment_of all) s no_segment no_segment (omega (arith, lt, la)) ∙ ap (without_head b) (seg s lt)))

  pub closed_widths : (ws : List ℕ) → ((s : ℕ) → s < length all → (kept_at all s).rows.widths ≡ ws) → (s : ℕ) → s < length all → (h ≡ s) ⊎ (h ≢ s) → (kept_at closed s).rows.widths ≡ ws
  closed_widths ws f s lt (inl e) =
      ap (λ k. (kept_at closed k).rows.widths) (sym e)
      ∙ ap (λ (x : KeptRecords). x.rows.widths) (get_or-set_same all h (record (kept_at all h) { head = None }) no_rows there)
      ∙ f h there
  closed_widths ws f s lt (inr n) = ap (λ (x : KeptRecords). x.rows.widths) (get_or-set_other all h s (record (kept_at all h) { head = None }) no_rows (λ e. n (sym e))) ∙ f s lt

-- another segment has these widths
pub pushed_widths : (all : List KeptRecords) (x : KeptRecords) (ws : List ℕ) → ((s : ℕ) → s < length all → (kept_at all s).rows.widths ≡ ws) → x.rows.widths ≡ ws → (s : ℕ) → s < length (all ++ x ∷ []) → (kept_at (all ++ x ∷ []) s).rows.widths ≡ ws
pushed_widths [] x ws f e s h = by s h
  where
    by : (s : ℕ) → s < 1 → (kept_at (x ∷ []) s).rows.widths ≡ ws
    by s h = let z : s ≡ 0 = omega (arith, h) in ap (λ k. (kept_at (x ∷ []) k).rows.widths) z ∙ e
pushed_widths (y ∷ ys) x ws f e s h = by (pushed_widths ys x ws (λ i g. f (suc i) (omega (arith, g))) e (s - 1)) (cases_eq s 0)
  where
    by : (s - 1 < length (ys ++ x ∷ []) → (kept_at (ys ++ x ∷ []) (s - 1)).rows.widths ≡ ws) → (s ≡ 0) ⊎ (s ≢ 0) → (kept_at ((y ∷ ys) ++ x ∷ []) s).rows.widths ≡ ws
    by rest (inl z) = ap (λ k. (kept_at ((y ∷ ys) ++ x ∷ []) k).rows.widths) z ∙ f 0 (omega arith)
    by rest (inr n) =
        let one : s ≡ suc (s - 1) = omega (arith, n) in
        ap (λ k. (kept_at ((y ∷ ys) ++ x ∷ []) k).rows.widths) one ∙ rest (omega (arith, h, n))

-- what the origin has, and the segments before the new branch's head is added
pub record IsAfter (schema : List Relation) (lanes : List KeptLane) (segments : List KeptList) (q : Bool) (b n : ℕ) (news : List KeptLane) (lists : List KeptList) : Type 0 where
  pub others : news ≡ set lanes b (get_or news b no_kept)
  pub lane : get_or news b no_kept ≡ record (get_or lanes b no_kept) { rows = (get_or news b no_kept).rows; head = (get_or news b no_kept).head }
  pub rows : (r : ℕ) → r < length schema → map laid_row (kept_rows (get_or news b no_kept) r) ≡ rows_with q n (map segment_of (list_at segments r)) (map laid_row (kept_rows (get_or lanes b no_kept) r))
  pub long : length lists ≡ length schema
  pub put : (r : ℕ) → r < length schema → map segment_of (list_at lists r) ++ head_segment (length lanes) ∷ [] ≡ segments_with q b (length lanes) (map segment_of (list_at segments r))
  pub widths : (r s : ℕ) → r < length schema → s < length (list_at lists r) → (kept_at (list_at lists r) s).rows.widths ≡ widths_at schema r
  pub room : (r : ℕ) → r < length schema → most_segments ≤ (get_or lists r no_list).room
  pub few : (r : ℕ) → r < length schema → length (list_at lists r) ≤ 2 * length lanes + 1
  pub rows_count : length (get_or news b no_kept).rows ≡ length schema
  pub head_count : length (get_or news b no_kept).head ≡ length schema
  pub kept : (r : ℕ) → r < length schema → IsKeptAt (segments_with q b (length lanes) (map segment_of (list_at segments r))) (widths_at schema r) b (length (get_or lanes b no_kept).seconds - 1) (kept_rows (get_or news b no_kept) r) (lived_at (get_or news b no_kept).head r)

module _ (schema : List Relation) (lanes : List KeptLane) (order : List VersionPlace) (segments : List KeptList) (is : IsStored schema lanes segments) (whole : IsLaid (kept_layout schema lanes order segments))
    (origin : VersionPlace) (there : origin.branch < length lanes) where
  abbrev b : ℕ
  b = origin.branch

  abbrev k : KeptLane
  k = get_or lanes origin.branch no_kept

  abbrev l : Layout
  l = kept_layout schema lanes order segments

  abbrev ss : ℕ → List Segment
  ss r = map segment_of (list_at segments r)

  here : lane_at (kept_layout schema lanes order segments) origin.branch ≡ lane_of schema (get_or lanes origin.branch no_kept)
  here = lane_kept schema lanes order segments origin.branch there

  rows_here : (r : ℕ) → r < length schema → rows_at (lane_at (kept_layout schema lanes order segments) origin.branch) r ≡ map laid_row (kept_rows (get_or lanes origin.branch no_kept) r)
  rows_here r g = ap (λ (x : Lane). rows_at x r) here ∙ rows_kept schema k r g

  at : (r : ℕ) → r < length schema → IsKeptAt (map segment_of (list_at segments r)) (widths_at schema r) origin.branch (length (get_or lanes origin.branch no_kept).seconds - 1) (kept_rows (get_or lanes origin.branch no_kept) r) (lived_at (get_or lanes origin.branch no_kept).head r)
  at r g = (is.each b there).at r g

  rows_there : (r : ℕ) → r < length schema → (i : ℕ) → i < length (map laid_row (kept_rows (get_or lanes origin.branch no_kept) r)) → (row_at (map laid_row (kept_rows (get_or lanes origin.branch no_kept) r)) i).segment < length (map segment_of (list_at segments r))
  rows_there r g i h = ((rows_of_lane schema lanes order segments whole b there r g).are i h).there

  head_there : (r : ℕ) → r < length schema → head_number segments origin.branch r < length (list_at segments r)
  head_there r g = store_head_there schema lanes order segments is whole origin.branch r there g

  turned_at : (t : Turn) → IsTurnedOf (kept_layout schema lanes order segments) origin t → (r : ℕ) → r < length schema
      → IsTurnedAt (map segment_of (list_at segments r)) (widths_at schema r) origin.branch (length lanes) origin.position (map laid_row (kept_rows (get_or lanes origin.branch no_kept) r)) (more_at t.more r) (lived_at t.head r) (get_or t.owns r no_own)
  turned_at t m r g =
      let ws : List ℕ = widths_at schema r in
      subst (λ (xs : List Segment). IsTurnedAt xs ws b (length lanes) origin.position (map laid_row (kept_rows k r)) (more_at t.more r) (lived_at t.head r) (get_or t.owns r no_own)) (segments_kept schema lanes order segments r g)
      (subst (λ (rows : List Row). IsTurnedAt (segments_at l.segments r) ws b (length lanes) origin.position rows (more_at t.more r) (lived_at t.head r) (get_or t.owns r no_own)) (rows_here r g)
      (subst (λ n. IsTurnedAt (segments_at l.segments r) ws b n origin.position (rows_at (lane_at l b) r) (more_at t.more r) (lived_at t.head r) (get_or t.owns r no_own)) (length-map lanes (lane_of schema)) (m.at r g)))

  -- the branch can take another head that is ready
  pub can_take : (q : Bool) (o : Option Turn) → length schema ≤ most_relations → length lanes < 1024 → IsTurnedIf q (kept_layout schema lanes order segments) origin o → IfSome o (λ t. CanTake origin.branch (get_or lanes origin.branch no_kept) segments t)
  can_take q None narrow few m = tt
  can_take false (Some t) narrow few m = absurd m
  can_take true (Some t) narrow few m =
      let w = is.wide in
      let e = (is.each b there).rows in
      let mo = m.more in
      let mw = m.owns in
      record {
        few = omega (arith, narrow, w);
        rows = omega (arith, w, e);
        more = omega (arith, mo, e);
        owns = omega (arith, mw, w);
        room = λ r h.
            let g : r < length schema = omega (arith, h, e) in
            let x = (turned_at t m r g).room in
            let n = length-map (kept_rows k r) laid_row in
            omega (arith, x, n);
        can = λ r h.
            let g : r < length schema = omega (arith, h, w) in
            record {
              head = store_head schema lanes order segments is whole b r there g;
              room = let f = is.few r g in let x = is.room r g in omega (arith, f, x, few);
            };
      }

  -- what there is after it
  pub is_after : (q : Bool) (o : Option Turn) (news : List KeptLane) (lists : List KeptList) → is_last (kept_layout schema lanes order segments) origin ≡ q → IsTurnedIf q (kept_layout schema lanes order segments) origin o
      → TurnsIf origin.branch o lanes segments news lists → IsAfter schema lanes segments q origin.branch origin.position news lists
  is_after true None news lists e m t = absurd m
  is_after false (Some x) news lists e m t = absurd m
  is_after false None news lists e m t =
      let same : get_or news b no_kept ≡ k = ap (λ (ks : List KeptLane). get_or ks b no_kept) t.0 in
      let w = is.wide in
      record {
        others = t.0 ∙ sym (set-get_or lanes b no_kept) ∙ ap (set lanes b) (sym same);
        lane = same ∙ (λ i. record k { rows = (sym same i).rows; head = (sym same i).head });
        rows = λ r g. ap (λ (x : KeptLane). map laid_row (kept_rows x r)) same;
        long = ap (λ (xs : List KeptList). length xs) t.1 ∙ w;
        put = λ r g. ap (λ (xs : List KeptList). map segment_of (list_at xs r) ++ head_segment (length lanes) ∷ []) t.1;
        widths = subst (λ (xs : List KeptList). (r s : ℕ) → r < length schema → s < length (list_at xs r) → (kept_at (list_at xs r) s).rows.widths ≡ widths_at schema r) (sym t.1) is.widths;
        room = subst (λ (xs : List KeptList). (r : ℕ) → r < length schema → most_segments ≤ (get_or xs r no_list).room) (sym t.1) is.room;
        few = λ r g. let f = is.few r g in let n = ap (λ (xs : List KeptList). length (list_at xs r)) t.1 in omega (arith, f, n);
        rows_count = ap (λ (x : KeptLane). length x.rows) same ∙ (is.each b there).rows;
        head_count = ap (λ (x : KeptLane). length x.head) same ∙ (is.each b there).head;
        kept = λ r g.
            subst (λ (x : KeptLane). IsKeptAt (segments_with false b (length lanes) (ss r)) (widths_at schema r) b (length k.seconds - 1) (kept_rows x r) (lived_at x.head r)) (sym same)
            (kept_with false b (length lanes) 0 0 (widths_at schema r) (ss r) (λ e2. absurd (omega (arith, e2, there))) b (length k.seconds - 1) (kept_rows k r) (lived_at k.head r) (λ e2. absurd (omega (arith, e2, there))) (λ t2. absurd (false≢true t2)) (rows_there r g) (at r g));
      }
  is_after true (Some x) news lists e m t =
      let new : KeptLane = get_or news b no_kept in
      let last : origin.position ≡ length k.seconds - 1 = eqb-true origin.position (last_in (lane_at l b)) e ∙ ap (λ (y : Lane). length y.seconds - 1) here in
      let w = is.wide in
      let in_lists : (r : ℕ) → r < length schema → r < length segments = λ r g. omega (arith, g, w) in
      let kr = (is.each b there).rows in
      let in_rows : (r : ℕ) → r < length schema → r < length k.rows = λ r g. omega (arith, g, kr) in
      let rows_now : (r : ℕ) → r < length schema → kept_rows new r ≡ kept_rows k r ++ turned_row (length (ss r)) origin.position ∷ [] = λ r g. t.each r (in_rows r g) ∙ ap (λ (y : KeptRow). kept_rows k r ++ y ∷ []) (turned_at x m r g).row in
      let head_now : new.head ≡ x.head = ap (λ (y : KeptLane). y.head) t.lane in
      record {
        others = t.others;
        lane = t.lane ∙ (λ i. record k { rows = new.rows; head = sym head_now i });
        rows = λ r g. ap (map laid_row) (rows_now r g) ∙ map-append laid_row (kept_rows k r) (turned_row (length (ss r)) origin.position ∷ []);
        long = t.long ∙ w;
        put = λ r g.
            let h : ℕ = head_number segments b r in
            let all : List KeptRecords = list_at segments r in
            let own : Rows = get_or x.owns r no_own in
            let none : own ≡ record { widths = widths_at schema r; records = [] } = (turned_at x m r g).empty in
            let closed : List KeptRecords = set all h (record (kept_at all h) { head = None }) in
            ap (λ (y : KeptList). map segment_of y.all ++ head_segment (length lanes) ∷ []) (t.put r (in_lists r g))
            ∙ ap (λ (ys : List Segment). ys ++ head_segment (length lanes) ∷ [])
            (map-append segment_of closed (record { head = Some b; rows = own } ∷ []) ∙ (λ i. list_closed b h all (head_there r g) (at r g).headed i ++ record { head = Some b; records = (none i).records } ∷ []))
            ∙ append_assoc (map (without_head b) (ss r)) (head_segment b ∷ []) (head_segment (length lanes) ∷ []);
        widths = λ r s g lt.
            let h : ℕ = head_number segments b r in
            let all : List KeptRecords = list_at segments r in
            let own : Rows = get_or x.owns r no_own in
            let ws : List ℕ = widths_at schema r in
            let closed : List KeptRecords = set all h (record (kept_at all h) { head = None }) in
            let ls = length-set all h (record (kept_at all h) { head = None }) in
            let n = ap (λ (y : KeptList). length y.all) (t.put r (in_lists r g)) in
            ap (λ (y : KeptList). (kept_at y.all s).rows.widths) (t.put r (in_lists r g))
            ∙ pushed_widths closed (record { head = Some b; rows = own }) ws
            (λ s2 lt2. closed_widths b h all (head_there r g) (at r g).headed ws (λ s3 lt3. is.widths r s3 g lt3) s2 (omega (arith, lt2, ls)) (cases_eq h s2)) (ap (λ (y : Rows). y.widths) (turned_at x m r g).empty) s (omega (arith, lt, n));
        room = λ r g. let z = is.room r g in let y = ap (λ (y : KeptList). y.room) (t.put r (in_lists r g)) in omega (arith, z, y);
        few = λ r g.
            let h : ℕ = head_number segments b r in
            let all : List KeptRecords = list_at segments r in
            let f = is.few r g in
            let n = ap (λ (y : KeptList). length y.all) (t.put r (in_lists r g)) in
            let ls = length-set all h (record (kept_at all h) { head = None }) in
            let lp = length_push (set all h (record (kept_at all h) { head = None })) (record { head = Some b; rows = get_or x.owns r no_own }) in
            omega (arith, f, n, ls, lp);
        rows_count = t.count ∙ kr;
        head_count = ap (λ (ls : List Lived). length ls) head_now ∙ m.head;
        kept = λ r g.
            let ws : List ℕ = widths_at schema r in
            let wide : List Segment = segments_with true b (length lanes) (ss r) in
            subst (λ (ls : List Lived). IsKeptAt wide ws b (length k.seconds - 1) (kept_rows new r) (lived_at ls r)) (sym head_now)
            (subst (λ (rows : List KeptRow). IsKeptAt wide ws b (length k.seconds - 1) rows (lived_at x.head r)) (sym (rows_now r g))
            (subst (λ (rows : List KeptRow). IsKeptAt wide ws b (length k.seconds - 1) (rows ++ turned_row (length (ss r)) origin.position ∷ []) (lived_at x.head r)) (short_rows (kept_rows k r) (at r g).short)
            (subst (λ n. IsKeptAt wide ws b n (map short_row (map laid_row (kept_rows k r)) ++ turned_row (length (ss r)) origin.position ∷ []) (lived_at x.head r)) last (turned_at x m r g).kept)));
      }
