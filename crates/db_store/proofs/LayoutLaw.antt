-- The dataset of a layout grows as the model says.
use Rattle.std.proofs.Common.{◌≡◌, ℕ, zero, suc, ◌+◌, ◌-◌, ◌<◌, ◌==◌, Bool, true, false, cond, List, [], ◌∷◌, ◌++◌, length, map, set, get_or, refl, arith, ap, sym, ◌∙◌, subst, Option, None, zero-add}
use Rattle.std.specs.List.{flat_map}
use Rattle.std.specs.FinMap as finite
use Rattle.std.proofs.lemmas.Bool.{and_parts}
use Rattle.std.proofs.lemmas.List.{append-nil, length-map, map-append, map-set, set-get_or, get_or-map, get_or_push, get_or_append_left, get_or-append_right, ext_get_or}
use Rattle.std.proofs.lemmas.Grind.{flat_map-append}
use Rattle.db_value.specs.declared.record.Record.{Record}
use Rattle.db_value.specs.declared.schema.Relation.{Relation}
use Rattle.db_value.specs.declared.version.VersionPlace.{VersionPlace}
use Rattle.db_value.specs.declared.entry.Change.{Change}
use Rattle.db_value.specs.declared.entry.Entry.{Entry}
use Rattle.db_value.specs.declared.entry.Entry.TheVariants.{Commit, Branch as NewBranch}
use Rattle.db_store.specs.Table.{Contents, Table, relation_at, with_changes}
use Rattle.db_store.specs.Dataset.{Version, Branch, Dataset, no_branch, no_version, branch_at, head_of, table_at, proper, grown, begun, apply, IsMade}
use Rattle.db_store.specs.Fits.{fits}
use Rattle.db_store.specs.Growth.{commit_parts, made_from}
use Rattle.db_store.specs.Adopt.{keys_differ}
use Rattle.db_store.specs.Counts.{after}
use Rattle.db_store.specs.Layout.{Segment, Row, Lane, Layout, no_lane, no_segment, lane_at, differ, has, bit, slots_where, records_at, live_from, live_of, live_in, contents_of, by_relation, segments_at, rows_at, table_in, versions_from, branch_of, dataset_in, head_segment, head_row}
use Rattle.db_store.specs.LayoutGrowth.{puts, touches, segment_after, row_after, segments_after, last_in, lane_after, after_commit, row_of, carried, without_head, segments_with, rows_with, new_head, rows_begun, lane_with, made_at, lane_begun, with_branch, is_last, grow_layout}
use Rattle.db_store.specs.LaidOut.{IsRow, AreRows, IsLane, IsLaid}
use Rattle.db_store.proofs.CountLemmas.{length_with_changes, after_is, ascending_differ}
use Rattle.db_store.proofs.BitLemmas.{has_where, live_same, live_none}
use Rattle.db_store.proofs.SegmentLemmas.{Extended, extended_after, extended_with, without_records, at_relation, length_by}
use Rattle.db_store.proofs.CommitLaw.{live_keeps, rows_keep, first_is, rest_are, bit_older, contents_next}

-- ---- versions

pub length_versions : (table : ℕ → Table) (n : ℕ) (ss : List (Option VersionPlace)) → length (versions_from table n ss) ≡ length ss
length_versions table n [] = refl
length_versions table n (s ∷ ss) = ap suc (length_versions table (suc n) ss)

pub version_in : (table : ℕ → Table) (n i : ℕ) (ss : List (Option VersionPlace)) → i < length ss → (get_or (versions_from table n ss) i no_version).table ≡ table (n + i)
version_in table n i [] h = absurd (omega (arith, h))
version_in table n zero (s ∷ ss) h = ap table (omega arith)
version_in table n (suc i) (s ∷ ss) h = version_in table (suc n) i ss (omega (arith, h)) ∙ ap table (omega arith)

versions_push : (table : ℕ → Table) (n : ℕ) (ss : List (Option VersionPlace)) (s : Option VersionPlace) → versions_from table n (ss ++ s ∷ []) ≡ versions_from table n ss ++ record { table = table (n + length ss); second = s } ∷ []
versions_push table n [] s = ap (λ k. record { table = table k; second = s } ∷ []) (omega arith)
versions_push table n (x ∷ ss) s =
    let here : List Version → List Version = λ vs. record { table = table n; second = x } ∷ vs in
    let place : suc n + length ss ≡ n + suc (length ss) = omega arith in
    ap here (versions_push table (suc n) ss s)
    ∙ ap (λ k. here (versions_from table (suc n) ss ++ record { table = table k; second = s } ∷ [])) place

versions_same : (f g : ℕ → Table) (n : ℕ) (ss : List (Option VersionPlace)) → ((k : ℕ) → k < n + length ss → f k ≡ g k) → versions_from f n ss ≡ versions_from g n ss
versions_same f g n [] h = refl
versions_same f g n (s ∷ ss) h =
    ap (λ t. record { table = t; second = s } ∷ versions_from f (suc n) ss) (h n (omega arith))
    ∙ ap (λ vs. record { table = g n; second = s } ∷ vs) (versions_same f g (suc n) ss (λ k l. h k (omega (arith, l))))

-- ---- tables, relation by relation

pub same_relations : {X : Type 0} (schema : List Relation) (f g : ℕ → X) (d : X) → ((r : ℕ) → r < length schema → f r ≡ g r) → by_relation schema f ≡ by_relation schema g
same_relations schema f g d e =
    ext_get_or d (by_relation schema f) (by_relation schema g) (length_by schema f ∙ sym (length_by schema g))
    (λ r h. let l : r < length schema = let n = length_by schema f in omega (arith, n, h) in at_relation schema f r d l ∙ e r l ∙ sym (at_relation schema g r d l))

-- a table is what it has in each relation
pub table_is : (schema : List Relation) (f : ℕ → Contents) (t : Table) → length t ≡ length schema → ((r : ℕ) → r < length schema → f r ≡ relation_at t r) → by_relation schema f ≡ t
table_is schema f t n e =
    ext_get_or finite.empty (by_relation schema f) t (length_by schema f ∙ sym n)
    (λ r h. let l : r < length schema = let k = length_by schema f in omega (arith, k, h) in at_relation schema f r finite.empty l ∙ e r l)

-- ---- lanes under longer segments

-- the segments of each relation have become longer
abbrev pub AllExtended : List Relation → List (List Segment) → List (List Segment) → Type 0
AllExtended schema old new = (r : ℕ) → r < length schema → Extended (segments_at old r) (segments_at new r)

pub table_keeps : (schema : List Relation) (old new : List (List Segment)) (b : ℕ) (lane : Lane) (n : ℕ) → AllExtended schema old new → IsLane schema old b lane → table_in schema new lane n ≡ table_in schema old lane n
table_keeps schema old new b lane n e is =
    same_relations schema (λ r. contents_of (live_in (segments_at new r) n (rows_at lane r))) (λ r. contents_of (live_in (segments_at old r) n (rows_at lane r))) finite.empty
    (λ r h. ap contents_of (rows_keep (segments_at old r) (segments_at new r) (length lane.seconds) n (rows_at lane r) (e r h) (is.rows r h).are))

pub branch_keeps : (schema : List Relation) (old new : List (List Segment)) (b : ℕ) (lane : Lane) → AllExtended schema old new → IsLane schema old b lane → branch_of schema new lane ≡ branch_of schema old lane
branch_keeps schema old new b lane e is =
    ap (λ vs. record { name = lane.name; origin = lane.origin; base = lane.base; versions = vs })
    (versions_same (table_in schema new lane) (table_in schema old lane) 0 lane.seconds (λ n l. table_keeps schema old new b lane n e is))

pub branches_keep : (l : Layout) (new : List (List Segment)) → AllExtended l.schema l.segments new → IsLaid l → map (branch_of l.schema new) l.lanes ≡ map (branch_of l.schema l.segments) l.lanes
branches_keep l new e laid =
    let n = length-map l.lanes (branch_of l.schema new) in
    let m = length-map l.lanes (branch_of l.schema l.segments) in
    ext_get_or no_branch (map (branch_of l.schema new) l.lanes) (map (branch_of l.schema l.segments) l.lanes) (n ∙ sym m)
    (λ i h.
    let k : i < length l.lanes = omega (arith, n, h) in
    get_or-map (branch_of l.schema new) l.lanes i no_lane no_branch k
    ∙ branch_keeps l.schema l.segments new i (lane_at l i) e (laid.lanes i k)
    ∙ sym (get_or-map (branch_of l.schema l.segments) l.lanes i no_lane no_branch k))

-- a branch of the dataset
pub branch_is : (l : Layout) (b : ℕ) → b < length l.lanes → branch_at (dataset_in l) b ≡ branch_of l.schema l.segments (lane_at l b)
branch_is l b h = get_or-map (branch_of l.schema l.segments) l.lanes b no_lane no_branch h

pub count_is : (l : Layout) (b : ℕ) → b < length l.lanes → length (branch_at (dataset_in l) b).versions ≡ length (lane_at l b).seconds
count_is l b h = ap (λ (x : Branch). length x.versions) (branch_is l b h) ∙ length_versions (table_in l.schema l.segments (lane_at l b)) 0 (lane_at l b).seconds

pub table_at_is : (l : Layout) (at : VersionPlace) → at.branch < length l.lanes → at.position < length (lane_at l at.branch).seconds → table_at (dataset_in l) at ≡ table_in l.schema l.segments (lane_at l at.branch) at.position
table_at_is l at h p =
    ap (λ (x : Branch). (get_or x.versions at.position no_version).table) (branch_is l at.branch h)
    ∙ version_in (table_in l.schema l.segments (lane_at l at.branch)) 0 at.position (lane_at l at.branch).seconds p
    ∙ ap (table_in l.schema l.segments (lane_at l at.branch)) (zero-add at.position)

pub head_is : (l : Layout) (b : ℕ) → b < length l.lanes → 0 < length (lane_at l b).seconds → head_of (dataset_in l) b ≡ table_in l.schema l.segments (lane_at l b) (last_in (lane_at l b))
head_is l b h s =
    let n = count_is l b h in
    ap (λ k. table_at (dataset_in l) (record { branch = b; position = k - 1 })) n
    ∙ table_at_is l (record { branch = b; position = last_in (lane_at l b) }) h (omega (arith, s))

-- ---- a commit

module _ (l : Layout) (b : ℕ) (second : Option VersionPlace) (changes : List Change) (laid : IsLaid l) (h : b < length l.lanes) (differ : keys_differ changes ≡ true) where
  abbrev pub lane : Lane
  lane = lane_at l b

  abbrev pub news : List (List Segment)
  news = segments_after l b changes

  abbrev pub last : ℕ
  last = last_in lane

  is : IsLane l.schema l.segments b (lane_at l b)
  is = laid.lanes b h

  pub commit_extends : AllExtended l.schema l.segments (segments_after l b changes)
  commit_extends r k =
      subst (Extended (segments_at l.segments r)) (sym (at_relation l.schema (λ r. map (segment_after b (puts changes r)) (segments_at l.segments r)) r [] k))
      (extended_after b (puts changes r) (segments_at l.segments r))

  -- at an older position the branch has what it had
  pub older_row : (r n : ℕ) → r < length l.schema → n < length lane.seconds → (rows : List Row) → AreRows (segments_at l.segments r) (length lane.seconds) rows
      → live_in (segments_at news r) n (map (row_after (segments_at l.segments r) (segments_at news r) (touches changes r) last) rows) ≡ live_in (segments_at l.segments r) n rows
  older_row r n k m [] all = refl
  older_row r n k m (row ∷ rows) all =
      let first = first_is (segments_at l.segments r) (length lane.seconds) row rows all in
      let same : live_of (segments_at news r) n (row_after (segments_at l.segments r) (segments_at news r) (touches changes r) last row) ≡ live_of (segments_at l.segments r) n row =
      live_same 0 (records_at (segments_at news r) row.segment) (bit (row_after (segments_at l.segments r) (segments_at news r) (touches changes r) last row) n) (bit row n)
      (λ s a z. bit_older (segments_at l.segments r) (segments_at news r) (touches changes r) (length lane.seconds) last n row first m s)
      ∙ live_keeps (segments_at l.segments r) (segments_at news r) (length lane.seconds) n row (commit_extends r k) first in
      ap (λ (xs : List Record). xs ++ live_in (segments_at news r) n (map (row_after (segments_at l.segments r) (segments_at news r) (touches changes r) last) rows)) same
      ∙ ap (λ (xs : List Record). live_of (segments_at l.segments r) n row ++ xs) (older_row r n k m rows (rest_are (segments_at l.segments r) (length lane.seconds) row rows all))

  pub rows_now : (r : ℕ) → r < length l.schema → rows_at (lane_after l news lane second changes) r ≡ map (row_after (segments_at l.segments r) (segments_at news r) (touches changes r) last) (rows_at lane r)
  rows_now r k = at_relation l.schema (λ r. map (row_after (segments_at l.segments r) (segments_at news r) (touches changes r) last) (rows_at lane r)) r [] k

  older_table : (n : ℕ) → n < length lane.seconds → table_in l.schema news (lane_after l news lane second changes) n ≡ table_in l.schema l.segments lane n
  older_table n m =
      same_relations l.schema (λ r. contents_of (live_in (segments_at news r) n (rows_at (lane_after l news lane second changes) r))) (λ r. contents_of (live_in (segments_at l.segments r) n (rows_at lane r))) finite.empty
      (λ r k. ap (λ rows. contents_of (live_in (segments_at news r) n rows)) (rows_now r k) ∙ ap contents_of (older_row r n k m (rows_at lane r) (is.rows r k).are))

  -- at the next one the table after the changes
  next_table : table_in l.schema news (lane_after l news lane second changes) (length lane.seconds) ≡ with_changes (table_in l.schema l.segments lane last) changes
  next_table =
      let old : Table = table_in l.schema l.segments lane last in
      let wide : length old ≡ length l.schema = length_by l.schema (λ r. contents_of (live_in (segments_at l.segments r) last (rows_at lane r))) in
      table_is l.schema (λ r. contents_of (live_in (segments_at news r) (length lane.seconds) (rows_at (lane_after l news lane second changes) r))) (with_changes old changes) (length_with_changes old changes ∙ wide)
      (λ r k.
      let ss : List Segment = segments_at l.segments r in
      let of = is.rows r k in
      let one : suc last ≡ length lane.seconds = let s = is.some in omega (arith, s) in
      ap (λ rows. contents_of (live_in (segments_at news r) (length lane.seconds) rows)) (rows_now r k)
      ∙ ap (λ ns. contents_of (live_in ns (length lane.seconds) (map (row_after ss ns (touches changes r) last) (rows_at lane r)))) (at_relation l.schema (λ r. map (segment_after b (puts changes r)) (segments_at l.segments r)) r [] k)
      ∙ contents_next b changes r ss (length lane.seconds) last (rows_at lane r) one differ of.are of.headed
      ∙ ap (λ m. after r m changes) (sym (at_relation l.schema (λ r. contents_of (live_in (segments_at l.segments r) last (rows_at lane r))) r finite.empty k))
      ∙ sym (after_is old changes r (omega (arith, wide, k))))

  branch_after : branch_of l.schema news (lane_after l news lane second changes) ≡ grown (branch_of l.schema l.segments lane) (with_changes (table_in l.schema l.segments lane last) changes) second
  branch_after =
      let f : ℕ → Table = table_in l.schema news (lane_after l news lane second changes) in
      let versions : versions_from f 0 (lane.seconds ++ second ∷ [])
      ≡ versions_from (table_in l.schema l.segments lane) 0 lane.seconds ++ record { table = with_changes (table_in l.schema l.segments lane last) changes; second = second } ∷ [] =
      versions_push f 0 lane.seconds second
      ∙ ap (λ vs. vs ++ record { table = f (0 + length lane.seconds); second = second } ∷ []) (versions_same f (table_in l.schema l.segments lane) 0 lane.seconds (λ n m. older_table n (omega (arith, m))))
      ∙ ap (λ t. versions_from (table_in l.schema l.segments lane) 0 lane.seconds ++ record { table = t; second = second } ∷ []) (ap f (zero-add (length lane.seconds)) ∙ next_table) in
      ap (λ vs. record { name = lane.name; origin = lane.origin; base = lane.base; versions = vs }) versions

  pub commit_law : dataset_in (after_commit l b second changes) ≡ apply (dataset_in l) (Commit b second changes)
  commit_law =
      let d : Dataset = dataset_in l in
      let new : Lane = lane_after l news lane second changes in
      let grows : branch_of l.schema news new ≡ grown (branch_at d b) (with_changes (head_of d b) changes) second =
      branch_after
      ∙ ap (λ t. grown (branch_of l.schema l.segments lane) (with_changes t changes) second) (sym (head_is l b h is.some))
      ∙ ap (λ x. grown x (with_changes (head_of d b) changes) second) (sym (branch_is l b h)) in
      let branches : map (branch_of l.schema news) (set l.lanes b new) ≡ set d.branches b (grown (branch_at d b) (with_changes (head_of d b) changes) second) =
      map-set (branch_of l.schema news) l.lanes b new
      ∙ ap (λ bs. set bs b (branch_of l.schema news new)) (branches_keep l news commit_extends laid)
      ∙ ap (set d.branches b) grows in
      λ i. record { schema = l.schema; branches = branches i; order = l.order ++ record { branch = b; position = sym (count_is l b h) i } ∷ [] }

-- ---- a new branch

-- what a row of slots has at position 0
row_begun : (ss : List Segment) (segment : ℕ) (slots : List ℕ) → live_in ss 0 (row_of segment slots) ≡ live_from 0 (records_at ss segment) (has slots)
row_begun ss segment [] = sym (live_none 0 (records_at ss segment) (has []) (λ s h. refl))
row_begun ss segment (x ∷ xs) =
    append-nil (live_from 0 (records_at ss segment) (bit (record { segment = segment; from = 0; deltas = (x ∷ xs) ∷ [] }) 0))
    ∙ live_same 0 (records_at ss segment) (bit (record { segment = segment; from = 0; deltas = (x ∷ xs) ∷ [] }) 0) (has (x ∷ xs)) (λ s h k. right (has (x ∷ xs) s))
  where
    right : (b : Bool) → differ b false ≡ b
    right true = refl
    right false = refl

-- what is taken over has at position 0 what its branch had
carried_is : (old new : List Segment) (count n : ℕ) (row : Row) → IsRow old count row → records_at new row.segment ≡ records_at old row.segment → live_in new 0 (carried old n row) ≡ live_of old n row
carried_is old new count n row is same =
    row_begun new row.segment (slots_where (bit row n) (length (records_at old row.segment)))
    ∙ ap (λ xs. live_from 0 xs (has (slots_where (bit row n) (length (records_at old row.segment))))) same
    ∙ live_same 0 (records_at old row.segment) (has (slots_where (bit row n) (length (records_at old row.segment)))) (bit row n)
    (λ s h k. has_where (bit row n) (length (records_at old row.segment)) s (omega (arith, k)))

all_carried : (old new : List Segment) (count n : ℕ) (rows : List Row) → AreRows old count rows → ((s : ℕ) → s < length old → records_at new s ≡ records_at old s)
    → live_in new 0 (flat_map (carried old n) rows) ≡ live_in old n rows
all_carried old new count n [] all same = refl
all_carried old new count n (row ∷ rows) all same =
    let first = first_is old count row rows all in
    flat_map-append (live_of new 0) (carried old n row) (flat_map (carried old n) rows)
    ∙ ap (λ (xs : List Record). xs ++ live_in new 0 (flat_map (carried old n) rows)) (carried_is old new count n row first (same row.segment first.there))
    ∙ ap (λ (xs : List Record). live_of old n row ++ xs) (all_carried old new count n rows (rest_are old count row rows all) same)

-- new segments have no records, and the others have theirs
pub with_same : (q : Bool) (b c : ℕ) (ss : List Segment) (s : ℕ) → s < length ss → records_at (segments_with q b c ss) s ≡ records_at ss s
with_same true b c ss s h =
    let m = length-map ss (without_head b) in
    ap (λ (x : Segment). x.records) (get_or_append_left (map (without_head b) ss) (head_segment b ∷ head_segment c ∷ []) no_segment s (omega (arith, m, h)))
    ∙ without_records b ss s h
with_same false b c ss s h = ap (λ (x : Segment). x.records) (get_or_append_left ss (head_segment c ∷ []) no_segment s h)

-- two segments behind others
pub behind : (xs : List Segment) (x y : Segment) (n i k : ℕ) → length xs ≡ n → n + k ≡ i → get_or (xs ++ x ∷ y ∷ []) i no_segment ≡ get_or (x ∷ y ∷ []) k no_segment
behind xs x y n i k e f =
    let j : i - n ≡ k = omega (arith, f) in
    get_or-append_right xs (x ∷ y ∷ []) n i no_segment e (omega (arith, f)) ∙ ap (λ m. get_or (x ∷ y ∷ []) m no_segment) j

pub first_new : (q : Bool) (b c : ℕ) (ss : List Segment) → records_at (segments_with q b c ss) (length ss) ≡ []
first_new true b c ss = ap (λ (x : Segment). x.records) (behind (map (without_head b) ss) (head_segment b) (head_segment c) (length ss) (length ss) 0 (length-map ss (without_head b)) (omega arith))
first_new false b c ss = ap (λ (x : Segment). x.records) (get_or_push ss (head_segment c) no_segment (length ss) refl)

pub head_new : (q : Bool) (b c : ℕ) (ss : List Segment) → records_at (segments_with q b c ss) (new_head q ss) ≡ []
head_new true b c ss = ap (λ (x : Segment). x.records) (behind (map (without_head b) ss) (head_segment b) (head_segment c) (length ss) (suc (length ss)) 1 (length-map ss (without_head b)) (omega arith))
head_new false b c ss = first_new false b c ss

live_empty : (ss : List Segment) (n : ℕ) (segment from : ℕ) → records_at ss segment ≡ [] → live_in ss n (head_row segment from ∷ []) ≡ []
live_empty ss n segment from e = append-nil (live_of ss n (head_row segment from)) ∙ ap (λ xs. live_from 0 xs (bit (head_row segment from) n)) e

pub rows_with_keep : (q : Bool) (b c k n m count : ℕ) (ss : List Segment) (rows : List Row) → AreRows ss count rows
    → live_in (segments_with q b c ss) n (rows_with q m ss rows) ≡ live_in ss n rows
rows_with_keep true b c k n m count ss rows all =
    flat_map-append (live_of (segments_with true b c ss) n) rows (head_row (length ss) m ∷ [])
    ∙ ap (λ xs. live_in (segments_with true b c ss) n rows ++ xs) (live_empty (segments_with true b c ss) n (length ss) m (first_new true b c ss))
    ∙ append-nil (live_in (segments_with true b c ss) n rows)
    ∙ rows_keep ss (segments_with true b c ss) count n rows (extended_with true b c ss) all
rows_with_keep false b c k n m count ss rows all = rows_keep ss (segments_with false b c ss) count n rows (extended_with false b c ss) all

pub rows_begun_keep : (q : Bool) (b c n count : ℕ) (ss : List Segment) (rows : List Row) → AreRows ss count rows
    → live_in (segments_with q b c ss) 0 (rows_begun q n ss rows) ≡ live_in ss n rows
rows_begun_keep q b c n count ss rows all =
    flat_map-append (live_of (segments_with q b c ss) 0) (flat_map (carried ss n) rows) (head_row (new_head q ss) 0 ∷ [])
    ∙ ap (λ xs. live_in (segments_with q b c ss) 0 (flat_map (carried ss n) rows) ++ xs) (live_empty (segments_with q b c ss) 0 (new_head q ss) 0 (head_new q b c ss))
    ∙ append-nil (live_in (segments_with q b c ss) 0 (flat_map (carried ss n) rows))
    ∙ all_carried ss (segments_with q b c ss) count n rows all (with_same q b c ss)

module _ (l : Layout) (q : Bool) (name : List ℕ) (origin : VersionPlace) (laid : IsLaid l) (h : origin.branch < length l.lanes) (p : origin.position < length (lane_at l origin.branch).seconds) where
  abbrev pub source : Lane
  source = lane_at l origin.branch

  abbrev pub wider : List (List Segment)
  wider = by_relation l.schema (λ r. segments_with q origin.branch (length l.lanes) (segments_at l.segments r))

  sound : IsLane l.schema l.segments origin.branch (lane_at l origin.branch)
  sound = laid.lanes origin.branch h

  wider_at : (r : ℕ) → r < length l.schema → segments_at wider r ≡ segments_with q origin.branch (length l.lanes) (segments_at l.segments r)
  wider_at r k = at_relation l.schema (λ r. segments_with q origin.branch (length l.lanes) (segments_at l.segments r)) r [] k

  pub branch_extends : AllExtended l.schema l.segments (by_relation l.schema (λ r. segments_with q origin.branch (length l.lanes) (segments_at l.segments r)))
  branch_extends r k = subst (Extended (segments_at l.segments r)) (sym (wider_at r k)) (extended_with q origin.branch (length l.lanes) (segments_at l.segments r))

  -- the branch has what it had
  source_table : (n : ℕ) → table_in l.schema wider (lane_with l q source origin.position) n ≡ table_in l.schema l.segments source n
  source_table n =
      same_relations l.schema (λ r. contents_of (live_in (segments_at wider r) n (rows_at (lane_with l q source origin.position) r))) (λ r. contents_of (live_in (segments_at l.segments r) n (rows_at source r))) finite.empty
      (λ r k.
      ap (λ rows. contents_of (live_in (segments_at wider r) n rows)) (at_relation l.schema (λ r. rows_with q origin.position (segments_at l.segments r) (rows_at source r)) r [] k)
      ∙ ap (λ ss. contents_of (live_in ss n (rows_with q origin.position (segments_at l.segments r) (rows_at source r)))) (wider_at r k)
      ∙ ap contents_of (rows_with_keep q origin.branch (length l.lanes) 0 n origin.position (length source.seconds) (segments_at l.segments r) (rows_at source r) (sound.rows r k).are))

  source_is : branch_of l.schema wider (lane_with l q source origin.position) ≡ branch_of l.schema l.segments source
  source_is =
      ap (λ vs. record { name = source.name; origin = source.origin; base = source.base; versions = vs })
      (versions_same (table_in l.schema wider (lane_with l q source origin.position)) (table_in l.schema l.segments source) 0 source.seconds (λ n m. source_table n))

  -- the new one begins with the table of its origin
  begun_table : table_in l.schema wider (lane_begun l q name origin) 0 ≡ table_in l.schema l.segments source origin.position
  begun_table =
      same_relations l.schema (λ r. contents_of (live_in (segments_at wider r) 0 (rows_at (lane_begun l q name origin) r))) (λ r. contents_of (live_in (segments_at l.segments r) origin.position (rows_at source r))) finite.empty
      (λ r k.
      ap (λ rows. contents_of (live_in (segments_at wider r) 0 rows)) (at_relation l.schema (λ r. rows_begun q origin.position (segments_at l.segments r) (rows_at source r)) r [] k)
      ∙ ap (λ ss. contents_of (live_in ss 0 (rows_begun q origin.position (segments_at l.segments r) (rows_at source r)))) (wider_at r k)
      ∙ ap contents_of (rows_begun_keep q origin.branch (length l.lanes) origin.position (length source.seconds) (segments_at l.segments r) (rows_at source r) (sound.rows r k).are))

  begun_is : branch_of l.schema wider (lane_begun l q name origin) ≡ begun (dataset_in l) name origin
  begun_is =
      let table : table_in l.schema wider (lane_begun l q name origin) 0 ≡ table_at (dataset_in l) origin = begun_table ∙ sym (table_at_is l origin h p) in
      let base : made_at l origin ≡ proper (dataset_in l) origin = ap (λ (x : Branch). cond (origin.position == 0) x.base origin) (sym (branch_is l origin.branch h)) in
      λ i. record { name = name; origin = origin; base = base i; versions = record { table = table i; second = None } ∷ [] }

  pub branch_law : dataset_in (with_branch l q name origin) ≡ apply (dataset_in l) (NewBranch name origin)
  branch_law =
      let f : Lane → Branch = branch_of l.schema wider in
      let d : Dataset = dataset_in l in
      let old : map f (set l.lanes origin.branch (lane_with l q source origin.position)) ≡ d.branches =
      map-set f l.lanes origin.branch (lane_with l q source origin.position)
      ∙ ap (λ bs. set bs origin.branch (f (lane_with l q source origin.position))) (branches_keep l wider branch_extends laid)
      ∙ ap (set d.branches origin.branch) (source_is ∙ sym (branch_is l origin.branch h))
      ∙ set-get_or d.branches origin.branch no_branch in
      ap (λ bs. record { schema = l.schema; branches = bs; order = l.order })
      (map-append f (set l.lanes origin.branch (lane_with l q source origin.position)) (lane_begun l q name origin ∷ [])
      ∙ ap (λ bs. bs ++ f (lane_begun l q name origin) ∷ []) old
      ∙ ap (λ x. d.branches ++ x ∷ []) begun_is)

-- ---- an entry

pub lanes_there : (l : Layout) (b : ℕ) → b < length (dataset_in l).branches → b < length l.lanes
lanes_there l b h = let n = length-map l.lanes (branch_of l.schema l.segments) in omega (arith, n, h)

-- a made place of the dataset is a position of a lane
pub made_there : (l : Layout) (at : VersionPlace) → IsMade (dataset_in l) at → (at.branch < length l.lanes) × (at.position < length (lane_at l at.branch).seconds)
made_there l at m = let h = lanes_there l at.branch m.0 in let n = count_is l at.branch h in (h, omega (arith, n, m.1))

pub layout_law : (l : Layout) (e : Entry) → IsLaid l → fits (dataset_in l) e ≡ true → dataset_in (grow_layout l e) ≡ apply (dataset_in l) e
layout_law l (Commit b second changes) laid f =
    let parts = commit_parts (dataset_in l) b second changes f in
    let fit = and_parts _ _ parts.changes in
    let up = and_parts _ _ fit.0 in
    commit_law l b second changes laid (lanes_there l b parts.there) (ascending_differ changes up.1)
layout_law l (NewBranch name origin) laid f =
    let made = made_there l origin (made_from (dataset_in l) origin (and_parts _ _ f).1) in
    branch_law l (is_last l origin) name origin laid made.0 made.1
