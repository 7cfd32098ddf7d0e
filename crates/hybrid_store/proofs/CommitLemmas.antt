-- What a branch has of one relation after a commit that fits.
use Rattle.std.proofs.Common.{◌≡◌, ℕ, zero, suc, nat_le, nat_lt, ◌&&◌, ◌+◌, ◌-◌, ◌<◌, ◌≤◌, ◌==◌, ◌^◌, ◌⊎◌, inl, inr, Bool, true, false, List, [], ◌∷◌, ◌++◌, cond, length, map, get_or, Option, Some, None, refl, arith, ap, sym, ◌∙◌, subst}
use Rattle.std.specs.FinMap as finite
use Rattle.std.proofs.lemmas.List.{length-map, length-append, length_push, length-set, get_or-set_same, get_or-map, get_or_past}
use Rattle.std.specs.List.{All, list_all}
use Rattle.std.proofs.lemmas.List.Elements.{All-cons}
use Rattle.std.proofs.lemmas.Bool.{and_parts, cases_Bool, eqb-true, eq-eqb, leb-true}
use Rattle.db_value.specs.Value.{Value}
use Rattle.db_value.specs.Relations.{widths_at}
use Rattle.db_value.specs.declared.schema.Relation.{Relation}
use Rattle.db_value.specs.declared.version.VersionPlace.{VersionPlace}
use Rattle.db_value.specs.declared.record.Record.{Record}
use Rattle.db_value.specs.declared.entry.Change.{Change}
use Rattle.db_value.specs.declared.entry.Entry.TheVariants.{Commit}
use Rattle.db_store.specs.Adopt.{keys_differ}
use Rattle.db_store.specs.Counts.{after}
use Rattle.db_store.specs.Table.{Contents, Table, relation_at, with_changes as table_changes}
use Rattle.db_store.specs.Dataset.{Dataset, head_of}
use Rattle.hybrid_view.specs.Deltas.{slots_of}
use Rattle.db_store.specs.Fits.{fits, ascends, has_fields, has_widths, change_fits, is_within, most_keys}
use Rattle.db_value.specs.Widths.{meets}
use Rattle.db_store.specs.LayoutGrowth.{put_before}
use Rattle.db_store.specs.Growth.{commit_parts}
use Rattle.db_store.specs.Layout.{Segment, Row, Lane, Layout, no_lane, no_segment, lane_at, differ, bit, slots_where, records_at, segments_at, rows_at, contents_of}
use Rattle.db_store.specs.LayoutGrowth.{is_head_of, puts, touches, segment_after, bit_after, row_after, segments_after, last_in, lane_after, after_commit}
use Rattle.db_store.specs.LaidOut.{IsRow, AreRowsOf, IsLaid, row_at, no_row, head_at}
use Rattle.db_store.proofs.CountLemmas.{ascending_differ, after_is, length_with_changes}
use Rattle.db_store.proofs.SegmentLemmas.{at_relation}
use Rattle.db_store.proofs.LaidLemmas.{laid_stays}
use Rattle.db_store.proofs.CommitLaw.{contents_next, bit_next, after_records}
use Rattle.key_index.specs.Places.{with_changes}
use Rattle.hybrid_view.specs.Live.{Piece, piece_at, no_lived, table_of, Lived, lived_at, contents_in, IsLived, AllLived}
use Rattle.hybrid_view.specs.Struck.{touched_places}
use Rattle.hybrid_view.specs.RowPlaces.{Shows, AllShow, AllNext, spots}
use Rattle.hybrid_view.proofs.PlaceLemmas.{shown_rows, shown_shorter}
use Rattle.hybrid_view.proofs.DeltaLemmas.{slots_stop, slots_agree}
use Rattle.plain_bits.specs.Truth.{bit_of}
use Rattle.hybrid_view.proofs.NextLemmas.{show_all, show_at, next_shows, lived_next}
use Rattle.segment.specs.Pages.{AreWide}
use Rattle.commit_history.specs.Runs.{Next, next_of}
use Rattle.bit_rows.specs.Short.{shortest}
use Rattle.bit_rows.specs.Rows.{KeptRow, no_kept_row, kept_row_at, laid_row, next_at}
use Rattle.bit_rows.specs.Kept.{KeptLane, no_kept, kept_rows, nexts_at}
use Rattle.hybrid_store.specs.Lanes.{segment_of, lane_of, kept_layout}
use Rattle.bit_rows.specs.Segments.{KeptList, no_rows, kept_at, list_at}
use Rattle.bit_rows.specs.Differences.{difference_of, AreDifferences}
use Rattle.hybrid_store.specs.Stored.{kept_dataset, head_number, HasPiece, AllDifferences, AllNextIn, AreSmall, IsKeptAt, IsStored}
use Rattle.record_page.specs.Page.{Rows}
use Rattle.hybrid_store.specs.Ready.{changed_slots, AreOwn, IsMadeAt, IsMadeOf, no_own}
use Rattle.hybrid_store.proofs.StoredLemmas.{kept_count, kept_versions}
use Rattle.hybrid_store.proofs.HeadLemmas.{head_is}
use Rattle.hybrid_store.proofs.OwnLemmas.{has_at, own_there}
use Rattle.hybrid_store.proofs.LayoutLemmas.{lane_kept, segments_kept, rows_kept}

pub fit_differ : (schema : List Relation) (lanes : List KeptLane) (order : List VersionPlace) (segments : List KeptList) (b : ℕ) (second : Option VersionPlace) (changes : List Change) → fits (kept_dataset schema lanes order segments) (Commit b second changes) ≡ true → keys_differ changes ≡ true
fit_differ schema lanes order segments b second changes f =
    let parts = commit_parts (kept_dataset schema lanes order segments) b second changes f in
    ascending_differ changes (and_parts _ _ (and_parts _ _ parts.changes).0).1

pub fit_ascends : (schema : List Relation) (lanes : List KeptLane) (order : List VersionPlace) (segments : List KeptList) (b : ℕ) (second : Option VersionPlace) (changes : List Change) → fits (kept_dataset schema lanes order segments) (Commit b second changes) ≡ true → ascends changes ≡ true
fit_ascends schema lanes order segments b second changes f =
    let parts = commit_parts (kept_dataset schema lanes order segments) b second changes f in
    (and_parts _ _ (and_parts _ _ parts.changes).0).1

pub fit_few : (schema : List Relation) (lanes : List KeptLane) (order : List VersionPlace) (segments : List KeptList) (b : ℕ) (second : Option VersionPlace) (changes : List Change) → fits (kept_dataset schema lanes order segments) (Commit b second changes) ≡ true → length changes ≤ 65536
fit_few schema lanes order segments b second changes f =
    let parts = commit_parts (kept_dataset schema lanes order segments) b second changes f in
    leb-true _ _ (and_parts _ _ (and_parts _ _ parts.changes).0).0

-- what is put meets the widths of its relation
puts_one : (ws : List ℕ) (b : Bool) (key : ℕ) (f : Option (List Value)) (rest : List Record) → (b ≡ true → has_fields ws f ≡ true) → All (λ (row : Record). meets ws row.fields ≡ true) rest → All (λ (row : Record). meets ws row.fields ≡ true) (put_before b key f rest)
puts_one ws true key (Some fs) rest e all = All-cons (λ (row : Record). meets ws row.fields ≡ true) (record { key = key; fields = fs }) rest (e refl) all
puts_one ws true key None rest e all = all
puts_one ws false key f rest e all = all

pub puts_fit : (schema : List Relation) (cs : List Change) (r : ℕ) → list_all (change_fits schema) cs ≡ true → All (λ (row : Record). meets (widths_at schema r) row.fields ≡ true) (puts cs r)
puts_fit schema [] r e = λ k d lt. absurd (omega (arith, lt))
puts_fit schema (c ∷ cs) r e =
    let two = and_parts (change_fits schema c) (list_all (change_fits schema) cs) e in
    let one = and_parts (nat_lt c.relation (length schema)) (has_fields (widths_at schema c.relation) c.fields && has_widths (widths_at schema c.relation) c.fields c.widths) two.0 in
    let here = and_parts (has_fields (widths_at schema c.relation) c.fields) (has_widths (widths_at schema c.relation) c.fields c.widths) one.1 in
    puts_one (widths_at schema r) (c.relation == r) c.key c.fields (puts cs r) (λ t. subst (λ q. has_fields (widths_at schema q) c.fields ≡ true) (eqb-true c.relation r t) here.0) (puts_fit schema cs r two.1)

put_few : (b : Bool) (key : ℕ) (f : Option (List Value)) (rest : List Record) → length (put_before b key f rest) ≤ suc (length rest)
put_few true key (Some fs) rest = omega arith
put_few true key None rest = omega arith
put_few false key f rest = omega arith

pub puts_few : (cs : List Change) (r : ℕ) → length (puts cs r) ≤ length cs
puts_few [] r = omega arith
puts_few (c ∷ cs) r = let a = put_few (c.relation == r) c.key c.fields (puts cs r) in let d = puts_few cs r in omega (arith, a, d)

pub branch_there : (schema : List Relation) (lanes : List KeptLane) (order : List VersionPlace) (segments : List KeptList) (b : ℕ) (second : Option VersionPlace) (changes : List Change) → fits (kept_dataset schema lanes order segments) (Commit b second changes) ≡ true → b < length lanes
branch_there schema lanes order segments b second changes f =
    let t = (commit_parts (kept_dataset schema lanes order segments) b second changes f).there in
    let n = kept_count schema lanes order segments in
    omega (arith, t, n)

few_keys : (t : Table) → is_within t ≡ true → (r : ℕ) → r < length t → finite.len (relation_at t r) ≤ most_keys
few_keys [] e r h = absurd (omega (arith, h))
few_keys (m ∷ ms) e zero h = leb-true _ _ (and_parts (nat_le (finite.len m) most_keys) _ e).0
few_keys (m ∷ ms) e (suc r) h = few_keys ms (and_parts (nat_le (finite.len m) most_keys) _ e).1 r (omega (arith, h))

module _ (schema : List Relation) (lanes : List KeptLane) (order : List VersionPlace) (segments : List KeptList) (b r : ℕ) (second : Option VersionPlace) (changes : List Change) (h : b < length lanes) (g : r < length schema)
    (is : IsStored schema lanes segments) (laid : IsLaid (kept_layout schema lanes order segments)) (fit : fits (kept_dataset schema lanes order segments) (Commit b second changes) ≡ true) where
  abbrev k : KeptLane
  k = get_or lanes b no_kept

  abbrev l : Layout
  l = kept_layout schema lanes order segments

  abbrev pub ss : List Segment
  ss = map segment_of (list_at segments r)

  abbrev pub news : List Segment
  news = map (segment_after b (puts changes r)) (map segment_of (list_at segments r))

  abbrev pub rows : List Row
  rows = map laid_row (kept_rows (get_or lanes b no_kept) r)

  abbrev pub count : ℕ
  count = length (get_or lanes b no_kept).seconds

  abbrev pub rows_next : List Row
  rows_next = map (row_after (map segment_of (list_at segments r)) (map (segment_after b (puts changes r)) (map segment_of (list_at segments r))) (touches changes r) (length (get_or lanes b no_kept).seconds - 1)) (map laid_row (kept_rows (get_or lanes b no_kept) r))

  here : lane_at (kept_layout schema lanes order segments) b ≡ lane_of schema (get_or lanes b no_kept)
  here = lane_kept schema lanes order segments b h

  below : b < length (map (lane_of schema) lanes)
  below = let n = length-map lanes (lane_of schema) in omega (arith, n, h)

  counted : length (lane_at (kept_layout schema lanes order segments) b).seconds ≡ length (get_or lanes b no_kept).seconds
  counted = ap (λ (x : Lane). length x.seconds) here

  some : 0 < length (get_or lanes b no_kept).seconds
  some = let n = counted in let s = (laid.lanes b below).some in omega (arith, n, s)

  rows_eq : rows_at (lane_at (kept_layout schema lanes order segments) b) r ≡ rows
  rows_eq = ap (λ (x : Lane). rows_at x r) here ∙ rows_kept schema k r g

  pub before_rows : AreRowsOf ss b count rows
  before_rows =
      subst (λ s. AreRowsOf s b count rows) (segments_kept schema lanes order segments r g)
      (subst (λ c. AreRowsOf (segments_at l.segments r) b c rows) counted (subst (AreRowsOf (segments_at l.segments r) b (length (lane_at l b).seconds)) rows_eq ((laid.lanes b below).rows r g)))

  pub after_rows : AreRowsOf news b (suc count) rows_next
  after_rows =
      let grown : Lane = lane_after l (segments_after l b changes) (lane_at l b) second changes in
      let now : lane_at (after_commit l b second changes) b ≡ grown = get_or-set_same l.lanes b grown no_lane below in
      let all : IsLaid (after_commit l b second changes) = laid_stays l (Commit b second changes) laid fit in
      let ls = length-set l.lanes b grown in
      let mine : AreRowsOf (segments_at (segments_after l b changes) r) b (length grown.seconds) (rows_at grown r) =
      subst (λ (x : Lane). AreRowsOf (segments_at (segments_after l b changes) r) b (length x.seconds) (rows_at x r)) now ((all.lanes b (let w = below in omega (arith, ls, w))).rows r g) in
      let sg : segments_at (segments_after l b changes) r ≡ news =
      at_relation schema (λ q. map (segment_after b (puts changes q)) (segments_at l.segments q)) r [] g ∙ ap (map (segment_after b (puts changes r))) (segments_kept schema lanes order segments r g) in
      let cn : length grown.seconds ≡ suc count = (let p = length_push (lane_at l b).seconds second in let c = counted in omega (arith, p, c)) in
      let last : last_in (lane_at l b) ≡ count - 1 = ap (λ n. n - 1) counted in
      let rw_eq : rows_at grown r ≡ rows_next =
      at_relation schema (λ q. map (row_after (segments_at l.segments q) (segments_at (segments_after l b changes) q) (touches changes q) (last_in (lane_at l b))) (rows_at (lane_at l b) q)) r [] g
      ∙ (λ i. map (row_after (segments_kept schema lanes order segments r g i) (sg i) (touches changes r) (last i)) (rows_eq i)) in
      subst (λ s. AreRowsOf s b (suc count) rows_next) sg (subst (λ c. AreRowsOf (segments_at (segments_after l b changes) r) b c rows_next) cn (subst (AreRowsOf (segments_at (segments_after l b changes) r) b (length grown.seconds)) rw_eq mine))

  abbrev lived : Lived
  lived = lived_at (get_or lanes b no_kept).head r

  at : IsKeptAt ss (widths_at schema r) b (count - 1) (kept_rows (get_or lanes b no_kept) r) (lived_at (get_or lanes b no_kept).head r)
  at = (is.each b h).at r g

  shown : AllShow ss (count - 1) rows (lived_at (get_or lanes b no_kept).head r).pieces
  shown = show_all ss (count - 1) rows lived.pieces at.shown.count at.shown.each

  last_next : suc (count - 1) ≡ count
  last_next = let s = some in omega (arith, s)

  -- the pieces after the commit show the rows after it
  pub shown_after : (qs : List Piece) → AllNext (touched_places (lived_at (get_or lanes b no_kept).head r).pieces changes r) (head_number segments b r) (puts changes r) (lived_at (get_or lanes b no_kept).head r).pieces qs → AllShow news count rows_next qs
  shown_after qs next = next_shows b changes r ss count (count - 1) (head_number segments b r) last_next rows lived.pieces qs before_rows.are shown next at.headed at.whole at.lived.ascend at.lived.apart

  -- and all of what holds of them
  pub lived_after : (qs : List Piece) → AllNext (touched_places (lived_at (get_or lanes b no_kept).head r).pieces changes r) (head_number segments b r) (puts changes r) (lived_at (get_or lanes b no_kept).head r).pieces qs
      → IsLived (record { pieces = qs; places = with_changes (lived_at (get_or lanes b no_kept).head r).places (spots (head_number segments b r) (length (records_at (map segment_of (list_at segments r)) (head_number segments b r))) changes r); count = finite.len (after r (contents_in (lived_at (get_or lanes b no_kept).head r)) changes) })
  lived_after qs next =
      let d : keys_differ changes ≡ true = fit_differ schema lanes order segments b second changes fit in
      lived_next b changes r ss count (count - 1) (head_number segments b r) rows lived qs (finite.len (after r (contents_in lived) changes)) last_next d before_rows after_rows at.headed at.lived shown at.whole next
      (ap (λ m. finite.len (after r m changes)) (ap contents_of (shown_rows ss (count - 1) rows lived.pieces shown))
      ∙ ap (λ m. finite.len m) (sym (contents_next b changes r ss count (count - 1) rows last_next d before_rows.are before_rows.headed)))

  -- the head is a segment that is there
  pub head_there : head_number segments b r < length (list_at segments r)
  head_there = (let n = length-map (list_at segments r) segment_of in let t = own_there (length ss) (head_number segments b r) (kept_rows k r) at.own (λ i lt. (before_rows.are i lt).there) in omega (arith, n, t))

  -- the records of the head, as they are kept and as the layout has them
  pub head_records : (kept_at (list_at segments r) (head_number segments b r)).rows.records ≡ records_at (map segment_of (list_at segments r)) (head_number segments b r)
  head_records = sym (ap (λ (x : Segment). x.records) (get_or-map segment_of (list_at segments r) (head_number segments b r) no_rows no_segment head_there))

  pub put_wide : (i : ℕ) → i < length (lived_at (get_or lanes b no_kept).head r).pieces → AreWide (piece_at (lived_at (get_or lanes b no_kept).head r).pieces i).rows.widths (puts changes r)
  put_wide i lt =
      let parts = commit_parts (kept_dataset schema lanes order segments) b second changes fit in
      subst (λ (ws : List ℕ). AreWide ws (puts changes r)) (sym (at.widths i lt)) (λ j h. puts_fit schema changes r (and_parts _ _ parts.changes).1 j (record { key = 0; fields = [] }) h)

  pub put_room : length (records_at (map segment_of (list_at segments r)) (head_number segments b r)) + length changes < 2 ^ 32 → (i : ℕ) → i < length (lived_at (get_or lanes b no_kept).head r).pieces
      → (piece_at (lived_at (get_or lanes b no_kept).head r).pieces i).segment ≡ head_number segments b r → length (piece_at (lived_at (get_or lanes b no_kept).head r).pieces i).rows.records + length (puts changes r) < 2 ^ 32
  put_room few i lt e =
      let w = ap length (at.whole i lt e) in
      let p = puts_few changes r in
      omega (arith, few, w, p)

  -- no more keys than there can be
  pub count_small : finite.len (after r (contents_in (lived_at (get_or lanes b no_kept).head r)) changes) ≤ most_keys
  count_small =
      let d : Dataset = kept_dataset schema lanes order segments in
      let parts = commit_parts d b second changes fit in
      let t : Table = head_of d b in
      let e1 : table_of k.head ≡ t = head_is schema lanes order segments b h is some in
      let w = (is.each b h).head in
      let lt : r < length k.head = omega (arith, g, w) in
      let e2 : relation_at t r ≡ contents_in lived = sym (ap (λ (x : Table). relation_at x r) e1) ∙ get_or-map contents_in k.head r no_lived finite.empty lt in
      let ln : length t ≡ length k.head = sym (ap (λ (x : Table). length x) e1) ∙ length-map k.head contents_in in
      let lw = length_with_changes t changes in
      let rt : r < length t = omega (arith, ln, lt) in
      subst (λ m. finite.len m ≤ most_keys) (after_is t changes r rt ∙ ap (λ m. after r m changes) e2) (few_keys (table_changes t changes) parts.within r (omega (arith, lw, rt)))

  -- how many keys there are after the changes, by the table of what the branch has
  pub keys_after : finite.len (relation_at (table_changes (table_of (get_or lanes b no_kept).head) changes) r) ≡ finite.len (after r (contents_in (lived_at (get_or lanes b no_kept).head r)) changes)
  keys_after =
      let w = (is.each b h).head in
      let n = length-map k.head contents_in in
      let lt : r < length k.head = omega (arith, g, w) in
      ap (λ (m : Contents). finite.len m) (after_is (table_of k.head) changes r (omega (arith, n, lt)) ∙ ap (λ m. after r m changes) (get_or-map contents_in k.head r no_lived finite.empty lt))

  -- a piece for each row, which has few deltas
  pub pieces_count : length (lived_at (get_or lanes b no_kept).head r).pieces ≡ length (kept_rows (get_or lanes b no_kept) r)
  pieces_count = at.shown.count ∙ length-map (kept_rows k r) laid_row

  pub deltas_few : (i : ℕ) → i < length (kept_rows (get_or lanes b no_kept) r) → length (kept_row_at (kept_rows (get_or lanes b no_kept) r) i).deltas < 2 ^ 32 - 1
  deltas_few i lt =
      let lm = length-map (kept_rows k r) laid_row in
      let s : KeptRow = kept_row_at (kept_rows k r) i in
      let full : s.from + length (map slots_of s.deltas) ≡ count = subst (λ (x : Row). x.from + length x.deltas ≡ count) (get_or-map laid_row (kept_rows k r) i no_kept_row no_row lt) (before_rows.are i (omega (arith, lm, lt))).full in
      let ls = length-map s.deltas slots_of in
      let room = (commit_parts (kept_dataset schema lanes order segments) b second changes fit).room in
      let v = kept_versions schema lanes order segments b h in
      omega (arith, full, ls, room, v)

  -- what the pieces differ in is what the commit changes of the rows
  pub difference_is : (qs : List Piece) → AllNext (touched_places (lived_at (get_or lanes b no_kept).head r).pieces changes r) (head_number segments b r) (puts changes r) (lived_at (get_or lanes b no_kept).head r).pieces qs
      → (i : ℕ) → i < length (kept_rows (get_or lanes b no_kept) r)
      → difference_of (piece_at (lived_at (get_or lanes b no_kept).head r).pieces i) (piece_at qs i) ≡ changed_slots ss b (count - 1) r changes (laid_row (kept_row_at (kept_rows (get_or lanes b no_kept) r) i))
  difference_is qs next i lt =
      let ps : List Piece = lived.pieces in
      let old : List Segment = ss in
      let new : List Segment = news in
      let m = length-map (kept_rows k r) laid_row in
      let li : i < length rows = omega (arith, m, lt) in
      let c = at.shown.count in
      let pi : i < length ps = omega (arith, c, li) in
      let s : KeptRow = kept_row_at (kept_rows k r) i in
      let row : Row = laid_row s in
      let row_is : row_at rows i ≡ row = get_or-map laid_row (kept_rows k r) i no_kept_row no_row lt in
      let before : Shows old (count - 1) row (piece_at ps i) = subst (λ (x : Row). Shows old (count - 1) x (piece_at ps i)) row_is (at.shown.each i li) in
      let f : Row → Row = λ (x : Row). row_after old new (touches changes r) (count - 1) x in
      let lf = length-map rows f in
      let now : Shows new count (f row) (piece_at qs i) = subst (λ (x : Row). Shows new count x (piece_at qs i)) (get_or-map f rows i no_row no_row li ∙ ap f row_is) (show_at new count rows_next qs (shown_after qs next) i (omega (arith, lf, li))) in
      let row_ok : IsRow old count row = subst (IsRow old count) row_is (before_rows.are i li) in
      let one = next.each i pi in
      let short = shown_shorter new count (f row) (piece_at qs i) now in
      let wide : length (records_at new s.segment) ≡ length (piece_at qs i).bits + (length (records_at new s.segment) - length (piece_at qs i).bits) = (let x = one.covered in omega (arith, x, short)) in
      let p : ℕ → Bool = λ slot. differ (bit_of (piece_at ps i).bits slot) (bit_of (piece_at qs i).bits slot) in
      sym (slots_stop p (length (piece_at qs i).bits) (length (records_at new s.segment) - length (piece_at qs i).bits)
      (λ slot g. let x = one.longer in (λ j. differ (get_or_past (piece_at ps i).bits slot false (omega (arith, x, g)) j) (get_or_past (piece_at qs i).bits slot false g j))))
      ∙ ap (slots_where p) (sym wide)
      ∙ slots_agree p (λ slot. differ (bit row (count - 1) slot) (bit_after (records_at old s.segment) (touches changes r) (bit row (count - 1)) slot)) (length (records_at new s.segment))
      (λ slot g. (λ j. differ (before.bits slot j) ((now.bits slot ∙ bit_next old new (touches changes r) count (count - 1) row row_ok last_next slot g) j)))

  -- the pieces stay small enough for their ids
  pub small_after : (qs : List Piece) → AllNext (touched_places (lived_at (get_or lanes b no_kept).head r).pieces changes r) (head_number segments b r) (puts changes r) (lived_at (get_or lanes b no_kept).head r).pieces qs
      → length (records_at (map segment_of (list_at segments r)) (head_number segments b r)) + length changes < 2 ^ 32
      → (i : ℕ) → i < length (lived_at (get_or lanes b no_kept).head r).pieces → length (piece_at qs i).rows.records < 2 ^ 32
  small_after qs next few i lt =
      let p : Piece = piece_at lived.pieces i in
      let e = ap (λ (xs : List Record). length xs) (next.each i lt).records in
      let n = length-append p.rows.records (cond (p.segment == head_number segments b r) (puts changes r) []) in
      by (cases_Bool (p.segment == head_number segments b r)) (e ∙ n)
    where
      by : ((piece_at (lived_at (get_or lanes b no_kept).head r).pieces i).segment == head_number segments b r ≡ true) ⊎ ((piece_at (lived_at (get_or lanes b no_kept).head r).pieces i).segment == head_number segments b r ≡ false)
          → length (piece_at qs i).rows.records ≡ length (piece_at (lived_at (get_or lanes b no_kept).head r).pieces i).rows.records + length (cond ((piece_at (lived_at (get_or lanes b no_kept).head r).pieces i).segment == head_number segments b r) (puts changes r) [])
          → length (piece_at qs i).rows.records < 2 ^ 32
      by (inl t) e =
          let z = ap (λ x. length (cond x (puts changes r) [])) t in
          let w = put_room few i lt (eqb-true (piece_at (lived_at (get_or lanes b no_kept).head r).pieces i).segment (head_number segments b r) t) in
          omega (arith, e, z, w)
      by (inr f) e =
          let none : List Record = [] in
          let z = ap (λ x. length (cond x (puts changes r) none)) f in
          let w = at.small i lt in
          omega (arith, e, z, w)

  -- all of it: what is ready in this relation
  pub made_at : (nexts : List Next) (m : Lived) (own : Rows) → AllNext (touched_places (lived_at (get_or lanes b no_kept).head r).pieces changes r) (head_number segments b r) (puts changes r) (lived_at (get_or lanes b no_kept).head r).pieces m.pieces
      → AreDifferences (kept_rows (get_or lanes b no_kept) r) nexts (lived_at (get_or lanes b no_kept).head r).pieces m.pieces → IsLived m → own.records ≡ records_at news (head_number segments b r) → own.widths ≡ widths_at schema r → AreSmall m
      → IsMadeAt ss (widths_at schema r) b (count - 1) r changes rows nexts m own
  made_at nexts m own next ds is_lived put own_widths small =
      let ps : List Piece = lived.pieces in
      let old : List Segment = ss in
      let new : List Segment = news in
      let lm = length-map (kept_rows k r) laid_row in
      let f : Row → Row = λ (x : Row). row_after old new (touches changes r) (count - 1) x in
      let lf = length-map rows f in
      let is_head : (s : ℕ) → s < length old → is_head_of b (head_at old s) ≡ true → s ≡ head_number segments b r = λ s h t. eqb-true s (head_number segments b r) (sym (at.headed s h) ∙ t) in
      let c = at.shown.count in
      record {
        there = λ i h. (before_rows.are i h).there;
        within = λ i slot h t. (before_rows.are i h).within (count - 1) slot t;
        ready = ds.count ∙ sym lm;
        deltas = λ i h.
            let lt : i < length (kept_rows k r) = omega (arith, lm, h) in
            subst (λ (x : Row). next_at nexts i ≡ next_of (map shortest x.deltas) (shortest (changed_slots old b (count - 1) r changes x)))
            (sym (get_or-map laid_row (kept_rows k r) i no_kept_row no_row lt))
            (ds.each i lt ∙ (λ j. next_of (sym (at.short i lt) j) (shortest (difference_is m.pieces next i lt j))));
        count = next.count ∙ at.shown.count;
        shown = λ i h.
            subst (λ c. Shows new c (f (row_at rows i)) (piece_at m.pieces i)) (sym last_next)
            (subst (λ (x : Row). Shows new count x (piece_at m.pieces i)) (get_or-map f rows i no_row no_row h) (show_at new count rows_next m.pieces (shown_after m.pieces next) i (omega (arith, lf, h))));
        whole = λ s h t i lt e.
            let c = next.count in
            let li : i < length ps = omega (arith, c, lt) in
            let one = next.each i li in
            let hd = is_head s h t in
            let seg : (piece_at ps i).segment ≡ head_number segments b r = sym one.segment ∙ e ∙ hd in
            one.records
            ∙ (λ j. at.whole i li seg j ++ cond (eq-eqb (piece_at ps i).segment (head_number segments b r) seg j) (puts changes r) [])
            ∙ ap (λ x. records_at old x ++ puts changes r) (sym hd)
            ∙ sym (after_records b (puts changes r) old s h ∙ ap (λ x. records_at old s ++ cond x (puts changes r) []) t);
        lived = is_lived;
        small = small;
        widths = λ i h. let lp : i < length ps = omega (arith, c, h) in (next.each i lp).widths ∙ at.widths i lp;
        own_widths = own_widths;
        put = λ s h t. put ∙ ap (records_at new) (sym (is_head s h t));
      }

  -- the same in the words of the layout
  pub made_in : (nexts : List Next) (m : Lived) (own : Rows) → IsMadeAt ss (widths_at schema r) b (count - 1) r changes rows nexts m own
      → IsMadeAt (segments_at (kept_layout schema lanes order segments).segments r) (widths_at schema r) b (last_in (lane_at (kept_layout schema lanes order segments) b)) r changes (rows_at (lane_at (kept_layout schema lanes order segments) b) r) nexts m own
  made_in nexts m own made =
      let ws : List ℕ = widths_at schema r in
      let last : last_in (lane_at l b) ≡ count - 1 = ap (λ n. n - 1) counted in
      subst (λ n. IsMadeAt (segments_at l.segments r) ws b n r changes (rows_at (lane_at l b) r) nexts m own) (sym last)
      (subst (λ xs. IsMadeAt (segments_at l.segments r) ws b (count - 1) r changes xs nexts m own) (sym rows_eq)
      (subst (λ s. IsMadeAt s ws b (count - 1) r changes rows nexts m own) (sym (segments_kept schema lanes order segments r g)) made))

  -- the piece of the head has its records
  pub own_put : (m : Lived) → AllNext (touched_places (lived_at (get_or lanes b no_kept).head r).pieces changes r) (head_number segments b r) (puts changes r) (lived_at (get_or lanes b no_kept).head r).pieces m.pieces
      → (i : ℕ) → i < length m.pieces → (piece_at m.pieces i).segment ≡ head_number segments b r → (piece_at m.pieces i).rows.records ≡ records_at news (head_number segments b r)
  own_put m next i lt e =
      let ps : List Piece = lived.pieces in
      let hd : ℕ = head_number segments b r in
      let d = next.count in
      let lp : i < length ps = omega (arith, d, lt) in
      let one = next.each i lp in
      let seg : (piece_at ps i).segment ≡ hd = sym one.segment ∙ e in
      let n = length-map (list_at segments r) segment_of in
      let th = head_there in
      let there : hd < length ss = omega (arith, n, th) in
      one.records
      ∙ (λ j. at.whole i lp seg j ++ cond (eq-eqb (piece_at ps i).segment hd seg j) (puts changes r) [])
      ∙ sym (after_records b (puts changes r) ss hd there ∙ ap (λ x. records_at ss hd ++ cond x (puts changes r) []) (at.headed hd there ∙ eq-eqb hd hd refl))

  -- and their number of widths
  pub own_widths : (m : Lived) → AllNext (touched_places (lived_at (get_or lanes b no_kept).head r).pieces changes r) (head_number segments b r) (puts changes r) (lived_at (get_or lanes b no_kept).head r).pieces m.pieces
      → (i : ℕ) → i < length m.pieces → (piece_at m.pieces i).rows.widths ≡ widths_at schema r
  own_widths m next i lt =
      let d = next.count in
      let lp : i < length lived.pieces = omega (arith, d, lt) in
      (next.each i lp).widths ∙ at.widths i lp

-- in each relation one piece is that of the head
pub next_own : (schema : List Relation) (lanes : List KeptLane) (segments : List KeptList) (b : ℕ) (changes : List Change) (head : List Lived) → b < length lanes → IsStored schema lanes segments
    → AllNextIn (head_number segments b) (get_or lanes b no_kept) changes (length schema) head → (r : ℕ) → r < length schema → HasPiece (head_number segments b r) (lived_at head r).pieces
next_own schema lanes segments b changes head h is next r g =
    let k : KeptLane = get_or lanes b no_kept in
    let kept = (is.each b h).at r g in
    let own_at = has_at (head_number segments b r) (kept_rows k r) kept.own in
    let i : ℕ = own_at.0 in
    let lt = own_at.1.0 in
    let m = length-map (kept_rows k r) laid_row in
    let c = kept.shown.count in
    let d = (next r g).count in
    let lr : i < length (map laid_row (kept_rows k r)) = omega (arith, m, lt) in
    let lp : i < length (lived_at k.head r).pieces = omega (arith, lr, c) in (
      i,
      (
        omega (arith, lp, d),
        ((next r g).each i lp).segment ∙ (kept.shown.each i lr).segment ∙ ap (λ (x : Row). x.segment) (get_or-map laid_row (kept_rows k r) i no_kept_row no_row lt) ∙ own_at.1.1,
      ),
    )

-- what a commit that fits makes is ready
pub prepared_is : (schema : List Relation) (lanes : List KeptLane) (order : List VersionPlace) (segments : List KeptList) (b : ℕ) (second : Option VersionPlace) (changes : List Change) (h : b < length lanes)
    → IsStored schema lanes segments → IsLaid (kept_layout schema lanes order segments) → fits (kept_dataset schema lanes order segments) (Commit b second changes) ≡ true
    → (nexts : List (List Next)) (head : List Lived) (owns : List Rows) → length nexts ≡ length schema → length head ≡ length schema → length owns ≡ length schema
    → AllNextIn (head_number segments b) (get_or lanes b no_kept) changes (length schema) head → AllDifferences (get_or lanes b no_kept) nexts (length schema) head → AllLived head
    → AreOwn (head_number segments b) head (length schema) owns
    → ((r : ℕ) → r < length schema → AreSmall (lived_at head r))
    → IsMadeOf (kept_layout schema lanes order segments) b second changes b second nexts head owns
prepared_is schema lanes order segments b second changes h is laid fit nexts head owns e w n next ds all put small = record {
  branch = refl;
  version = refl;
  ready = e;
  wide = w;
  counted = n;
  at = λ r g.
      let own : Rows = get_or owns r no_own in
      made_in schema lanes order segments b r second changes h g is laid fit (nexts_at nexts r) (lived_at head r) own
      (made_at schema lanes order segments b r second changes h g is laid fit (nexts_at nexts r) (lived_at head r) own (next r g) (ds r g) (all r (omega (arith, g, w)))
      (ap (λ (x : Rows). x.records) (put r g).1.1.1 ∙ own_put schema lanes order segments b r second changes h g is laid fit (lived_at head r) (next r g) (put r g).0 (put r g).1.0 (put r g).1.1.0)
      (ap (λ (x : Rows). x.widths) (put r g).1.1.1 ∙ own_widths schema lanes order segments b r second changes h g is laid fit (lived_at head r) (next r g) (put r g).0 (put r g).1.0)
      (small r g));
}
