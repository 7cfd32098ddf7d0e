-- What a version has is its table, and its parts are of the state.
use Rattle.std.proofs.Common.{◌≡◌, ◌⊎◌, inl, inr, ℕ, suc, ◌+◌, ◌-◌, ◌*◌, ◌/◌, ◌%◌, ◌^◌, ◌<◌, ◌≤◌, cond, Bool, true, List, [], ◌∷◌, ◌++◌, length, map, take, get_or, Some, None, refl, arith, ap, sym, ◌∙◌, subst}
use Rattle.std.specs.FinMap as finite
use Rattle.std.proofs.lemmas.List.{length-map, get_or-map, get_or_past}
use Rattle.std.proofs.lemmas.Bool.{and_from, lt-ltb, le-leb, cases_lt, eqb-true}
use Rattle.db_value.specs.declared.record.Record.{Record}
use Rattle.db_value.specs.declared.schema.Relation.{Relation}
use Rattle.db_value.specs.declared.version.VersionPlace.{VersionPlace}
use Rattle.db_value.specs.Schema.{most_relations}
use Rattle.db_store.specs.Table.{Contents, Table, relation_at}
use Rattle.db_store.specs.Fits.{most_keys}
use Rattle.db_store.specs.Counted.{IsCounted}
use Rattle.db_store.specs.Dataset.{table_at, IsMade}
use Rattle.db_store.specs.Parts.{Part, part_at, no_part, records_in, IsViewable, AreOf}
use Rattle.db_store.specs.State.{laid, segment_records}
use Rattle.db_store.specs.Layout.{Segment, Row, Lane, Layout, contents_of, live_in, table_in, lane_at, segments_at, rows_at, records_at}
use Rattle.db_store.specs.LaidOut.{IsLaid, row_at, no_row}
use Rattle.db_store.proofs.LayoutLaw.{table_is, table_at_is}
use Rattle.db_value.specs.Relations.{widths_at}
use Rattle.db_value.specs.declared.entry.Entry.{Entry}
use Rattle.db_value.specs.declared.entry.Entry.TheVariants.{Commit, Branch as NewBranch}
use Rattle.db_store.specs.Fits.{IsBranch}
use Rattle.db_store.specs.LayoutGrowth.{is_last, last_in}
use Rattle.store_catalogue.specs.Entries.{name_of, origin_of}
use Rattle.hybrid_view.specs.Live.{Piece, Lived, no_piece, no_lived, piece_at, lived_at, slots_from, part_of, parts_in, contents_in, table_of}
use Rattle.plain_bits.specs.Truth.{bit_of}
use Rattle.hybrid_view.specs.RowPlaces.{Shows}
use Rattle.hybrid_view.proofs.PlaceLemmas.{shown_rows, shown_shorter}
use Rattle.hybrid_view.proofs.NextLemmas.{show_all}
use Rattle.bit_rows.specs.Rows.{KeptRow, no_kept_row, kept_row_at, laid_row}
use Rattle.bit_rows.specs.Kept.{KeptLane, no_kept, kept_rows}
use Rattle.hybrid_store.specs.Lanes.{segment_of, lane_of, kept_layout}
use Rattle.bit_rows.specs.Segments.{KeptList, list_at}
use Rattle.bit_rows.specs.Seen.{begun_by, lived_seen}
use Rattle.bit_rows.proofs.BegunRowsLemmas.{each_begun, begun_live}
use Rattle.hybrid_store.proofs.BranchStored.{rows_of_lane}
use Rattle.hybrid_store.specs.Stored.{kept_dataset, IsSeenAt, IsSeen, IsStored}
use Rattle.hybrid_store.proofs.LayoutLemmas.{lane_kept, segments_kept, rows_kept}
use Rattle.hybrid_store.proofs.StoredLemmas.{kept_count, kept_versions}
use Rattle.hybrid_store.proofs.NewLemmas.{each_more}
use Rattle.hybrid_store.proofs.SeenRows.{seen_lived, seen_contents}

-- the records of slots
records_of_slots : (slot : ℕ) (xs : List Record) (p : ℕ → Bool) → map (λ (s : Record × Bool). s.0) (slots_from slot xs p) ≡ xs
records_of_slots slot [] p = refl
records_of_slots slot (x ∷ xs) p = ap (λ (ys : List Record). x ∷ ys) (records_of_slots (suc slot) xs p)

-- a branch of an entry that is one
pub branch_is : (e : Entry) → IsBranch e → NewBranch (name_of e) (origin_of e) ≡ e
branch_is (Commit b second cs) h = absurd h
branch_is (NewBranch name origin) h = refl

module _ (schema : List Relation) (lanes : List KeptLane) (order : List VersionPlace) (segments : List KeptList) where
  -- a made place is kept
  pub made_kept : (at : VersionPlace) → IsMade (kept_dataset schema lanes order segments) at → (at.branch < length lanes) × (at.position < length (get_or lanes at.branch no_kept).seconds)
  made_kept at made =
      let n = kept_count schema lanes order segments in
      let b = made.0 in
      let p = made.1 in
      let h : at.branch < length lanes = omega (arith, n, b) in
      let v = kept_versions schema lanes order segments at.branch h in (h, omega (arith, v, p))

  -- the last place of a branch
  pub last_kept : (at : VersionPlace) → at.branch < length lanes → is_last (kept_layout schema lanes order segments) at ≡ true → at.position ≡ length (get_or lanes at.branch no_kept).seconds - 1
  last_kept at h t = eqb-true at.position (last_in (lane_at (kept_layout schema lanes order segments) at.branch)) t ∙ ap (λ (x : Lane). length x.seconds - 1) (lane_kept schema lanes order segments at.branch h)

  seen_table : (k : KeptLane) (n : ℕ) (view : List Lived) → IsSeen schema segments k n view → table_of view ≡ table_in schema (kept_layout schema lanes order segments).segments (lane_of schema k) n
  seen_table k n view is =
      let m = length-map view contents_in in let w = is.wide in
      sym (table_is schema (λ r. contents_of (live_in (segments_at (kept_layout schema lanes order segments).segments r) n (rows_at (lane_of schema k) r))) (table_of view) (m ∙ w)
      (λ r h.
      let at = is.at r h in
      (λ i. contents_of (live_in (segments_kept schema lanes order segments r h i) n (rows_kept schema k r h i)))
      ∙ ap contents_of (sym (begun_live (map segment_of (list_at segments r)) n (kept_rows k r)))
      ∙ ap contents_of (sym (shown_rows (map segment_of (list_at segments r)) n (map laid_row (begun_by n (kept_rows k r))) (lived_at view r).pieces (show_all (map segment_of (list_at segments r)) n (map laid_row (begun_by n (kept_rows k r))) (lived_at view r).pieces at.shown.count at.shown.each)))
      ∙ sym (get_or-map contents_in view r no_lived finite.empty (omega (arith, h, w)))))

  -- what is kept of a place
  pub table_kept : (at : VersionPlace) → at.branch < length lanes → at.position < length (get_or lanes at.branch no_kept).seconds
      → table_at (kept_dataset schema lanes order segments) at ≡ table_in schema (kept_layout schema lanes order segments).segments (lane_of schema (get_or lanes at.branch no_kept)) at.position
  table_kept at h p =
      let n = length-map lanes (lane_of schema) in
      let here = lane_kept schema lanes order segments at.branch h in
      let e = ap (λ (x : Lane). length x.seconds) here in
      table_at_is (kept_layout schema lanes order segments) at (omega (arith, h, n)) (omega (arith, p, e))
      ∙ ap (λ (x : Lane). table_in schema (kept_layout schema lanes order segments).segments x at.position) here

  pub seen_is : (at : VersionPlace) (view : List Lived) → at.branch < length lanes → at.position < length (get_or lanes at.branch no_kept).seconds → IsSeen schema segments (get_or lanes at.branch no_kept) at.position view
      → table_of view ≡ table_at (kept_dataset schema lanes order segments) at
  seen_is at view h p is = seen_table (get_or lanes at.branch no_kept) at.position view is ∙ sym (table_kept at h p)

  -- ---- parts

  abbrev l : Layout
  l = kept_layout schema lanes order segments

  -- a piece that shows a row is a part whose id the layout knows
  part_known : (r : ℕ) (p : Piece) (row : Row) (n : ℕ) → r < length schema → row.segment < length (segments_at (kept_layout schema lanes order segments).segments r) → Shows (segments_at (kept_layout schema lanes order segments).segments r) n row p → length p.rows.records < 2 ^ 32
      → segment_records (kept_layout schema lanes order segments) r ((part_of p).id / 2 ^ 32) ((part_of p).id % 2 ^ 32) ≡ Some (records_in (part_of p))
  part_known r p row n h there shows small =
      let over : (p.segment * 2 ^ 32 + length p.rows.records) / 2 ^ 32 ≡ p.segment = omega (arith, small) in
      let under : (p.segment * 2 ^ 32 + length p.rows.records) % 2 ^ 32 ≡ length p.rows.records = omega (arith, small) in
      (λ i. segment_records l r (over i) (under i))
      ∙ ap (λ s. segment_records l r s (length p.rows.records)) shows.segment
      ∙ ap (λ b. cond b (Some (take (length p.rows.records) (records_at (segments_at l.segments r) row.segment))) None)
      (and_from _ _ (and_from _ _ (lt-ltb r (length schema) h) (lt-ltb row.segment (length (segments_at l.segments r)) there)) (le-leb (length p.rows.records) (length (records_at (segments_at l.segments r) row.segment)) (shown_shorter (segments_at l.segments r) n row p shows)))
      ∙ ap Some (shows.front ∙ sym (records_of_slots 0 p.rows.records (bit_of p.bits)))

  -- the rows of a branch are of segments that are there
  pub rows_there : (b r : ℕ) → b < length lanes → r < length schema → IsLaid (kept_layout schema lanes order segments) → (i : ℕ) → i < length (kept_rows (get_or lanes b no_kept) r) → (kept_row_at (kept_rows (get_or lanes b no_kept) r) i).segment < length (map segment_of (list_at segments r))
  rows_there b r h g laid i lt =
      let rows : List KeptRow = kept_rows (get_or lanes b no_kept) r in
      let m = length-map rows laid_row in
      subst (λ (x : Row). x.segment < length (map segment_of (list_at segments r))) (get_or-map laid_row rows i no_kept_row no_row lt) ((rows_of_lane schema lanes order segments laid b h r g).are i (omega (arith, lt, m))).there

  pub seen_parts : (b n : ℕ) (view : List Lived) → b < length lanes → IsSeen schema segments (get_or lanes b no_kept) n view → IsLaid (kept_layout schema lanes order segments) → AreOf (laid (kept_layout schema lanes order segments)) (λ r. parts_in (lived_at view r))
  seen_parts b n view h is laid r i below = by (cases_lt r (length schema))
    where
      k : KeptLane
      k = get_or lanes b no_kept

      by : (r < length schema) ⊎ (length schema ≤ r) → segment_records (kept_layout schema lanes order segments) r ((part_at (parts_in (lived_at view r)) i).id / 2 ^ 32) ((part_at (parts_in (lived_at view r)) i).id % 2 ^ 32)
          ≡ Some (records_in (part_at (parts_in (lived_at view r)) i))
      by (inr g) =
          let w = is.wide in
          let e : lived_at view r ≡ no_lived = get_or_past view r no_lived (omega (arith, w, g)) in
          let z : length (parts_in (lived_at view r)) ≡ 0 = ap (λ (x : Lived). length (parts_in x)) e in
          absurd (omega (arith, z, below))
      by (inl g) =
          let at = is.at r g in
          let ps : List Piece = (lived_at view r).pieces in
          let all : List KeptRow = kept_rows (get_or lanes b no_kept) r in
          let rows : List KeptRow = begun_by n all in
          let mine : List Row = map laid_row rows in
          let m = length-map ps part_of in
          let c = at.shown.count in
          let lt : i < length ps = omega (arith, m, below) in
          let lr : i < length mine = omega (arith, c, lt) in
          let own = length-map rows laid_row in
          let it : i < length rows = omega (arith, own, lr) in
          let there : (row_at mine i).segment < length (segments_at l.segments r) =
          subst (λ (ss : List Segment). (row_at mine i).segment < length ss) (sym (segments_kept schema lanes order segments r g))
          (subst (λ (x : Row). x.segment < length (map segment_of (list_at segments r))) (sym (get_or-map laid_row rows i no_kept_row no_row it))
          (each_begun (λ (x : KeptRow). x.segment < length (map segment_of (list_at segments r))) n all (rows_there b r h g laid) i it)) in
          subst (λ (x : Part). segment_records l r (x.id / 2 ^ 32) (x.id % 2 ^ 32) ≡ Some (records_in x)) (sym (get_or-map part_of ps i no_piece no_part lt))
          (part_known r (piece_at ps i) (row_at mine i) n g there (subst (λ ss. Shows ss n (row_at mine i) (piece_at ps i)) (sym (segments_kept schema lanes order segments r g)) (at.shown.each i lr)) (at.small i lt))

  -- it is within the limits of a view
  pub seen_viewable : (at : VersionPlace) (view : List Lived) → IsMade (kept_dataset schema lanes order segments) at → IsSeen schema segments (get_or lanes at.branch no_kept) at.position view → length schema ≤ most_relations → IsCounted (kept_dataset schema lanes order segments)
      → IsViewable (table_of view) (λ r. parts_in (lived_at view r))
  seen_viewable at view made is few counted =
      let m = length-map view contents_in in
      let w = is.wide in
      let t = counted.tables at made in
      let place = made_kept at made in
      let same : table_of view ≡ table_at (kept_dataset schema lanes order segments) at = seen_is at view place.0 place.1 is in
      record {
        relations = omega (arith, m, w, few);
        keys = λ r lt. subst (λ (x : Table). finite.len (relation_at x r) ≤ most_keys) (sym same) (t.few r (subst (λ (x : Table). r < length x) same lt));
        parts = λ r lt. let q = length-map (lived_at view r).pieces part_of in let f = (is.at r (omega (arith, lt, m, w))).lived.few in omega (arith, q, f);
      }

  -- ---- one relation after another

  -- what is found has so few keys as the table
  pub seen_few : (at : VersionPlace) → IsMade (kept_dataset schema lanes order segments) at → IsStored schema lanes segments → IsLaid (kept_layout schema lanes order segments) → IsCounted (kept_dataset schema lanes order segments)
      → (r : ℕ) → r < length schema → (lived_seen (list_at segments r) at.position (kept_rows (get_or lanes at.branch no_kept) r)).count < 2 ^ 32
  seen_few at made stored laid counted r g =
      let place = made_kept at made in
      let t = counted.tables at made in
      let w = t.wide in
      let e = (seen_lived schema lanes order segments stored laid at.branch at.position r place.0 place.1 g).counted in
      let len_is : finite.len (contents_in (lived_seen (list_at segments r) at.position (kept_rows (get_or lanes at.branch no_kept) r))) ≡ finite.len (relation_at (table_at (kept_dataset schema lanes order segments) at) r) =
      ap (λ (m : Contents). finite.len m) (seen_contents schema lanes order segments stored laid at.branch at.position r place.0 place.1 g) ∙ ap (λ (x : Table). finite.len (relation_at x r)) (sym (table_kept at place.0 place.1)) in
      let few = t.few r (omega (arith, g, w)) in
      omega (arith, e, len_is, few)

-- the version at a position of a branch has this of the first relations
abbrev pub AreSeen : List Relation → List KeptList → KeptLane → ℕ → ℕ → List Lived → Type 0
AreSeen schema segments k n m view = (r : ℕ) → r < m → IsSeenAt (map segment_of (list_at segments r)) (widths_at schema r) n (map laid_row (begun_by n (kept_rows k r))) (lived_at view r)

pub seen_more : (schema : List Relation) (segments : List KeptList) (k : KeptLane) (n m : ℕ) (view : List Lived) (l : Lived) → length view ≡ m → AreSeen schema segments k n m view
    → IsSeenAt (map segment_of (list_at segments m)) (widths_at schema m) n (map laid_row (begun_by n (kept_rows k m))) l → AreSeen schema segments k n (m + 1) (view ++ l ∷ [])
seen_more schema segments k n m view l w f x = each_more (λ r (y : Lived). IsSeenAt (map segment_of (list_at segments r)) (widths_at schema r) n (map laid_row (begun_by n (kept_rows k r))) y) view l no_lived m w f x
