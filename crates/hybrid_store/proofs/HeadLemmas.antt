-- What the last version of a branch has is the last table of the branch, and its parts are of the state.
use Rattle.std.proofs.Common.{◌≡◌, ◌⊎◌, inl, inr, ℕ, suc, ◌+◌, ◌-◌, ◌*◌, ◌/◌, ◌%◌, ◌^◌, ◌<◌, ◌≤◌, cond, Bool, List, [], ◌∷◌, length, map, take, get_or, Option, Some, None, refl, arith, ap, sym, ◌∙◌, subst}
use Rattle.std.specs.FinMap as finite
use Rattle.std.proofs.lemmas.List.{length-map, get_or-map, get_or_past}
use Rattle.std.proofs.lemmas.Bool.{and_from, lt-ltb, le-leb, cases_lt}
use Rattle.db_value.specs.declared.record.Record.{Record}
use Rattle.db_value.specs.declared.schema.Relation.{Relation}
use Rattle.db_value.specs.declared.version.VersionPlace.{VersionPlace}
use Rattle.db_store.specs.Table.{Table}
use Rattle.db_store.specs.Dataset.{Branch, no_version, head_of}
use Rattle.db_store.specs.Parts.{Part, part_at, no_part, records_in, AreOf}
use Rattle.db_store.specs.State.{laid, segment_records}
use Rattle.db_store.specs.Layout.{Row, Lane, Layout, contents_of, live_in, table_in, lane_at, versions_from, segments_at, rows_at, records_at}
use Rattle.db_store.specs.LaidOut.{IsLaid, row_at}
use Rattle.db_store.proofs.LayoutLaw.{table_is, version_in}
use Rattle.hybrid_view.specs.Live.{Piece, Lived, no_piece, no_lived, piece_at, lived_at, slots_from, part_of, parts_in, contents_in, table_of}
use Rattle.plain_bits.specs.Truth.{bit_of}
use Rattle.hybrid_view.specs.RowPlaces.{Shows}
use Rattle.hybrid_view.proofs.PlaceLemmas.{shown_rows, shown_shorter}
use Rattle.hybrid_view.proofs.NextLemmas.{show_all}
use Rattle.bit_rows.specs.Rows.{laid_row}
use Rattle.bit_rows.specs.Kept.{KeptLane, no_kept, kept_rows}
use Rattle.hybrid_store.specs.Lanes.{segment_of, lane_of, kept_layout}
use Rattle.bit_rows.specs.Segments.{KeptList, list_at}
use Rattle.hybrid_store.specs.Stored.{kept_dataset, IsKept, IsStored}
use Rattle.hybrid_store.proofs.LayoutLemmas.{lane_kept, segments_kept, rows_kept}
use Rattle.hybrid_store.proofs.StoredLemmas.{kept_branch, versions_count}

-- the records of slots
records_of_slots : (slot : ℕ) (xs : List Record) (p : ℕ → Bool) → map (λ (s : Record × Bool). s.0) (slots_from slot xs p) ≡ xs
records_of_slots slot [] p = refl
records_of_slots slot (x ∷ xs) p = ap (λ (ys : List Record). x ∷ ys) (records_of_slots (suc slot) xs p)

module _ (schema : List Relation) (lanes : List KeptLane) (order : List VersionPlace) (segments : List KeptList) where
  pub head_table : (b : ℕ) (k : KeptLane) → IsKept schema segments b k → table_of k.head ≡ table_in schema (kept_layout schema lanes order segments).segments (lane_of schema k) (length k.seconds - 1)
  head_table b k is =
      let n = length-map k.head contents_in in let w = is.head in
      sym (table_is schema (λ r. contents_of (live_in (segments_at (kept_layout schema lanes order segments).segments r) (length k.seconds - 1) (rows_at (lane_of schema k) r))) (table_of k.head) (n ∙ w)
      (λ r h.
      let at = is.at r h in
      (λ i. contents_of (live_in (segments_kept schema lanes order segments r h i) (length k.seconds - 1) (rows_kept schema k r h i)))
      ∙ ap contents_of (sym (shown_rows (map segment_of (list_at segments r)) (length k.seconds - 1) (map laid_row (kept_rows k r)) (lived_at k.head r).pieces (show_all (map segment_of (list_at segments r)) (length k.seconds - 1) (map laid_row (kept_rows k r)) (lived_at k.head r).pieces at.shown.count at.shown.each)))
      ∙ sym (get_or-map contents_in k.head r no_lived finite.empty (omega (arith, h, w)))))

  pub head_is : (b : ℕ) → b < length lanes → IsStored schema lanes segments → 0 < length (get_or lanes b no_kept).seconds → table_of (get_or lanes b no_kept).head ≡ head_of (kept_dataset schema lanes order segments) b
  head_is b h is some =
      let k : KeptLane = get_or lanes b no_kept in
      let f : ℕ → Table = table_in schema (kept_layout schema lanes order segments).segments (lane_of schema k) in
      let ss : List (Option VersionPlace) = k.seconds in
      let c = versions_count f 0 ss in
      head_table b k (is.each b h)
      ∙ ap f (let e : length k.seconds - 1 ≡ 0 + (length k.seconds - 1) = omega arith in e)
      ∙ sym (version_in f 0 (length k.seconds - 1) ss (omega (arith, some)))
      ∙ ap (λ j. (get_or (versions_from f 0 ss) j no_version).table) (let e : length k.seconds - 1 ≡ length (versions_from f 0 ss) - 1 = omega (arith, c) in e)
      ∙ sym (ap (λ (x : Branch). (get_or x.versions (length x.versions - 1) no_version).table) (kept_branch schema lanes order segments b h))

  -- ---- parts

  abbrev l : Layout
  l = kept_layout schema lanes order segments

  -- a piece that shows a row is a part whose id the layout knows
  part_known : (r : ℕ) (p : Piece) (row : Row) (n : ℕ) → r < length schema → row.segment < length (segments_at (kept_layout schema lanes order segments).segments r) → Shows (segments_at (kept_layout schema lanes order segments).segments r) n row p → length p.rows.records < 2 ^ 32
      → segment_records (kept_layout schema lanes order segments) r ((part_of p).id / 2 ^ 32) ((part_of p).id % 2 ^ 32) ≡ Some (records_in (part_of p))
  part_known r p row n h there shows small =
      let over : (p.segment * 2 ^ 32 + length p.rows.records) / 2 ^ 32 ≡ p.segment = omega (arith, small) in
      let under : (p.segment * 2 ^ 32 + length p.rows.records) % 2 ^ 32 ≡ length p.rows.records = omega (arith, small) in
      (λ i. segment_records l r (over i) (under i))
      ∙ ap (λ s. segment_records l r s (length p.rows.records)) shows.segment
      ∙ ap (λ b. cond b (Some (take (length p.rows.records) (records_at (segments_at l.segments r) row.segment))) None)
      (and_from _ _ (and_from _ _ (lt-ltb r (length schema) h) (lt-ltb row.segment (length (segments_at l.segments r)) there)) (le-leb (length p.rows.records) (length (records_at (segments_at l.segments r) row.segment)) (shown_shorter (segments_at l.segments r) n row p shows)))
      ∙ ap Some (shows.front ∙ sym (records_of_slots 0 p.rows.records (bit_of p.bits)))

  pub head_parts : (b : ℕ) → b < length lanes → IsStored schema lanes segments → IsLaid (kept_layout schema lanes order segments) → AreOf (laid (kept_layout schema lanes order segments)) (λ r. parts_in (lived_at (get_or lanes b no_kept).head r))
  head_parts b h is laid r i below = by (cases_lt r (length schema))
    where
      k : KeptLane
      k = get_or lanes b no_kept

      by : (r < length schema) ⊎ (length schema ≤ r) → segment_records (kept_layout schema lanes order segments) r ((part_at (parts_in (lived_at (get_or lanes b no_kept).head r)) i).id / 2 ^ 32) ((part_at (parts_in (lived_at (get_or lanes b no_kept).head r)) i).id % 2 ^ 32)
          ≡ Some (records_in (part_at (parts_in (lived_at (get_or lanes b no_kept).head r)) i))
      by (inr g) =
          let w = (is.each b h).head in
          let e : lived_at (get_or lanes b no_kept).head r ≡ no_lived = get_or_past (get_or lanes b no_kept).head r no_lived (omega (arith, w, g)) in
          let z : length (parts_in (lived_at (get_or lanes b no_kept).head r)) ≡ 0 = ap (λ (x : Lived). length (parts_in x)) e in
          absurd (omega (arith, z, below))
      by (inl g) =
          let at = (is.each b h).at r g in
          let ps : List Piece = (lived_at (get_or lanes b no_kept).head r).pieces in
          let mine : List Row = map laid_row (kept_rows (get_or lanes b no_kept) r) in
          let n = length-map ps part_of in
          let c = at.shown.count in
          let lt : i < length ps = omega (arith, n, below) in
          let lr : i < length mine = omega (arith, c, lt) in
          let rows_eq : rows_at (lane_at (kept_layout schema lanes order segments) b) r ≡ mine = ap (λ (x : Lane). rows_at x r) (lane_kept schema lanes order segments b h) ∙ rows_kept schema (get_or lanes b no_kept) r g in
          let ln = length-map lanes (lane_of schema) in
          let re = ap (λ (rows : List Row). length rows) rows_eq in
          let there : (row_at mine i).segment < length (segments_at l.segments r) =
          subst (λ (rows : List Row). (row_at rows i).segment < length (segments_at l.segments r)) rows_eq ((((laid.lanes b (omega (arith, ln, h))).rows r g).are i (omega (arith, re, lr))).there) in
          subst (λ (x : Part). segment_records l r (x.id / 2 ^ 32) (x.id % 2 ^ 32) ≡ Some (records_in x)) (sym (get_or-map part_of ps i no_piece no_part lt))
          (part_known r (piece_at ps i) (row_at mine i) ((length (get_or lanes b no_kept).seconds) - 1) g there (subst (λ ss. Shows ss ((length (get_or lanes b no_kept).seconds) - 1) (row_at mine i) (piece_at ps i)) (sym (segments_kept schema lanes order segments r g)) (at.shown.each i lr)) (at.small i lt))
