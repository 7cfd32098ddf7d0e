-- What a version has of a relation, by rows whose deltas are shortest.
use Rattle.std.proofs.Common.{◌≡◌, ℕ, suc, ◌+◌, ◌-◌, ◌^◌, ◌<◌, ◌≤◌, ◌&&◌, nat_le, Bool, true, false, List, [], ◌∷◌, length, map, take, get_or, refl, arith, ap, sym, ◌∙◌, subst}
use Rattle.std.specs.FinMap as finite
use Rattle.std.proofs.lemmas.List.{length-map, get_or-map, take_all}
use Rattle.db_value.specs.Relations.{widths_at}
use Rattle.db_value.specs.declared.record.Record.{Record}
use Rattle.db_value.specs.declared.schema.Relation.{Relation}
use Rattle.db_value.specs.declared.version.VersionPlace.{VersionPlace}
use Rattle.db_store.specs.Table.{relation_at}
use Rattle.db_store.specs.Layout.{Segment, Row, no_segment, bit, records_at, contents_of, live_in, table_in, segments_at, rows_at}
use Rattle.db_store.specs.LaidOut.{IsLaid, AreRowsOf, row_at, no_row, times, rises as row_rises}
use Rattle.db_store.proofs.SegmentLemmas.{at_relation}
use Rattle.hybrid_view.specs.Live.{Piece, no_piece, piece_at, rises, contents_in, IsLived}
use Rattle.hybrid_view.specs.Deltas.{slots_of}
use Rattle.hybrid_view.specs.RowPlaces.{Shows, AllShow}
use Rattle.hybrid_view.proofs.PlaceLemmas.{shown_rows}
use Rattle.hybrid_view.proofs.NextLemmas.{show_all}
use Rattle.bit_rows.specs.Rows.{KeptRow, no_kept_row, kept_row_at, laid_row}
use Rattle.bit_rows.specs.Kept.{KeptLane, no_kept, kept_rows}
use Rattle.bit_rows.specs.Segments.{KeptRecords, KeptList, no_rows, kept_at, list_at}
use Rattle.bit_rows.specs.Short.{shortest}
use Rattle.bit_rows.specs.Seen.{piece_of_row, begun_by, pieces_seen, lived_seen, IsThere}
use Rattle.bit_rows.proofs.BegunRowsLemmas.{each_begun, begun_few, begun_rise, begun_live}
use Rattle.bit_rows.proofs.SeenLemmas.{bits_seen, covered_seen}
use Rattle.bit_rows.proofs.SpotsLemmas.{spots_lived}
use Rattle.hybrid_store.specs.Lanes.{segment_of, lane_of, kept_layout}
use Rattle.hybrid_store.specs.Stored.{AreSmall, Show, IsSeenAt}
use Rattle.hybrid_store.proofs.LayoutLemmas.{segments_kept, rows_kept}
use Rattle.hybrid_store.proofs.BegunRows.{AreCovered}
use Rattle.hybrid_store.proofs.BranchStored.{rows_of_lane}

-- pieces of rows ascend as the rows do
pieces_rise : (ks : List KeptRecords) (n low : ℕ) (rows : List KeptRow) → rises low (map (piece_of_row ks n) rows) ≡ row_rises low (map laid_row rows)
pieces_rise ks n low [] = refl
pieces_rise ks n low (row ∷ rows) = ap (λ b. nat_le low row.segment && b) (pieces_rise ks n (suc row.segment) rows)

-- a test that nothing below a number passes but what is below it fails past it
past_false : (p : Bool) (slot most : ℕ) → (p ≡ true → slot < most) → most ≤ slot → p ≡ false
past_false true slot most f h = let l = f refl in absurd (omega (arith, l, h))
past_false false slot most f h = refl

-- of a relation of a branch: its deltas are shortest, it has few rows, and the segments have the widths of the relation's columns
pub record CanSee (schema : List Relation) (segments : List KeptList) (k : KeptLane) (r : ℕ) : Type 0 where
  pub short : (i : ℕ) → i < length (kept_rows k r) → map shortest (map slots_of (kept_row_at (kept_rows k r) i).deltas) ≡ (kept_row_at (kept_rows k r) i).deltas
  pub few : length (kept_rows k r) < 2 ^ 32 - 1
  pub widths : (s : ℕ) → s < length (list_at segments r) → (kept_at (list_at segments r) s).rows.widths ≡ widths_at schema r

module _ (schema : List Relation) (lanes : List KeptLane) (order : List VersionPlace) (segments : List KeptList) (laid : IsLaid (kept_layout schema lanes order segments))
    (b n r : ℕ) (h : b < length lanes) (p : n < length (get_or lanes b no_kept).seconds) (g : r < length schema) (can : CanSee schema segments (get_or lanes b no_kept) r) where
  abbrev pub k : KeptLane
  k = get_or lanes b no_kept

  abbrev pub ks : List KeptRecords
  ks = list_at segments r

  abbrev pub ss : List Segment
  ss = map segment_of ks

  abbrev pub all_rows : List KeptRow
  all_rows = kept_rows k r

  abbrev pub rows : List KeptRow
  rows = begun_by n (kept_rows k r)

  abbrev pub seen : List Piece
  seen = pieces_seen ks n all_rows

  of : AreRowsOf ss b (length k.seconds) (map laid_row all_rows)
  of = rows_of_lane schema lanes order segments laid b h r g

  count : length seen ≡ length rows
  count = length-map rows (piece_of_row ks n)

  row_is : (i : ℕ) → i < length rows → row_at (map laid_row rows) i ≡ laid_row (kept_row_at rows i)
  row_is i l = get_or-map laid_row rows i no_kept_row no_row l

  piece_is : (i : ℕ) → i < length rows → piece_at seen i ≡ piece_of_row ks n (kept_row_at rows i)
  piece_is i l = get_or-map (piece_of_row ks n) rows i no_kept_row no_piece l

  all_is : (i : ℕ) → i < length all_rows → row_at (map laid_row all_rows) i ≡ laid_row (kept_row_at all_rows i)
  all_is i l = get_or-map laid_row all_rows i no_kept_row no_row l

  there_all : (i : ℕ) → i < length all_rows → (kept_row_at all_rows i).segment < length ks
  there_all i l =
      let m = length-map all_rows laid_row in
      let s = length-map ks segment_of in
      let e = ap (λ (x : Row). x.segment) (all_is i l) in
      let t = (of.are i (omega (arith, l, m))).there in
      omega (arith, s, e, t)

  full : (i : ℕ) → i < length all_rows → (kept_row_at all_rows i).from + length (kept_row_at all_rows i).deltas ≡ length k.seconds
  full i l =
      let m = length-map all_rows laid_row in
      let e = ap (λ (x : Row). x.from) (all_is i l) in
      let d = ap (λ (x : Row). length x.deltas) (all_is i l) in
      let q = length-map (kept_row_at all_rows i).deltas slots_of in
      let f = (of.are i (omega (arith, l, m))).full in
      omega (arith, e, d, q, f)

  within_all : (i : ℕ) → i < length all_rows → (m slot : ℕ) → bit (laid_row (kept_row_at all_rows i)) m slot ≡ true → slot < length (kept_at ks (kept_row_at all_rows i).segment).rows.records
  within_all i l m slot t =
      let c = length-map all_rows laid_row in
      let is = (of.are i (omega (arith, l, c))).within in
      subst (λ (xs : List Record). slot < length xs) (records_is (kept_row_at all_rows i).segment (there_all i l))
      (subst (λ (x : Row). bit x m slot ≡ true → slot < length (records_at ss x.segment)) (all_is i l) (is m slot) t)
    where
      records_is : (s : ℕ) → s < length ks → records_at ss s ≡ (kept_at ks s).rows.records
      records_is s j = ap (λ (x : Segment). x.records) (get_or-map segment_of ks s no_rows no_segment j)

  -- what is asked of the rows
  pub rows_there : (i : ℕ) → i < length (kept_rows (get_or lanes b no_kept) r) → IsThere (list_at segments r) n (kept_row_at (kept_rows (get_or lanes b no_kept) r) i)
  rows_there i l = let f = full i l in record { segment = there_all i l; deltas = omega (arith, f, p) }

  there : (i : ℕ) → i < length rows → (kept_row_at rows i).segment < length ks
  there = each_begun (λ (x : KeptRow). x.segment < length ks) n all_rows there_all

  within : (i : ℕ) → i < length rows → (m slot : ℕ) → bit (laid_row (kept_row_at rows i)) m slot ≡ true → slot < length (kept_at ks (kept_row_at rows i).segment).rows.records
  within = each_begun (λ (x : KeptRow). (m slot : ℕ) → bit (laid_row x) m slot ≡ true → slot < length (kept_at ks x.segment).rows.records) n all_rows within_all

  short : (i : ℕ) → i < length rows → map shortest (map slots_of (kept_row_at rows i).deltas) ≡ (kept_row_at rows i).deltas
  short = each_begun (λ (x : KeptRow). map shortest (map slots_of x.deltas) ≡ x.deltas) n all_rows can.short

  -- the others have nothing live
  live : live_in ss n (map laid_row rows) ≡ live_in ss n (map laid_row all_rows)
  live = begun_live ss n all_rows

  shows : (i : ℕ) → i < length rows → Shows ss n (laid_row (kept_row_at rows i)) (piece_of_row ks n (kept_row_at rows i))
  shows i l =
      let row : KeptRow = kept_row_at rows i in
      let own : List Record = (kept_at ks row.segment).rows.records in
      let mine : records_at ss row.segment ≡ own = ap (λ (x : Segment). x.records) (get_or-map segment_of ks row.segment no_rows no_segment (there i l)) in
      record {
        segment = refl;
        front = ap (take (length own)) mine ∙ take_all (length own) own (omega arith);
        bits = λ slot. bits_seen (kept_at ks row.segment).rows n row slot;
        past = λ slot f. past_false (bit (laid_row row) n slot) slot (length own) (within i l n slot) f;
      }

  show : Show ss n (map laid_row rows) seen
  show =
      let m = length-map rows laid_row in
      let c = count in
      record {
        count = omega (arith, m, c);
        each = λ i l.
            let j : i < length rows = omega (arith, l, m) in
            subst (λ (x : Row). Shows ss n x (piece_at seen i)) (sym (row_is i j)) (subst (Shows ss n (laid_row (kept_row_at rows i))) (sym (piece_is i j)) (shows i j));
      }

  all : AllShow ss n (map laid_row rows) seen
  all = show_all ss n (map laid_row rows) seen show.count show.each

  covered : AreCovered seen
  covered i l =
      let c = count in
      let j : i < length rows = omega (arith, l, c) in
      let row : KeptRow = kept_row_at rows i in
      subst (λ (x : Piece). length x.bits ≤ length x.rows.records) (sym (piece_is i j))
      (covered_seen (kept_at ks row.segment).rows n row (length (kept_at ks row.segment).rows.records) (short i j) (within i j))

  -- it is what a version can have
  pub rows_lived : IsLived (lived_seen (list_at segments r) n (kept_rows (get_or lanes b no_kept) r))
  rows_lived =
      let c = count in
      let w = begun_few n all_rows in
      let f = can.few in
      spots_lived seen (pieces_rise ks n 0 rows ∙ begun_rise n 0 all_rows of.ascend)
      (λ key. let t = of.apart n key p in subst (λ (xs : List Record). times key xs ≤ 1) (sym (shown_rows ss n (map laid_row rows) seen all ∙ live)) t)
      (omega (arith, c, w, f)) covered

  -- the version at the place has it
  pub rows_seen : AreSmall (lived_seen (list_at segments r) n (kept_rows (get_or lanes b no_kept) r))
      → IsSeenAt (map segment_of (list_at segments r)) (widths_at schema r) n (map laid_row (begun_by n (kept_rows (get_or lanes b no_kept) r))) (lived_seen (list_at segments r) n (kept_rows (get_or lanes b no_kept) r))
  rows_seen small = record {
    shown = show;
    lived = rows_lived;
    small = small;
    widths = λ i l.
        let c = count in
        let j : i < length rows = omega (arith, l, c) in
        ap (λ (x : Piece). x.rows.widths) (piece_is i j) ∙ can.widths (kept_row_at rows i).segment (there i j);
  }

  -- and no other contents
  pub rows_contents : contents_in (lived_seen (list_at segments r) n (kept_rows (get_or lanes b no_kept) r)) ≡ relation_at (table_in schema (kept_layout schema lanes order segments).segments (lane_of schema (get_or lanes b no_kept)) n) r
  rows_contents =
      let laid_rows : contents_of (live_in (segments_at (kept_layout schema lanes order segments).segments r) n (rows_at (lane_of schema k) r)) ≡ contents_of (live_in ss n (map laid_row all_rows)) =
      (λ i. contents_of (live_in (segments_kept schema lanes order segments r g i) n (rows_kept schema k r g i))) in
      ap contents_of (shown_rows ss n (map laid_row rows) seen all ∙ live)
      ∙ sym laid_rows
      ∙ sym (at_relation schema (λ q. contents_of (live_in (segments_at (kept_layout schema lanes order segments).segments q) n (rows_at (lane_of schema k) q))) r finite.empty g)
