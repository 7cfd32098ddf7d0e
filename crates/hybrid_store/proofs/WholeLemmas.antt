-- Pieces with all records of their segments show the same rows, and they are the parts that the layout tells.
use Rattle.std.proofs.Common.{◌≡◌, ℕ, suc, ◌+◌, ◌*◌, ◌^◌, ◌<◌, ◌≤◌, ◌&&◌, nat_le, Bool, true, false, cond, List, [], ◌∷◌, length, map, take, get_or, refl, arith, ap, sym, ◌∙◌, subst}
use Rattle.std.specs.FinMap as finite
use Rattle.std.proofs.lemmas.List.{length-map, get_or-map, take_all}
use Rattle.db_value.specs.Relations.{widths_at}
use Rattle.db_value.specs.declared.record.Record.{Record}
use Rattle.db_value.specs.declared.schema.Relation.{Relation}
use Rattle.db_value.specs.declared.version.VersionPlace.{VersionPlace}
use Rattle.plain_bits.specs.Truth.{bit_of}
use Rattle.db_store.specs.Layout.{Segment, Row, Lane, no_segment, bit, records_at, contents_of, segments_at, rows_at, lane_at}
use Rattle.db_store.specs.LaidOut.{IsLaid, row_at, no_row, times}
use Rattle.hybrid_view.specs.Live.{Piece, Lived, no_piece, piece_at, slots_from, part_of, parts_in, live_pieces, rises, lived_at, IsLived}
use Rattle.hybrid_view.specs.RowPlaces.{Shows, AllShow}
use Rattle.hybrid_view.proofs.PlaceLemmas.{shown_place, shown_rows, shown_shorter}
use Rattle.hybrid_view.proofs.NextLemmas.{show_all}
use Rattle.bit_rows.specs.Rows.{KeptRow, no_kept_row, kept_row_at, laid_row}
use Rattle.bit_rows.specs.Kept.{KeptLane, no_kept, kept_rows}
use Rattle.bit_rows.specs.Segments.{KeptRecords, KeptList, no_rows, kept_at, list_at}
use Rattle.bit_rows.specs.Seen.{is_begun, begun_by}
use Rattle.bit_rows.proofs.BegunRowsLemmas.{each_begun}
use Rattle.hybrid_store.specs.Lanes.{segment_of, kept_layout}
use Rattle.hybrid_store.specs.Stored.{Show, AreSmall, IsSeenAt, IsSeen}
use Rattle.hybrid_store.specs.Sees.{rows_by, part_of_row, parts_at}
use Rattle.hybrid_store.specs.Whole.{whole_piece, whole_lived, AreThere, AreWhole}
use Rattle.hybrid_store.proofs.LayoutLemmas.{lane_kept, segments_kept, rows_kept}
use Rattle.hybrid_store.proofs.ViewLemmas.{rows_there}

-- ---- one piece

module _ (ks : List KeptRecords) (n : ℕ) (row : Row) (p : Piece) (there : p.segment < length ks) (s : Shows (map segment_of ks) n row p) where
  abbrev own : List Record
  own = (kept_at ks p.segment).rows.records

  mine : records_at (map segment_of ks) row.segment ≡ (kept_at ks p.segment).rows.records
  mine = ap (records_at (map segment_of ks)) (sym s.segment) ∙ ap (λ (x : Segment). x.records) (get_or-map segment_of ks p.segment no_rows no_segment there)

  pub longer : length p.rows.records ≤ length (kept_at ks p.segment).rows.records
  longer = let e = ap (λ (xs : List Record). length xs) mine in let h = shown_shorter (map segment_of ks) n row p s in omega (arith, e, h)

  pub whole_shows : Shows (map segment_of ks) n row (whole_piece ks p)
  whole_shows = record {
    segment = s.segment;
    front = ap (take (length own)) mine ∙ take_all (length own) own (omega arith);
    bits = s.bits;
    past = λ slot h. let g = longer in s.past slot (omega (arith, h, g));
  }

  records_all : length p.rows.records ≡ length (kept_at ks p.segment).rows.records → p.rows.records ≡ records_at (map segment_of ks) row.segment
  records_all e =
      let m = ap (λ (xs : List Record). length xs) mine in
      sym s.front ∙ take_all (length p.rows.records) (records_at (map segment_of ks) row.segment) (omega (arith, m, e))

  slots_same : (slot : ℕ) (xs : List Record) (f g : ℕ → Bool) → ((i : ℕ) → f i ≡ g i) → slots_from slot xs f ≡ slots_from slot xs g
  slots_same slot [] f g e = refl
  slots_same slot (x ∷ xs) f g e = λ i. (x, e slot i) ∷ slots_same (suc slot) xs f g e i

  -- it is the part that its row tells
  pub part_is : length p.rows.records ≡ length (kept_at ks p.segment).rows.records → part_of p ≡ part_of_row (map segment_of ks) n row
  part_is e =
      let all = records_all e in
      let first : part_of p ≡ record { id = row.segment * 2 ^ 32 + length (records_at (map segment_of ks) row.segment); slots = slots_from 0 (records_at (map segment_of ks) row.segment) (bit_of p.bits) } =
      (λ i. record { id = s.segment i * 2 ^ 32 + length (all i); slots = slots_from 0 (all i) (bit_of p.bits) }) in
      first
      ∙ ap (λ (xs : List (Record × Bool)). record { id = row.segment * 2 ^ 32 + length (records_at (map segment_of ks) row.segment); slots = xs }) (slots_same 0 (records_at (map segment_of ks) row.segment) (bit_of p.bits) (bit row n) s.bits)

-- ---- pieces

piece_is : (ks : List KeptRecords) (ps : List Piece) (i : ℕ) → i < length ps → piece_at (map (whole_piece ks) ps) i ≡ whole_piece ks (piece_at ps i)
piece_is ks ps i h = get_or-map (whole_piece ks) ps i no_piece no_piece h

rises_same : (ks : List KeptRecords) (low : ℕ) (ps : List Piece) → rises low (map (whole_piece ks) ps) ≡ rises low ps
rises_same ks low [] = refl
rises_same ks low (p ∷ ps) = ap (λ b. nat_le low p.segment && b) (rises_same ks (suc p.segment) ps)

parts_are : (ks : List KeptRecords) (n : ℕ) (rows : List Row) (ps : List Piece) → AllShow (map segment_of ks) n rows ps → AreThere ks ps → AreWhole ks ps → map part_of ps ≡ map (part_of_row (map segment_of ks) n) rows
parts_are ks n [] [] s there whole = refl
parts_are ks n [] (p ∷ ps) s there whole = absurd s
parts_are ks n (row ∷ rows) [] s there whole = absurd s
parts_are ks n (row ∷ rows) (p ∷ ps) s there whole = λ i.
    part_is ks n row p (there 0 (omega arith)) s.0 (whole 0 (omega arith)) i
    ∷ parts_are ks n rows ps s.1 (λ j h. there (suc j) (omega (arith, h))) (λ j h. whole (suc j) (omega (arith, h))) i

module _ (ks : List KeptRecords) (n : ℕ) (rows : List Row) (l : Lived) (there : AreThere ks l.pieces) (show : Show (map segment_of ks) n rows l.pieces) where
  abbrev ps : List Piece
  ps = l.pieces

  abbrev qs : List Piece
  qs = map (whole_piece ks) l.pieces

  in_rows : (i : ℕ) → i < length l.pieces → i < length rows
  in_rows i h = let c = show.count in omega (arith, h, c)

  whole_show : Show (map segment_of ks) n rows (map (whole_piece ks) l.pieces)
  whole_show = record {
    count = length-map ps (whole_piece ks) ∙ show.count;
    each = λ i h.
        let c = show.count in
        let j : i < length ps = omega (arith, h, c) in
        subst (Shows (map segment_of ks) n (row_at rows i)) (sym (piece_is ks ps i j)) (whole_shows ks n (row_at rows i) (piece_at ps i) (there i j) (show.each i h));
  }

  all : AllShow (map segment_of ks) n rows l.pieces
  all = show_all (map segment_of ks) n rows ps show.count show.each

  all_whole : AllShow (map segment_of ks) n rows (map (whole_piece ks) l.pieces)
  all_whole = show_all (map segment_of ks) n rows qs whole_show.count whole_show.each

  same : live_pieces (map (whole_piece ks) l.pieces) ≡ live_pieces l.pieces
  same = shown_rows (map segment_of ks) n rows qs all_whole ∙ sym (shown_rows (map segment_of ks) n rows ps all)

  pub whole_is_lived : IsLived l → IsLived (whole_lived ks l)
  whole_is_lived lived = record {
    ascend = rises_same ks 0 ps ∙ lived.ascend;
    apart = λ key. subst (λ (xs : List Record). times key xs ≤ 1) (sym same) (lived.apart key);
    placed = λ key. lived.placed key ∙ shown_place (map segment_of ks) n rows ps key all ∙ sym (shown_place (map segment_of ks) n rows qs key all_whole);
    counted = lived.counted ∙ ap (λ (xs : List Record). finite.len (contents_of xs)) (sym same);
    few = let m = length-map ps (whole_piece ks) in let f = lived.few in omega (arith, m, f);
    covered = λ i h.
        let m = length-map ps (whole_piece ks) in
        let j : i < length ps = omega (arith, h, m) in
        let c = lived.covered i j in
        let g = longer ks n (row_at rows i) (piece_at ps i) (there i j) (show.each i (in_rows i j)) in
        subst (λ (x : Piece). length x.bits ≤ length x.rows.records) (sym (piece_is ks ps i j)) (omega (arith, c, g));
  }

  pub whole_seen : (ws : List ℕ) → IsLived l → AreSmall (whole_lived ks l) → ((s : ℕ) → s < length ks → (kept_at ks s).rows.widths ≡ ws) → IsSeenAt (map segment_of ks) ws n rows (whole_lived ks l)
  whole_seen ws lived small widths = record {
    shown = whole_show;
    lived = whole_is_lived lived;
    small = small;
    widths = λ i h.
        let m = length-map ps (whole_piece ks) in
        let j : i < length ps = omega (arith, h, m) in
        ap (λ (x : Piece). x.rows.widths) (piece_is ks ps i j) ∙ widths (piece_at ps i).segment (there i j);
  }

  pub whole_whole : AreWhole ks (map (whole_piece ks) l.pieces)
  whole_whole i h =
      let m = length-map ps (whole_piece ks) in
      let j : i < length ps = omega (arith, h, m) in
      subst (λ (x : Piece). length x.rows.records ≡ length (kept_at ks x.segment).rows.records) (sym (piece_is ks ps i j)) refl

  pub shown_parts : AreWhole ks l.pieces → parts_in l ≡ map (part_of_row (map segment_of ks) n) rows
  shown_parts whole = parts_are ks n rows ps all there whole

-- ---- of a place

rows_by_is : (n : ℕ) (rows : List KeptRow) → map laid_row (begun_by n rows) ≡ rows_by n (map laid_row rows)
rows_by_is n [] = refl
rows_by_is n (row ∷ rows) = by (is_begun n row) (rows_by_is n rows)
  where
    by : (b : Bool) → map laid_row (begun_by n rows) ≡ rows_by n (map laid_row rows) → map laid_row (cond b (row ∷ begun_by n rows) (begun_by n rows)) ≡ cond b (laid_row row ∷ rows_by n (map laid_row rows)) (rows_by n (map laid_row rows))
    by true e = ap (λ (xs : List Row). laid_row row ∷ xs) e
    by false e = e

module _ (schema : List Relation) (lanes : List KeptLane) (order : List VersionPlace) (segments : List KeptList) (laid : IsLaid (kept_layout schema lanes order segments)) (at : VersionPlace) (here : at.branch < length lanes) (view : List Lived)
    (seen : IsSeen schema segments (get_or lanes at.branch no_kept) at.position view) where
  abbrev k : KeptLane
  k = get_or lanes at.branch no_kept

  -- the pieces are of segments that are there
  pub seen_pieces : (r : ℕ) → r < length schema → AreThere (list_at segments r) (lived_at view r).pieces
  seen_pieces r g i h =
      let show = (seen.at r g).shown in
      let c = show.count in
      let rows : List KeptRow = begun_by at.position (kept_rows k r) in
      let m = length-map rows laid_row in
      let w = length-map (list_at segments r) segment_of in
      let lr : i < length (map laid_row rows) = omega (arith, h, c) in
      let it : i < length rows = omega (arith, m, lr) in
      let e : (row_at (map laid_row rows) i).segment ≡ (kept_row_at rows i).segment = ap (λ (x : Row). x.segment) (get_or-map laid_row rows i no_kept_row no_row it) in
      let s = (show.each i lr).segment in
      let t = each_begun (λ (x : KeptRow). x.segment < length (map segment_of (list_at segments r))) at.position (kept_rows k r) (rows_there schema lanes order segments at.branch r here g laid) i it in
      omega (arith, e, s, t, w)

  -- what it has is what it has with all records
  pub seen_whole : (r : ℕ) → r < length schema → IsLived (whole_lived (list_at segments r) (lived_at view r))
  seen_whole r g = let s = seen.at r g in whole_is_lived (list_at segments r) at.position (map laid_row (begun_by at.position (kept_rows k r))) (lived_at view r) (seen_pieces r g) s.shown s.lived

  pub seen_again : (r : ℕ) → r < length schema → AreSmall (whole_lived (list_at segments r) (lived_at view r)) → ((s : ℕ) → s < length (list_at segments r) → (kept_at (list_at segments r) s).rows.widths ≡ widths_at schema r)
      → IsSeenAt (map segment_of (list_at segments r)) (widths_at schema r) at.position (map laid_row (begun_by at.position (kept_rows (get_or lanes at.branch no_kept) r))) (whole_lived (list_at segments r) (lived_at view r))
  seen_again r g small widths =
      let s = seen.at r g in
      whole_seen (list_at segments r) at.position (map laid_row (begun_by at.position (kept_rows k r))) (lived_at view r) (seen_pieces r g) s.shown (widths_at schema r) s.lived small widths

  pub whole_again : (r : ℕ) → r < length schema → AreWhole (list_at segments r) (whole_lived (list_at segments r) (lived_at view r)).pieces
  whole_again r g = let s = seen.at r g in whole_whole (list_at segments r) at.position (map laid_row (begun_by at.position (kept_rows k r))) (lived_at view r) (seen_pieces r g) s.shown

  -- its parts are those that the layout tells
  pub parts_seen : (r : ℕ) → r < length schema → AreWhole (list_at segments r) (lived_at view r).pieces → parts_in (lived_at view r) ≡ parts_at (kept_layout schema lanes order segments) at r
  parts_seen r g whole =
      let n : ℕ = at.position in
      let s = seen.at r g in
      let ss : segments_at (kept_layout schema lanes order segments).segments r ≡ map segment_of (list_at segments r) = segments_kept schema lanes order segments r g in
      let rows : rows_at (lane_at (kept_layout schema lanes order segments) at.branch) r ≡ map laid_row (kept_rows k r) = ap (λ (x : Lane). rows_at x r) (lane_kept schema lanes order segments at.branch here) ∙ rows_kept schema k r g in
      shown_parts (list_at segments r) n (map laid_row (begun_by n (kept_rows k r))) (lived_at view r) (seen_pieces r g) s.shown whole
      ∙ ap (map (part_of_row (map segment_of (list_at segments r)) n)) (rows_by_is n (kept_rows k r))
      ∙ (λ i. map (part_of_row (sym ss i) n) (rows_by n (sym rows i)))
