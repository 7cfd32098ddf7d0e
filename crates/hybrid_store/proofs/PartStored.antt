-- What a store keeps of parts is kept as the parts tell.
use Rattle.std.proofs.Common.{◌≡◌, ◌⊎◌, inl, inr, ℕ, suc, ◌*◌, ◌-◌, ◌^◌, ◌<◌, ◌≤◌, ◌==◌, ◌||◌, true, false, List, [], ◌∷◌, length, map, get_or, arith, ap, sym, ◌∙◌, subst}
use Rattle.std.specs.FinMap as finite
use Rattle.std.proofs.lemmas.Bool.{cases_Bool, eq-eqb, ne_eqb, false≢true}
use Rattle.std.proofs.lemmas.List.{length-map, get_or-map}
use Rattle.db_value.specs.Relations.{widths_at}
use Rattle.db_value.specs.declared.version.VersionPlace.{VersionPlace}
use Rattle.db_store.specs.Table.{Table, Contents, relation_at}
use Rattle.db_store.specs.Dataset.{table_at}
use Rattle.db_store.specs.Sound.{IsSound}
use Rattle.db_store.specs.Counted.{IsCounted}
use Rattle.db_store.specs.Layout.{Segment, Row, Layout, no_segment, dataset_in, records_at}
use Rattle.db_store.specs.LayoutGrowth.{is_head_of}
use Rattle.db_store.specs.LaidOut.{IsLaid, AreRowsOf, head_at, has_head, row_at, no_row}
use Rattle.db_store.proofs.SegmentLemmas.{length_by}
use Rattle.hybrid_view.specs.Live.{Piece, Lived, no_piece, piece_at, lived_at, contents_in}
use Rattle.hybrid_view.specs.RowPlaces.{IsWhole}
use Rattle.hybrid_view.specs.Deltas.{slots_of}
use Rattle.bit_rows.specs.Short.{shortest}
use Rattle.bit_rows.specs.Rows.{KeptRow, no_kept_row, kept_row_at, laid_row}
use Rattle.bit_rows.specs.Kept.{KeptLane, no_kept, kept_rows}
use Rattle.bit_rows.specs.Segments.{KeptRecords, KeptList, no_rows, list_at, kept_at}
use Rattle.bit_rows.specs.Seen.{begun_by, piece_of_row, pieces_seen, lived_seen}
use Rattle.bit_rows.proofs.BegunRowsLemmas.{begun_whole}
use Rattle.hybrid_store.specs.declared.parts.SegmentPart.{SegmentPart}
use Rattle.hybrid_store.specs.declared.parts.LayoutParts.{LayoutParts}
use Rattle.hybrid_store.specs.Lanes.{segment_of, kept_layout}
use Rattle.hybrid_store.specs.Stored.{kept_dataset, head_in, has_row, AreSmall, IsKeptAt, IsKept, IsSeenAt, IsStored}
use Rattle.hybrid_store.specs.Parts.{parts_of, no_segment_part, order_of, AreSound}
use Rattle.hybrid_store.specs.Assembled.{rows_of_parts, segment_kept, AreLists, bare, bare_of, CanSeeLane, AreSeenBy}
use Rattle.hybrid_store.proofs.BranchStored.{rows_of_lane}
use Rattle.hybrid_store.proofs.StoredLemmas.{kept_count, kept_versions}
use Rattle.hybrid_store.proofs.OwnLemmas.{head_in_is, at_has}
use Rattle.hybrid_store.proofs.ViewLemmas.{table_kept}
use Rattle.hybrid_store.proofs.RowsSeen.{CanSee, rows_there, rows_lived, rows_seen, rows_contents}
use Rattle.hybrid_store.proofs.PartLayout.{short_rows, each_part, rise_few, rows_told, layout_told}

-- ---- the head of a branch among its rows

-- a row of the head
head_row_at : (b : ℕ) (ss : List Segment) (rows : List Row) → has_head b ss rows ≡ true → (i : ℕ) × ((i < length rows) × (is_head_of b (head_at ss (row_at rows i).segment) ≡ true))
head_row_at b ss [] t = absurd (false≢true t)
head_row_at b ss (row ∷ rows) t = by (head_row_at b ss rows) (cases_Bool (is_head_of b (head_at ss row.segment)))
  where
    by : (has_head b ss rows ≡ true → (i : ℕ) × ((i < length rows) × (is_head_of b (head_at ss (row_at rows i).segment) ≡ true))) → (is_head_of b (head_at ss row.segment) ≡ true) ⊎ (is_head_of b (head_at ss row.segment) ≡ false)
        → (i : ℕ) × ((i < length (row ∷ rows)) × (is_head_of b (head_at ss (row_at (row ∷ rows) i).segment) ≡ true))
    by later (inl e) = (0, (omega arith, e))
    by later (inr f) =
        let at = later (ap (λ q. q || has_head b ss rows) (sym f) ∙ t) in
        let lt = at.1.0 in (suc at.0, (omega (arith, lt), at.1.1))

module _ (b count : ℕ) (ss : List Segment) (rows : List KeptRow) (of : AreRowsOf ss b count (map laid_row rows)) where
  at : (i : ℕ) × ((i < length (map laid_row rows)) × (is_head_of b (head_at ss (row_at (map laid_row rows) i).segment) ≡ true))
  at = head_row_at b ss (map laid_row rows) of.headed

  abbrev h : ℕ
  h = (row_at (map laid_row rows) at.0).segment

  within : h < length ss
  within = (of.are at.0 at.1.0).there

  headed : (s : ℕ) → s < length ss → is_head_of b (head_at ss s) ≡ (s == h)
  headed s lt = by (cases_Bool (is_head_of b (head_at ss s)))
    where
      by : (is_head_of b (head_at ss s) ≡ true) ⊎ (is_head_of b (head_at ss s) ≡ false) → is_head_of b (head_at ss s) ≡ (s == h)
      by (inl t) = t ∙ sym (eq-eqb s h (of.only s h lt within t at.1.1))
      by (inr f) = f ∙ sym (ne_eqb s h (λ e. absurd (false≢true (sym f ∙ ap (λ k. is_head_of b (head_at ss k)) e ∙ at.1.1))))

  head_is : head_in b ss ≡ h
  head_is = head_in_is b h ss within headed

  pub head_tests : (s : ℕ) → s < length ss → is_head_of b (head_at ss s) ≡ (s == head_in b ss)
  head_tests s lt = headed s lt ∙ ap (λ k. s == k) (sym head_is)

  pub head_has : has_row (head_in b ss) rows ≡ true
  head_has =
      let n = length-map rows laid_row in
      let lt = at.1.0 in
      let i : at.0 < length rows = omega (arith, n, lt) in
      at_has (head_in b ss) rows at.0 i (sym (ap (λ (x : Row). x.segment) (get_or-map laid_row rows at.0 no_kept_row no_row i)) ∙ sym head_is)

-- ---- what is kept of parts

module _ (p : LayoutParts) (sound : AreSound p) (lanes : List KeptLane) (lists : List KeptList) (count : length lanes ≡ length p.branches) (told : (b : ℕ) → b < length p.branches → bare (get_or lanes b no_kept) ≡ bare_of p b)
    (are : AreLists (length p.schema) p.segments lists) where
  abbrev order : List VersionPlace
  order = order_of p.versions

  pub is_laid : IsLaid (kept_layout p.schema lanes (order_of p.versions) lists)
  is_laid = subst IsLaid (sym (layout_told p lanes lists count told are)) sound.laid

  pub is_sound : IsSound (kept_dataset p.schema lanes (order_of p.versions) lists)
  is_sound = subst (λ (l : Layout). IsSound (dataset_in l)) (sym (layout_told p lanes lists count told are)) sound.sound

  pub is_counted : IsCounted (kept_dataset p.schema lanes (order_of p.versions) lists)
  is_counted = subst (λ (l : Layout). IsCounted (dataset_in l)) (sym (layout_told p lanes lists count told are)) sound.counted

  few_branches : length p.branches ≤ 1024
  few_branches =
      let n = kept_count p.schema lanes order lists in
      let f = is_sound.few_branches in
      omega (arith, n, f, count)

  list_length : (r : ℕ) → r < length p.schema → length (list_at lists r) < 2 * length p.branches
  list_length r g =
      let e = ap (λ (ks : List KeptRecords). length ks) (are.each r g) in
      let n = length-map (parts_of r p.segments) segment_kept in
      let f = sound.few r g in
      omega (arith, e, n, f)

  list_widths : (r s : ℕ) → r < length p.schema → s < length (list_at lists r) → (kept_at (list_at lists r) s).rows.widths ≡ widths_at p.schema r
  list_widths r s g lt =
      let e = ap (λ (ks : List KeptRecords). length ks) (are.each r g) in
      let n = length-map (parts_of r p.segments) segment_kept in
      let below : s < length (parts_of r p.segments) = omega (arith, e, n, lt) in
      ap (λ (ks : List KeptRecords). (kept_at ks s).rows.widths) (are.each r g)
      ∙ ap (λ (k : KeptRecords). k.rows.widths) (get_or-map segment_kept (parts_of r p.segments) s no_segment_part no_rows below)
      ∙ each_part (λ (x : SegmentPart). x.records.widths ≡ widths_at p.schema r) r p.segments (λ i h q. sound.widths i h ∙ ap (λ k. widths_at p.schema k) q) s below

  module _ (b : ℕ) (h : b < length lanes) where
    abbrev k : KeptLane
    k = get_or lanes b no_kept

    abbrev n : ℕ
    n = length (get_or lanes b no_kept).seconds - 1

    some : 0 < length (get_or lanes b no_kept).seconds
    some =
        let v = kept_versions p.schema lanes order lists b h in
        let c = kept_count p.schema lanes order lists in
        let r = is_sound.rooted b (omega (arith, c, h)) in
        omega (arith, v, r)

    few : length (get_or lanes b no_kept).seconds ≤ 65536
    few =
        let v = kept_versions p.schema lanes order lists b h in
        let c = kept_count p.schema lanes order lists in
        let r = is_sound.few_versions b (omega (arith, c, h)) in
        omega (arith, v, r)

    last : length (get_or lanes b no_kept).seconds - 1 < length (get_or lanes b no_kept).seconds
    last = let s = some in omega (arith, s)

    of : (r : ℕ) → r < length p.schema → AreRowsOf (map segment_of (list_at lists r)) b (length (get_or lanes b no_kept).seconds) (map laid_row (kept_rows (get_or lanes b no_kept) r))
    of r g = rows_of_lane p.schema lanes order lists is_laid b h r g

    can : (r : ℕ) → r < length p.schema → CanSee p.schema lists (get_or lanes b no_kept) r
    can r g = record {
      short = subst (λ (xs : List KeptRow). (i : ℕ) → i < length xs → map shortest (map slots_of (kept_row_at xs i).deltas) ≡ (kept_row_at xs i).deltas) (sym (rows_told p lanes lists count told are b r (omega (arith, h, count)) g)) (short_rows p.segments b r);
      few =
          let m = length-map (kept_rows k r) laid_row in
          let c = length-map (list_at lists r) segment_of in
          let f = rise_few 0 (length (map segment_of (list_at lists r))) (map laid_row (kept_rows k r)) (of r g).ascend (λ i lt. ((of r g).are i lt).there) (omega arith) in
          let w = list_length r g in
          let x = few_branches in
          omega (arith, m, c, f, w, x);
      widths = λ s lt. list_widths r s g lt;
    }

    keys : (r : ℕ) → r < length p.schema → (lived_seen (list_at lists r) n (kept_rows (get_or lanes b no_kept) r)).count < 2 ^ 32
    keys r g =
        let at : VersionPlace = record { branch = b; position = n } in
        let v = kept_versions p.schema lanes order lists b h in
        let c = kept_count p.schema lanes order lists in
        let l = last in
        let t = is_counted.tables at (omega (arith, c, h), omega (arith, v, l)) in
        let w = t.wide in
        let e = (rows_lived p.schema lanes order lists is_laid b n r h last g (can r g)).counted in
        let len_is : finite.len (contents_in (lived_seen (list_at lists r) n (kept_rows k r))) ≡ finite.len (relation_at (table_at (kept_dataset p.schema lanes order lists) at) r) =
        ap (λ (m : Contents). finite.len m) (rows_contents p.schema lanes order lists is_laid b n r h last g (can r g)) ∙ ap (λ (x : Table). finite.len (relation_at x r)) (sym (table_kept p.schema lanes order lists at h last)) in
        let f = t.few r (omega (arith, g, w)) in
        omega (arith, e, len_is, f)

    rows_wide : length (get_or lanes b no_kept).rows ≡ length p.schema
    rows_wide = ap (λ (x : KeptLane). length x.rows) (told b (omega (arith, h, count))) ∙ length_by p.schema (λ r. rows_of_parts p.segments b r)

    pub can_see : CanSeeLane lists (get_or lanes b no_kept)
    can_see = record {
      some = some;
      few = few;
      wide = are.count ∙ sym rows_wide;
      can = λ r lt.
          let w = rows_wide in
          let g : r < length p.schema = omega (arith, w, lt) in
          record {
            there = rows_there p.schema lanes order lists is_laid b n r h last g (can r g);
            lived = rows_lived p.schema lanes order lists is_laid b n r h last g (can r g);
            keys = keys r g;
          };
    }

    module _ (heads : AreSeenBy lists (length (get_or lanes b no_kept).seconds - 1) (get_or lanes b no_kept).rows (length p.schema) (get_or lanes b no_kept).head) where
      begun_all : (r : ℕ) → r < length p.schema → begun_by n (kept_rows (get_or lanes b no_kept) r) ≡ kept_rows (get_or lanes b no_kept) r
      begun_all r g = begun_whole n (kept_rows k r) (λ i lt.
          let m = length-map (kept_rows k r) laid_row in
          let e = ap (λ (x : Row). x.from) (get_or-map laid_row (kept_rows k r) i no_kept_row no_row lt) in
          let f = ((of r g).are i (omega (arith, lt, m))).begun in
          let s = some in
          omega (arith, e, f, s))

      whole : (r : ℕ) → r < length p.schema → IsWhole (map segment_of (list_at lists r)) (head_in b (map segment_of (list_at lists r))) (pieces_seen (list_at lists r) n (kept_rows (get_or lanes b no_kept) r))
      whole r g i lt e =
          let ks : List KeptRecords = list_at lists r in
          let rows : List KeptRow = begun_by n (kept_rows k r) in
          let m = length-map rows (piece_of_row ks n) in
          let j : i < length rows = omega (arith, lt, m) in
          let is : piece_at (pieces_seen ks n (kept_rows k r)) i ≡ piece_of_row ks n (kept_row_at rows i) = get_or-map (piece_of_row ks n) rows i no_kept_row no_piece j in
          let s : ℕ = (kept_row_at rows i).segment in
          let there : s < length ks =
          subst (λ (xs : List KeptRow). (q : ℕ) → q < length xs → (kept_row_at xs q).segment < length ks) (sym (begun_all r g)) (λ q l. (rows_there p.schema lanes order lists is_laid b n r h last g (can r g) q l).segment) i j in
          ap (λ (x : Piece). x.rows.records) is
          ∙ sym (ap (λ (x : Segment). x.records) (get_or-map segment_of ks s no_rows no_segment there))
          ∙ ap (records_at (map segment_of ks)) (sym (ap (λ (x : Piece). x.segment) is) ∙ e)

      kept_lane_at : (r : ℕ) → r < length p.schema → IsKeptAt (map segment_of (list_at lists r)) (widths_at p.schema r) b (length (get_or lanes b no_kept).seconds - 1) (kept_rows (get_or lanes b no_kept) r) (lived_at (get_or lanes b no_kept).head r)
      kept_lane_at r g =
          let ks : List KeptRecords = list_at lists r in
          let seen_as = heads.each r g in
          let small : AreSmall (lived_seen ks n (kept_rows k r)) = subst AreSmall seen_as.seen (λ i lt. seen_as.small i no_piece lt) in
          let seen : IsSeenAt (map segment_of ks) (widths_at p.schema r) n (map laid_row (kept_rows k r)) (lived_seen ks n (kept_rows k r)) =
          subst (λ (xs : List KeptRow). IsSeenAt (map segment_of ks) (widths_at p.schema r) n (map laid_row xs) (lived_seen ks n (kept_rows k r))) (begun_all r g) (rows_seen p.schema lanes order lists is_laid b n r h last g (can r g) small) in
          subst (λ (l : Lived). IsKeptAt (map segment_of ks) (widths_at p.schema r) b n (kept_rows k r) l) (sym seen_as.seen) (record {
            own = head_has b (length k.seconds) (map segment_of ks) (kept_rows k r) (of r g);
            headed = head_tests b (length k.seconds) (map segment_of ks) (kept_rows k r) (of r g);
            short = (can r g).short;
            shown = seen.shown;
            whole = whole r g;
            lived = seen.lived;
            small = small;
            widths = seen.widths;
          })

      pub kept_lane : IsKept p.schema lists b (get_or lanes b no_kept)
      kept_lane = record { rows = rows_wide; head = heads.wide; at = kept_lane_at }

  -- all that holds of what a store keeps, but for its names and its graph
  pub is_stored : ((b : ℕ) → b < length lanes → AreSeenBy lists (length (get_or lanes b no_kept).seconds - 1) (get_or lanes b no_kept).rows (length p.schema) (get_or lanes b no_kept).head) → IsStored p.schema lanes lists
  is_stored heads = record {
    wide = are.count;
    room = are.room;
    few = λ r g. let f = list_length r g in omega (arith, f, count);
    widths = list_widths;
    each = λ b h. kept_lane b h (heads b h);
  }
