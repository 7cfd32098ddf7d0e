-- What branches have of a relation after a new branch: the new one, its origin, and the others.
use Rattle.std.proofs.Common.{◌≡◌, ◌≢◌, ◌⊎◌, inl, inr, ℕ, zero, suc, ◌+◌, ◌-◌, ◌^◌, ◌<◌, ◌≤◌, ◌==◌, Bool, true, false, List, [], ◌∷◌, ◌++◌, length, map, take, refl, arith, ap, sym, ◌∙◌, subst}
use Rattle.std.specs.Prelude.{filter}
use Rattle.std.proofs.lemmas.Bool.{cases_lt, and_parts, and_from, le-leb, eq-eqb, ne_eqb}
use Rattle.std.proofs.lemmas.List.{length-map, length-append, length_push, map-append, append-nil, get_or-map, get_or_append_left, get_or_push}
use Rattle.std.proofs.lemmas.Grind.{flat_map-append}
use Rattle.db_value.specs.declared.record.Record.{Record}
use Rattle.plain_bits.specs.Truth.{bit_of}
use Rattle.db_store.specs.Layout.{Segment, Row, combined, records_at, contents_of, head_segment}
use Rattle.db_store.specs.LayoutGrowth.{is_head_of, segments_with, without_head, new_head, rows_begun}
use Rattle.db_store.specs.LaidOut.{AreRows, AreRowsOf, head_at, row_at, no_row, times, rises as row_rises}
use Rattle.db_store.proofs.LayoutLaw.{with_same, first_new, head_new}
use Rattle.db_store.proofs.LaidLemmas.{own_gone, other_head, older_head, own_new, begun_new, which}
use Rattle.std.specs.FinMap as finite
use Rattle.hybrid_view.specs.Live.{Piece, Lived, no_piece, piece_at, place_of, place_or, slot_in, live_piece, live_pieces, rises, has_live, begun_pieces, IsLived}
use Rattle.hybrid_view.specs.RowPlaces.{Shows, AllShow, IsWhole}
use Rattle.hybrid_view.proofs.NextLemmas.{show_count, show_at, show_all}
use Rattle.hybrid_view.proofs.BegunLemmas.{pieces_begun, lived_begun as begun_lived, all_tell}
use Rattle.hybrid_view.specs.Deltas.{slots_of}
use Rattle.bit_rows.specs.Short.{shortest}
use Rattle.bit_rows.specs.Rows.{KeptRow, no_kept_row, kept_row_at, laid_row, begun_row}
use Rattle.bit_rows.proofs.ShortLemmas.{shorts_push}
use Rattle.hybrid_store.specs.Begun.{empty_head, lived_begun, lived_turned, turned_row}
use Rattle.hybrid_store.specs.Stored.{head_in, has_row, Show, AreSmall, IsKeptAt}
use Rattle.hybrid_store.proofs.OwnLemmas.{head_in_is, own_last, own_there}
use Rattle.hybrid_store.proofs.BegunRows.{AreCovered, begun_all, rows_few, kept_all, more_all}

abbrev no_records : List Record
no_records = []

take_nil : (k : ℕ) → take k no_records ≡ no_records
take_nil zero = refl
take_nil (suc k) = refl

-- a new branch brings two segments at most
pub with_count : (q : Bool) (b c : ℕ) (ss : List Segment) → length (segments_with q b c ss) ≤ length ss + 2
with_count true b c ss = let n = length-append (map (without_head b) ss) (head_segment b ∷ head_segment c ∷ []) in let m = length-map ss (without_head b) in omega (arith, n, m)
with_count false b c ss = let n = length_push ss (head_segment c) in omega (arith, n)

-- its head is one of them
new_there : (q : Bool) (b c : ℕ) (ss : List Segment) → new_head q ss < length (segments_with q b c ss)
new_there true b c ss = let n = length-append (map (without_head b) ss) (head_segment b ∷ head_segment c ∷ []) in let m = length-map ss (without_head b) in omega (arith, n, m)
new_there false b c ss = let n = length_push ss (head_segment c) in omega (arith, n)

-- a piece of a segment without records has none
whole_empty : (ss : List Segment) (n head : ℕ) (rows : List Row) (ps : List Piece) → records_at ss head ≡ [] → Show ss n rows ps → IsWhole ss head ps
whole_empty ss n head rows ps none show i h e =
    let c = show.count in
    let s = show.each i (omega (arith, h, c)) in
    let p : Piece = piece_at ps i in
    sym s.front ∙ ap (λ k. take (length p.rows.records) (records_at ss k)) (sym s.segment ∙ e) ∙ ap (take (length p.rows.records)) none ∙ take_nil (length p.rows.records) ∙ sym none

module _ (q : Bool) (b c n count : ℕ) (ws : List ℕ) (ss : List Segment) (apart : b ≢ c) where
  abbrev after : List Segment
  after = segments_with q b c ss

  above : length ss ≤ new_head q ss
  above = by q
    where
      by : (p : Bool) → length ss ≤ new_head p ss
      by true = omega arith
      by false = omega arith

  -- ---- the new branch

  module _ (free : (s : ℕ) → s < length ss → is_head_of c (head_at ss s) ≡ false) (few : length (segments_with q b c ss) < 2 ^ 32 - 1) (rows : List Row) (l : Lived) (below : n < count)
      (before : AreRows ss count rows) (behind : AreRowsOf (segments_with q b c ss) c 1 (rows_begun q n ss rows)) (lived : IsLived l) (show : Show ss n rows l.pieces)
      (small : AreSmall l) (widths : (i : ℕ) → i < length l.pieces → (piece_at l.pieces i).rows.widths ≡ ws) where
    abbrev head : Piece
    head = empty_head (new_head q ss) ws

    abbrev news : List KeptRow
    news = map begun_row (begun_pieces l.pieces (empty_head (new_head q ss) ws))

    all : AllShow ss n rows l.pieces
    all = show_all ss n rows l.pieces show.count show.each

    pub begun_rows : map laid_row (map begun_row (begun_pieces l.pieces (empty_head (new_head q ss) ws))) ≡ rows_begun q n ss rows
    begun_rows = begun_all q ss n ws rows l.pieces all lived.covered

    begun_show : AllShow (segments_with q b c ss) 0 (rows_begun q n ss rows) (begun_pieces l.pieces (empty_head (new_head q ss) ws))
    begun_show = pieces_begun q b c n count ss has_live rows l.pieces head before all (all_tell l.pieces lived.covered) refl refl refl

    covered : AreCovered (begun_pieces l.pieces (empty_head (new_head q ss) ws))
    covered = kept_all (λ p. length p.bits ≤ length p.rows.records) has_live l.pieces head lived.covered (omega arith)

    pieces_few : length (begun_pieces l.pieces (empty_head (new_head q ss) ws)) < 2 ^ 32 - 1
    pieces_few =
        let k = show_count after 0 (rows_begun q n ss rows) (begun_pieces l.pieces head) begun_show in
        let m = rows_few 0 (length after) (rows_begun q n ss rows) behind.ascend (omega arith) (λ i h. (behind.are i h).there) in
        omega (arith, k, m, few)

    pub begun_is_lived : IsLived (lived_begun l (empty_head (new_head q ss) ws))
    begun_is_lived = begun_lived q b c n count ss rows l head below before behind lived all (all_tell l.pieces lived.covered) refl refl refl pieces_few covered

    headed : (s : ℕ) → s < length (segments_with q b c ss) → is_head_of c (head_at (segments_with q b c ss) s) ≡ (s == new_head q ss)
    headed s h = by (which b c ss q s h)
      where
        by : (s < length ss) ⊎ (((q ≡ true) × (s ≡ length ss)) ⊎ (s ≡ new_head q ss)) → is_head_of c (head_at (segments_with q b c ss) s) ≡ (s == new_head q ss)
        by (inl l) = other_head b c ss q c s l (λ e. apart (sym e)) ∙ free s l ∙ sym (ne_eqb s (new_head q ss) (λ e. let a = above in absurd (omega (arith, e, l, a))))
        by (inr (inl e)) =
            ap (is_head_of c) (ap (head_at after) e.1 ∙ ap (λ p. head_at (segments_with p b c ss) (length ss)) e.0 ∙ own_new b c ss)
            ∙ ne_eqb c b (λ e2. apart (sym e2))
            ∙ sym (ne_eqb s (new_head q ss) (λ e2. let t : suc (length ss) ≡ length ss = ap (λ p. new_head p ss) (sym e.0) ∙ sym e2 ∙ e.1 in absurd (omega (arith, t))))
        by (inr (inr e)) = ap (is_head_of c) (ap (head_at after) e ∙ begun_new b c ss q) ∙ eq-eqb c c refl ∙ sym (eq-eqb s (new_head q ss) e)

    head_is : head_in c (segments_with q b c ss) ≡ new_head q ss
    head_is = head_in_is c (new_head q ss) (segments_with q b c ss) (new_there q b c ss) headed

    pub begun_kept : IsKeptAt (segments_with q b c ss) ws c 0 (map begun_row (begun_pieces l.pieces (empty_head (new_head q ss) ws))) (lived_begun l (empty_head (new_head q ss) ws))
    begun_kept =
        let ps : List Piece = begun_pieces l.pieces head in
        let m = length-map ps begun_row in
        let shown : Show after 0 (rows_begun q n ss rows) ps = record { count = show_count after 0 (rows_begun q n ss rows) ps begun_show; each = show_at after 0 (rows_begun q n ss rows) ps begun_show } in
        record {
          own = ap (has_row (head_in c after)) (map-append begun_row (filter has_live l.pieces) (head ∷ [])) ∙ own_last (head_in c after) (map begun_row (filter has_live l.pieces)) (begun_row head) (sym head_is);
          headed = λ s h. headed s h ∙ ap (λ k. s == k) (sym head_is);
          short = λ i h.
              let p : Piece = piece_at ps i in
              subst (λ (x : KeptRow). map shortest (map slots_of x.deltas) ≡ x.deltas) (sym (get_or-map begun_row ps i no_piece no_kept_row (omega (arith, h, m))))
              (shorts_push [] (bit_of p.bits) (length p.bits) refl);
          shown = subst (λ (xs : List Row). Show after 0 xs ps) (sym begun_rows) shown;
          whole = subst (λ k. IsWhole after k ps) (sym head_is) (whole_empty after 0 (new_head q ss) (rows_begun q n ss rows) ps (head_new q b c ss) shown);
          lived = begun_is_lived;
          small = kept_all (λ p. length p.rows.records < 2 ^ 32) has_live l.pieces head small (omega arith);
          widths = kept_all (λ p. p.rows.widths ≡ ws) has_live l.pieces head widths refl;
        }

  -- ---- the others

  module _ (x m : ℕ) (rows : List KeptRow) (l : Lived) (other : x ≢ c) (away : q ≡ true → x ≢ b)
      (there : (i : ℕ) → i < length (map laid_row rows) → (row_at (map laid_row rows) i).segment < length ss) (at : IsKeptAt ss ws x m rows l) where
    head_there : head_in x ss < length ss
    head_there = own_there (length ss) (head_in x ss) rows at.own there

    heads_keep : (p : Bool) → q ≡ p → (s : ℕ) → s < length ss → is_head_of x (head_at (segments_with p b c ss) s) ≡ is_head_of x (head_at ss s)
    heads_keep true e s h = other_head b c ss true x s h (away e)
    heads_keep false e s h = older_head b c ss x s h

    headed_on : (s : ℕ) → s < length (segments_with q b c ss) → is_head_of x (head_at (segments_with q b c ss) s) ≡ (s == head_in x ss)
    headed_on s h = by (which b c ss q s h)
      where
        by : (s < length ss) ⊎ (((q ≡ true) × (s ≡ length ss)) ⊎ (s ≡ new_head q ss)) → is_head_of x (head_at (segments_with q b c ss) s) ≡ (s == head_in x ss)
        by (inl l) = heads_keep q refl s l ∙ at.headed s l
        by (inr (inl e)) =
            ap (is_head_of x) (ap (head_at after) e.1 ∙ ap (λ p. head_at (segments_with p b c ss) (length ss)) e.0 ∙ own_new b c ss)
            ∙ ne_eqb x b (away e.0)
            ∙ sym (ne_eqb s (head_in x ss) (λ e2. let t = head_there in let f = e.1 in absurd (omega (arith, t, e2, f))))
        by (inr (inr e)) =
            ap (is_head_of x) (ap (head_at after) e ∙ begun_new b c ss q)
            ∙ ne_eqb x c other
            ∙ sym (ne_eqb s (head_in x ss) (λ e2. let t = head_there in let a = above in absurd (omega (arith, t, e2, e, a))))

    -- its head keeps its number
    head_kept : head_in x (segments_with q b c ss) ≡ head_in x ss
    head_kept = let h = head_there in let a = above in let n = new_there q b c ss in head_in_is x (head_in x ss) (segments_with q b c ss) (omega (arith, h, a, n)) headed_on

    pub kept_with : IsKeptAt (segments_with q b c ss) ws x m rows l
    kept_with = record {
      own = ap (λ k. has_row k rows) head_kept ∙ at.own;
      headed = λ s h. headed_on s h ∙ ap (λ k. s == k) (sym head_kept);
      short = at.short;
      shown = record {
        count = at.shown.count;
        each = λ i h.
            let s = at.shown.each i h in
            record {
              segment = s.segment;
              front = ap (take (length (piece_at l.pieces i).rows.records)) (with_same q b c ss (row_at (map laid_row rows) i).segment (there i h)) ∙ s.front;
              bits = s.bits;
              past = s.past;
            };
      };
      whole = λ i h e. at.whole i h (e ∙ head_kept) ∙ sym (with_same q b c ss (head_in x ss) head_there) ∙ ap (records_at (segments_with q b c ss)) (sym head_kept);
      lived = at.lived;
      small = at.small;
      widths = at.widths;
    }

-- ---- another head

live_more : (ps : List Piece) (segment : ℕ) (ws : List ℕ) → live_pieces (ps ++ empty_head segment ws ∷ []) ≡ live_pieces ps
live_more ps segment ws = flat_map-append live_piece ps (empty_head segment ws ∷ []) ∙ append-nil (live_pieces ps)

place_more : (ps : List Piece) (segment : ℕ) (ws : List ℕ) (key : ℕ) → place_of (ps ++ empty_head segment ws ∷ []) key ≡ place_of ps key
place_more [] segment ws key = refl
place_more (p ∷ ps) segment ws key = ap (place_or p.segment (slot_in 0 p.rows.records (bit_of p.bits) key)) (place_more ps segment ws key)

rises_more : (low m : ℕ) (ws : List ℕ) (ps : List Piece) → rises low ps ≡ true → low ≤ m → ((i : ℕ) → i < length ps → (piece_at ps i).segment < m) → rises low (ps ++ empty_head m ws ∷ []) ≡ true
rises_more low m ws [] e h f = and_from _ _ (le-leb low m h) refl
rises_more low m ws (p ∷ ps) e h f =
    let two = and_parts _ _ e in
    let here = f 0 (omega arith) in
    and_from _ _ two.0 (rises_more (suc p.segment) m ws ps two.1 (omega (arith, here)) (λ i g. f (suc i) (omega (arith, g))))

from_last : (n : ℕ) → suc n - n ≡ 1
from_last n = omega arith

module _ (b c n : ℕ) (ws : List ℕ) (ss : List Segment) (apart : b ≢ c) (rows : List KeptRow) (l : Lived) (few : length ss + 1 < 2 ^ 32 - 1) (ascend : row_rises 0 (map laid_row rows) ≡ true)
    (there : (i : ℕ) → i < length (map laid_row rows) → (row_at (map laid_row rows) i).segment < length ss) (at : IsKeptAt ss ws b n rows l) where
  abbrev turned_head : Piece
  turned_head = empty_head (length ss) ws

  abbrev row : KeptRow
  row = turned_row (length ss) n

  abbrev turned_news : List KeptRow
  turned_news = rows ++ turned_row (length ss) n ∷ []

  abbrev wide : List Segment
  wide = segments_with true b c ss

  in_rows : (i : ℕ) → i < length l.pieces → i < length (map laid_row rows)
  in_rows i h = let k = at.shown.count in omega (arith, h, k)

  segments_below : (i : ℕ) → i < length l.pieces → (piece_at l.pieces i).segment < length ss
  segments_below i h =
      let lt = in_rows i h in
      let e = (at.shown.each i lt).segment in
      let t = there i lt in
      omega (arith, e, t)

  pub turned_lived : IsLived (lived_turned l (empty_head (length ss) ws))
  turned_lived =
      let lived = at.lived in
      record {
        ascend = rises_more 0 (length ss) ws l.pieces lived.ascend (omega arith) segments_below;
        apart = λ key. subst (λ (xs : List Record). times key xs ≤ 1) (sym (live_more l.pieces (length ss) ws)) (lived.apart key);
        placed = λ key. lived.placed key ∙ sym (place_more l.pieces (length ss) ws key);
        counted = lived.counted ∙ ap (λ (xs : List Record). finite.len (contents_of xs)) (sym (live_more l.pieces (length ss) ws));
        few =
            let k = at.shown.count in
            let m = rows_few 0 (length ss) (map laid_row rows) ascend (omega arith) there in
            let p = length_push l.pieces turned_head in
            omega (arith, k, m, p, few);
        covered = more_all (λ p. length p.bits ≤ length p.rows.records) l.pieces turned_head lived.covered (omega arith);
      }

  head_shows : Shows wide n (laid_row row) turned_head
  head_shows = record {
    segment = refl;
    front = refl;
    bits = λ slot. sym (ap (λ k. combined (take k ([] ∷ [])) slot) (from_last n));
    past = λ slot h. ap (λ k. combined (take k ([] ∷ [])) slot) (from_last n);
  }

  laid_is : map laid_row turned_news ≡ map laid_row rows ++ laid_row row ∷ []
  laid_is = map-append laid_row rows (row ∷ [])

  old_shows : (i : ℕ) → i < length (map laid_row rows) → Shows wide n (row_at (map laid_row rows) i) (piece_at l.pieces i)
  old_shows i h =
      let s = at.shown.each i h in
      record {
        segment = s.segment;
        front = ap (take (length (piece_at l.pieces i).rows.records)) (with_same true b c ss (row_at (map laid_row rows) i).segment (there i h)) ∙ s.front;
        bits = s.bits;
        past = s.past;
      }

  turned_show : Show wide n (map laid_row rows ++ laid_row row ∷ []) (l.pieces ++ turned_head ∷ [])
  turned_show =
      let p = length_push l.pieces turned_head in
      let r = length_push (map laid_row rows) (laid_row row) in
      let k = at.shown.count in
      record { count = omega (arith, p, r, k); each = λ i h. by i h (cases_lt i (length (map laid_row rows))) }
    where
      by : (i : ℕ) → i < length (map laid_row rows ++ laid_row row ∷ []) → (i < length (map laid_row rows)) ⊎ (length (map laid_row rows) ≤ i) → Shows wide n (row_at (map laid_row rows ++ laid_row row ∷ []) i) (piece_at (l.pieces ++ turned_head ∷ []) i)
      by i h (inl lt) =
          let k = at.shown.count in
          subst (λ (x : Row). Shows wide n x (piece_at (l.pieces ++ turned_head ∷ []) i)) (sym (get_or_append_left (map laid_row rows) (laid_row row ∷ []) no_row i lt))
          (subst (λ (p : Piece). Shows wide n (row_at (map laid_row rows) i) p) (sym (get_or_append_left l.pieces (turned_head ∷ []) no_piece i (omega (arith, lt, k)))) (old_shows i lt))
      by i h (inr ge) =
          let k = at.shown.count in
          let r = length_push (map laid_row rows) (laid_row row) in
          subst (λ (x : Row). Shows wide n x (piece_at (l.pieces ++ turned_head ∷ []) i)) (sym (get_or_push (map laid_row rows) (laid_row row) no_row i (omega (arith, h, r, ge))))
          (subst (λ (p : Piece). Shows wide n (laid_row row) p) (sym (get_or_push l.pieces turned_head no_piece i (omega (arith, h, r, ge, k)))) head_shows)

  turned_headed : (s : ℕ) → s < length wide → is_head_of b (head_at wide s) ≡ (s == length ss)
  turned_headed s h = by (which b c ss true s h)
    where
      by : (s < length ss) ⊎ (((true ≡ true) × (s ≡ length ss)) ⊎ (s ≡ suc (length ss))) → is_head_of b (head_at wide s) ≡ (s == length ss)
      by (inl lt) = own_gone b c ss s lt ∙ sym (ne_eqb s (length ss) (λ e. absurd (omega (arith, e, lt))))
      by (inr (inl e)) = ap (is_head_of b) (ap (head_at wide) e.1 ∙ own_new b c ss) ∙ eq-eqb b b refl ∙ sym (eq-eqb s (length ss) e.1)
      by (inr (inr e)) =
          ap (is_head_of b) (ap (head_at wide) e ∙ begun_new b c ss true)
          ∙ ne_eqb b c apart
          ∙ sym (ne_eqb s (length ss) (λ e2. absurd (omega (arith, e, e2))))

  turned_short : (i : ℕ) → i < length turned_news → (i < length rows) ⊎ (length rows ≤ i) → map shortest (map slots_of (kept_row_at turned_news i).deltas) ≡ (kept_row_at turned_news i).deltas
  turned_short i h (inl lt) = subst (λ (x : KeptRow). map shortest (map slots_of x.deltas) ≡ x.deltas) (sym (get_or_append_left rows (row ∷ []) no_kept_row i lt)) (at.short i lt)
  turned_short i h (inr ge) =
      let r = length_push rows row in
      subst (λ (x : KeptRow). map shortest (map slots_of x.deltas) ≡ x.deltas) (sym (get_or_push rows row no_kept_row i (omega (arith, h, r, ge)))) refl

  pub turned_kept : IsKeptAt (segments_with true b c ss) ws b n (rows ++ turned_row (length ss) n ∷ []) (lived_turned l (empty_head (length ss) ws))
  turned_kept =
      let hi : head_in b wide ≡ length ss = (let n = new_there true b c ss in head_in_is b (length ss) wide (omega (arith, n)) turned_headed) in
      let ps : List Piece = l.pieces ++ turned_head ∷ [] in
      record {
        own = own_last (head_in b wide) rows row (sym hi);
        headed = λ s h. turned_headed s h ∙ ap (λ k. s == k) (sym hi);
        short = λ i h. turned_short i h (cases_lt i (length rows));
        shown = subst (λ (xs : List Row). Show wide n xs ps) (sym laid_is) turned_show;
        whole = subst (λ k. IsWhole wide k ps) (sym hi) (whole_empty wide n (length ss) (map laid_row rows ++ laid_row row ∷ []) ps (first_new true b c ss) turned_show);
        lived = turned_lived;
        small = more_all (λ p. length p.rows.records < 2 ^ 32) l.pieces turned_head at.small (omega arith);
        widths = more_all (λ p. p.rows.widths ≡ ws) l.pieces turned_head at.widths refl;
      }
