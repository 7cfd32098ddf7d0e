-- Pieces that show the rows of a branch, after a commit on it.
use Rattle.std.proofs.Common.{◌≡◌, ◌⊎◌, inl, inr, ℕ, zero, suc, ◌+◌, ◌<◌, ◌≤◌, ◌==◌, ◌&&◌, nat_lt, nat_le, not, Bool, true, false, cond, List, [], ◌∷◌, ◌++◌, length, map, take, drop, Option, refl, arith, ap, sym, ◌∙◌, subst}
use Rattle.std.specs.FinMap as finite
use Rattle.std.proofs.lemmas.Bool.{cases_lt, cases_Bool, lt-ltb, le-ltb, eqb-true, eq-eqb}
use Rattle.std.proofs.lemmas.List.{length-map, length-append, get_or-map, get_or_append_left, get_or_push, get_or_past, take_all, append-nil}
use Rattle.db_value.specs.declared.record.Record.{Record}
use Rattle.db_value.specs.declared.entry.Change.{Change}
use Rattle.plain_bits.specs.Truth.{bit_of}
use Rattle.record_page.specs.Page.{Rows, record_at}
use Rattle.key_index.specs.Places.{with_changes}
use Rattle.db_store.specs.Adopt.{keys_differ}
use Rattle.db_store.specs.Layout.{Segment, Row, bit, records_at, live_in, contents_of}
use Rattle.db_store.specs.LayoutGrowth.{is_head_of, puts, touches, segment_after, row_after}
use Rattle.db_store.specs.LaidOut.{IsRow, AreRows, AreRowsOf, head_at, row_at, no_row, times}
use Rattle.db_store.proofs.CommitLaw.{bit_next, bit_past, after_records}
use Rattle.hybrid_view.specs.Live.{Piece, Lived, no_piece, piece_at, live_pieces, rises, IsLived}
use Rattle.hybrid_view.specs.Struck.{struck, touched_places}
use Rattle.hybrid_view.specs.RowPlaces.{Shows, AllShow, IsWhole, Next, AllNext, spots}
use Rattle.hybrid_view.proofs.PlaceLemmas.{struck_is, index_next, shown_place, shown_rows, shown_split, shown_shorter}

-- ---- by place

pub show_count : (ss : List Segment) (n : ℕ) (rows : List Row) (ps : List Piece) → AllShow ss n rows ps → length ps ≡ length rows
show_count ss n [] [] s = refl
show_count ss n [] (p ∷ ps) s = absurd s
show_count ss n (row ∷ rows) [] s = absurd s
show_count ss n (row ∷ rows) (p ∷ ps) s = ap suc (show_count ss n rows ps s.1)

pub show_at : (ss : List Segment) (n : ℕ) (rows : List Row) (ps : List Piece) → AllShow ss n rows ps → (i : ℕ) → i < length rows → Shows ss n (row_at rows i) (piece_at ps i)
show_at ss n [] ps s i h = absurd (omega (arith, h))
show_at ss n (row ∷ rows) [] s i h = absurd s
show_at ss n (row ∷ rows) (p ∷ ps) s zero h = s.0
show_at ss n (row ∷ rows) (p ∷ ps) s (suc i) h = show_at ss n rows ps s.1 i (omega (arith, h))

pub show_all : (ss : List Segment) (n : ℕ) (rows : List Row) (ps : List Piece) → length ps ≡ length rows → ((i : ℕ) → i < length rows → Shows ss n (row_at rows i) (piece_at ps i)) → AllShow ss n rows ps
show_all ss n [] [] e f = tt
show_all ss n [] (p ∷ ps) e f = absurd (omega (arith, e))
show_all ss n (row ∷ rows) [] e f = absurd (omega (arith, e))
show_all ss n (row ∷ rows) (p ∷ ps) e f = (f 0 (omega arith), show_all ss n rows ps (omega (arith, e)) (λ i h. f (suc i) (omega (arith, h))))

-- ---- one row

module _ (b : ℕ) (cs : List Change) (r : ℕ) (ss : List Segment) (count n head : ℕ) (last : suc n ≡ count) where
  abbrev news : List Segment
  news = map (segment_after b (puts cs r)) ss

  next_shows_one : (ps : List Piece) (i : ℕ) (row : Row) (q : Piece) → IsRow ss count row → Shows ss n row (piece_at ps i) → Next (touched_places ps cs r) head (puts cs r) (piece_at ps i) q
      → is_head_of b (head_at ss row.segment) ≡ (row.segment == head) → (row.segment ≡ head → (piece_at ps i).rows.records ≡ records_at ss row.segment) → rises 0 ps ≡ true → ((key : ℕ) → times key (live_pieces ps) ≤ 1) → i < length ps
      → Shows (map (segment_after b (puts cs r)) ss) count (row_after ss (map (segment_after b (puts cs r)) ss) (touches cs r) n row) q
  next_shows_one ps i row q is shows next heads whole up apart h = record {
    segment = next.segment ∙ shows.segment;
    front = front kinds;
    bits = same;
    past = λ slot g. sym (same slot) ∙ get_or_past q.bits slot false (let k = next.covered in omega (arith, k, g));
  }
    where
      -- the records that are new in this segment
      more : List Record
      more = cond (row.segment == head) (puts cs r) []

      mine : q.rows.records ≡ (piece_at ps i).rows.records ++ cond (row.segment == head) (puts cs r) []
      mine = next.records ∙ (λ k. (piece_at ps i).rows.records ++ cond (shows.segment k == head) (puts cs r) [])

      all : records_at (map (segment_after b (puts cs r)) ss) row.segment ≡ records_at ss row.segment ++ cond (row.segment == head) (puts cs r) []
      all = after_records b (puts cs r) ss row.segment is.there ∙ ap (λ x. records_at ss row.segment ++ cond x (puts cs r) []) heads

      -- the piece has all records of the segment, or nothing is new
      kinds : ((piece_at ps i).rows.records ≡ records_at ss row.segment) ⊎ (cond (row.segment == head) (puts cs r) [] ≡ [])
      kinds = by (cases_Bool (row.segment == head))
        where
          by : ((row.segment == head) ≡ true) ⊎ ((row.segment == head) ≡ false) → ((piece_at ps i).rows.records ≡ records_at ss row.segment) ⊎ (cond (row.segment == head) (puts cs r) [] ≡ [])
          by (inl t) = inl (whole (eqb-true row.segment head t))
          by (inr f) = inr (ap (λ x. cond x (puts cs r) []) f)

      front : ((piece_at ps i).rows.records ≡ records_at ss row.segment) ⊎ (cond (row.segment == head) (puts cs r) [] ≡ [])
          → take (length q.rows.records) (records_at (map (segment_after b (puts cs r)) ss) row.segment) ≡ q.rows.records
      front (inl w) =
          let e : records_at (map (segment_after b (puts cs r)) ss) row.segment ≡ q.rows.records = all ∙ ap (λ (xs : List Record). xs ++ cond (row.segment == head) (puts cs r) []) (sym w) ∙ sym mine in
          ap (take (length q.rows.records)) e ∙ take_all (length q.rows.records) q.rows.records (omega arith)
      front (inr z) =
          let e : records_at (map (segment_after b (puts cs r)) ss) row.segment ≡ records_at ss row.segment = all ∙ ap (λ (xs : List Record). records_at ss row.segment ++ xs) z ∙ append-nil (records_at ss row.segment) in
          let f : q.rows.records ≡ (piece_at ps i).rows.records = mine ∙ ap (λ (xs : List Record). (piece_at ps i).rows.records ++ xs) z ∙ append-nil (piece_at ps i).rows.records in
          ap (λ (xs : List Record). take (length q.rows.records) xs) e ∙ ap (λ (xs : List Record). take (length xs) (records_at ss row.segment)) f ∙ shows.front ∙ sym f

      old_count : length q.rows.records ≡ length (piece_at ps i).rows.records + length (cond (row.segment == head) (puts cs r) [])
      old_count = ap length mine ∙ length-append (piece_at ps i).rows.records (cond (row.segment == head) (puts cs r) [])

      all_count : length (records_at (map (segment_after b (puts cs r)) ss) row.segment) ≡ length (records_at ss row.segment) + length (cond (row.segment == head) (puts cs r) [])
      all_count = ap length all ∙ length-append (records_at ss row.segment) (cond (row.segment == head) (puts cs r) [])

      shorter : length (piece_at ps i).rows.records ≤ length (records_at ss row.segment)
      shorter = shown_shorter ss n row (piece_at ps i) shows

      after_old : (slot : ℕ) → slot < length (records_at ss row.segment)
          → bit (row_after ss (map (segment_after b (puts cs r)) ss) (touches cs r) n row) count slot ≡ (bit row n slot && not (touches cs r (record_at (records_at ss row.segment) slot).key))
      after_old slot l =
          bit_next ss (map (segment_after b (puts cs r)) ss) (touches cs r) count n row is last slot (let k = all_count in omega (arith, l, k))
          ∙ ap (λ x. cond x (bit row n slot && not (touches cs r (record_at (records_at ss row.segment) slot).key)) true) (lt-ltb slot (length (records_at ss row.segment)) l)

      -- no slot of the piece
      behind : (slot : ℕ) → length (piece_at ps i).rows.records ≤ slot → bit_of q.bits slot ≡ nat_lt slot (length q.rows.records)
      behind slot l =
          next.bits slot
          ∙ ap (λ x. cond x (bit_of (piece_at ps i).bits slot && not (struck (touched_places ps cs r) (piece_at ps i).segment slot)) (nat_lt slot (length q.rows.records))) (le-ltb slot (length (piece_at ps i).rows.records) l)

      one_key : (slot : ℕ) → slot < length (piece_at ps i).rows.records → record_at (piece_at ps i).rows.records slot ≡ record_at (records_at ss row.segment) slot
      one_key slot l =
          sym (get_or_append_left (piece_at ps i).rows.records (drop (length (piece_at ps i).rows.records) (records_at ss row.segment)) _ slot l)
          ∙ ap (λ (xs : List Record). record_at xs slot) (sym (shown_split ss n row (piece_at ps i) shows))

      in_piece : (slot : ℕ) → slot < length (piece_at ps i).rows.records → bit_of q.bits slot ≡ bit (row_after ss (map (segment_after b (puts cs r)) ss) (touches cs r) n row) count slot
      in_piece slot l =
          next.bits slot
          ∙ ap (λ x. cond x (bit_of (piece_at ps i).bits slot && not (struck (touched_places ps cs r) (piece_at ps i).segment slot)) (nat_lt slot (length q.rows.records))) (lt-ltb slot (length (piece_at ps i).rows.records) l)
          ∙ struck_is ps cs r i slot up apart h l
          ∙ (λ k. shows.bits slot k && not (touches cs r (one_key slot l k).key))
          ∙ sym (after_old slot (let k = shorter in omega (arith, l, k)))

      in_gap : (slot : ℕ) → length (piece_at ps i).rows.records ≤ slot → slot < length (records_at ss row.segment)
          → ((piece_at ps i).rows.records ≡ records_at ss row.segment) ⊎ (cond (row.segment == head) (puts cs r) [] ≡ [])
          → bit_of q.bits slot ≡ bit (row_after ss (map (segment_after b (puts cs r)) ss) (touches cs r) n row) count slot
      in_gap slot l m (inl w) = let k = ap length w in absurd (omega (arith, l, m, k))
      in_gap slot l m (inr z) =
          let k = ap length z in let c = old_count in
          behind slot l
          ∙ le-ltb slot (length q.rows.records) (omega (arith, l, k, c))
          ∙ sym (ap (λ x. x && not (touches cs r (record_at (records_at ss row.segment) slot).key)) (shows.past slot l))
          ∙ sym (after_old slot m)

      is_new : (slot : ℕ) → length (records_at ss row.segment) ≤ slot → slot < length (records_at (map (segment_after b (puts cs r)) ss) row.segment)
          → ((piece_at ps i).rows.records ≡ records_at ss row.segment) ⊎ (cond (row.segment == head) (puts cs r) [] ≡ [])
          → bit_of q.bits slot ≡ bit (row_after ss (map (segment_after b (puts cs r)) ss) (touches cs r) n row) count slot
      is_new slot l m (inr z) = let k = ap length z in let c = all_count in absurd (omega (arith, l, m, k, c))
      is_new slot l m (inl w) =
          let k = ap length w in let c = all_count in let d = old_count in
          behind slot (omega (arith, l, k))
          ∙ lt-ltb slot (length q.rows.records) (omega (arith, l, m, k, c, d))
          ∙ sym (ap (λ x. cond x (bit row n slot && not (touches cs r (record_at (records_at ss row.segment) slot).key)) true) (le-ltb slot (length (records_at ss row.segment)) l))
          ∙ sym (bit_next ss (map (segment_after b (puts cs r)) ss) (touches cs r) count n row is last slot m)

      is_past : (slot : ℕ) → length (records_at (map (segment_after b (puts cs r)) ss) row.segment) ≤ slot → bit_of q.bits slot ≡ bit (row_after ss (map (segment_after b (puts cs r)) ss) (touches cs r) n row) count slot
      is_past slot m =
          let c = all_count in let d = old_count in let s = shorter in
          behind slot (omega (arith, m, c, s))
          ∙ le-ltb slot (length q.rows.records) (omega (arith, m, c, d, s))
          ∙ sym (bit_past ss (map (segment_after b (puts cs r)) ss) (touches cs r) count n row is last slot count (omega (arith, c)) m)

      same : (slot : ℕ) → bit_of q.bits slot ≡ bit (row_after ss (map (segment_after b (puts cs r)) ss) (touches cs r) n row) count slot
      same slot = by (cases_lt slot (length (piece_at ps i).rows.records)) (cases_lt slot (length (records_at ss row.segment))) (cases_lt slot (length (records_at (map (segment_after b (puts cs r)) ss) row.segment)))
        where
          by : (slot < length (piece_at ps i).rows.records) ⊎ (length (piece_at ps i).rows.records ≤ slot)
              → (slot < length (records_at ss row.segment)) ⊎ (length (records_at ss row.segment) ≤ slot)
              → (slot < length (records_at (map (segment_after b (puts cs r)) ss) row.segment)) ⊎ (length (records_at (map (segment_after b (puts cs r)) ss) row.segment) ≤ slot)
              → bit_of q.bits slot ≡ bit (row_after ss (map (segment_after b (puts cs r)) ss) (touches cs r) n row) count slot
          by (inl l) m k = in_piece slot l
          by (inr g) (inl m) k = in_gap slot g m kinds
          by (inr g) (inr m) (inl k) = is_new slot m k kinds
          by (inr g) (inr m) (inr k) = is_past slot k

  -- pieces that show rows, after a commit, show the rows after it
  pub next_shows : (rows : List Row) (ps qs : List Piece) → AreRows ss count rows → AllShow ss n rows ps → AllNext (touched_places ps cs r) head (puts cs r) ps qs
      → ((s : ℕ) → s < length ss → is_head_of b (head_at ss s) ≡ (s == head)) → IsWhole ss head ps → rises 0 ps ≡ true → ((key : ℕ) → times key (live_pieces ps) ≤ 1)
      → AllShow (map (segment_after b (puts cs r)) ss) count (map (row_after ss (map (segment_after b (puts cs r)) ss) (touches cs r) n) rows) qs
  next_shows rows ps qs all shown next heads whole up apart =
      let m = show_count ss n rows ps shown in
      let k = length-map rows (row_after ss (map (segment_after b (puts cs r)) ss) (touches cs r) n) in
      show_all (map (segment_after b (puts cs r)) ss) count (map (row_after ss (map (segment_after b (puts cs r)) ss) (touches cs r) n) rows) qs (let c = next.count in omega (arith, c, m, k))
      (λ i h.
      let l : i < length rows = omega (arith, k, h) in
      subst (λ (x : Row). Shows (map (segment_after b (puts cs r)) ss) count x (piece_at qs i)) (sym (get_or-map (row_after ss (map (segment_after b (puts cs r)) ss) (touches cs r) n) rows i no_row no_row l))
      (next_shows_one ps i (row_at rows i) (piece_at qs i) (all i l) (show_at ss n rows ps shown i l) (next.each i (omega (arith, l, m))) (heads (row_at rows i).segment (all i l).there)
      (λ e. let f = (show_at ss n rows ps shown i l).segment in whole i (omega (arith, l, m)) (f ∙ e) ∙ ap (records_at ss) (sym e)) up apart (omega (arith, l, m))))

-- ---- what there is of a relation after a commit

rises_same : (low : ℕ) (ps qs : List Piece) → length qs ≡ length ps → ((i : ℕ) → i < length ps → (piece_at qs i).segment ≡ (piece_at ps i).segment) → rises low qs ≡ rises low ps
rises_same low [] [] e f = refl
rises_same low [] (q ∷ qs) e f = absurd (omega (arith, e))
rises_same low (p ∷ ps) [] e f = absurd (omega (arith, e))
rises_same low (p ∷ ps) (q ∷ qs) e f =
    (λ i. nat_le low (f 0 (omega arith) i) && rises (suc (f 0 (omega arith) i)) qs)
    ∙ ap (λ x. nat_le low p.segment && x) (rises_same (suc p.segment) ps qs (omega (arith, e)) (λ i h. f (suc i) (omega (arith, h))))

-- the rows of a branch before and after a commit, and what the store keeps of them
pub lived_next : (b : ℕ) (cs : List Change) (r : ℕ) (ss : List Segment) (count n head : ℕ) (rows : List Row) (l : Lived) (qs : List Piece) (c : ℕ) → suc n ≡ count → keys_differ cs ≡ true
    → AreRowsOf ss b count rows → AreRowsOf (map (segment_after b (puts cs r)) ss) b (suc count) (map (row_after ss (map (segment_after b (puts cs r)) ss) (touches cs r) n) rows)
    → ((s : ℕ) → s < length ss → is_head_of b (head_at ss s) ≡ (s == head)) → IsLived l → AllShow ss n rows l.pieces → IsWhole ss head l.pieces → AllNext (touched_places l.pieces cs r) head (puts cs r) l.pieces qs
    → c ≡ finite.len (contents_of (live_in (map (segment_after b (puts cs r)) ss) count (map (row_after ss (map (segment_after b (puts cs r)) ss) (touches cs r) n) rows)))
    → IsLived (record { pieces = qs; places = with_changes l.places (spots head (length (records_at ss head)) cs r); count = c })
lived_next b cs r ss count n head rows l qs c last d before after heads lived shown whole next counts = record {
  ascend = rises_same 0 l.pieces qs next.count (λ i h. (next.each i h).segment) ∙ lived.ascend;
  apart = λ key. subst (λ xs. times key xs ≤ 1) (sym rows_are) (after.apart count key (omega arith));
  placed = λ key.
      index_next b cs r ss count n head rows l.places last d before.are before.headed (λ s h e. eqb-true s head (sym (heads s h) ∙ e)) (λ k. lived.placed k ∙ shown_place ss n rows l.pieces k shown) key
      ∙ sym (shown_place (map (segment_after b (puts cs r)) ss) count (map (row_after ss (map (segment_after b (puts cs r)) ss) (touches cs r) n) rows) qs key shows);
  counted = counts ∙ ap (λ xs. finite.len (contents_of xs)) (sym rows_are);
  few = let k = next.count in let f = lived.few in omega (arith, k, f);
  covered = λ i h. (next.each i (let k = next.count in omega (arith, k, h))).covered;
}
  where
    shows : AllShow (map (segment_after b (puts cs r)) ss) count (map (row_after ss (map (segment_after b (puts cs r)) ss) (touches cs r) n) rows) qs
    shows = next_shows b cs r ss count n head last rows l.pieces qs before.are shown next heads whole lived.ascend lived.apart

    rows_are : live_pieces qs ≡ live_in (map (segment_after b (puts cs r)) ss) count (map (row_after ss (map (segment_after b (puts cs r)) ss) (touches cs r) n) rows)
    rows_are = shown_rows (map (segment_after b (puts cs r)) ss) count (map (row_after ss (map (segment_after b (puts cs r)) ss) (touches cs r) n) rows) qs shows

-- one piece more
pub next_push : (places : List (Option (ℕ × ℕ))) (head : ℕ) (more : List Record) (ps qs : List Piece) (i : ℕ) (q : Piece) → length qs ≡ i → ((j : ℕ) → j < i → Next places head more (piece_at ps j) (piece_at qs j)) → Next places head more (piece_at ps i) q
    → (j : ℕ) → j < i + 1 → Next places head more (piece_at ps j) (piece_at (qs ++ q ∷ []) j)
next_push places head more ps qs i q e each one j h = by (cases_lt j i)
  where
    by : (j < i) ⊎ (i ≤ j) → Next places head more (piece_at ps j) (piece_at (qs ++ q ∷ []) j)
    by (inl l) = subst (Next places head more (piece_at ps j)) (sym (get_or_append_left qs (q ∷ []) no_piece j (omega (arith, l, e)))) (each j l)
    by (inr g) =
        let same : i ≡ j = omega (arith, h, g) in
        subst (λ k. Next places head more (piece_at ps k) (piece_at (qs ++ q ∷ []) k)) same (subst (Next places head more (piece_at ps i)) (sym (get_or_push qs q no_piece i e)) one)

-- the head, with records behind its own
pub next_head : (places : List (Option (ℕ × ℕ))) (more : List Record) (p q : Piece) (from : ℕ) (cut : List Bool)
    → q.segment ≡ p.segment
    → q.rows ≡ record p.rows { records = p.rows.records ++ more }
    → from ≡ length p.rows.records
    → ((slot : ℕ) → bit_of cut slot ≡ (bit_of p.bits slot && not (struck places p.segment slot)))
    → ((slot : ℕ) → bit_of q.bits slot ≡ cond (nat_lt slot from) (bit_of cut slot) (nat_lt slot (length q.rows.records)))
    → length q.bits ≡ length q.rows.records
    → length p.bits ≤ length p.rows.records
    → Next places p.segment more p q
next_head places more p q from cut segment rows is cut_bits bits long covers = record {
  segment = segment;
  widths = ap (λ (r : Rows). r.widths) rows;
  records = records ∙ ap (λ b. p.rows.records ++ cond b more []) (sym (eq-eqb p.segment p.segment refl));
  bits = λ slot.
      bits slot
      ∙ ap (λ b. cond (nat_lt slot from) b (nat_lt slot (length q.rows.records))) (cut_bits slot)
      ∙ ap (λ n. cond (nat_lt slot n) (bit_of p.bits slot && not (struck places p.segment slot)) (nat_lt slot (length q.rows.records))) is;
  covered = omega (arith, long);
  longer = let n = length-append p.rows.records more in let e = ap (λ (xs : List Record). length xs) records in omega (arith, long, covers, n, e);
}
  where
    records : q.rows.records ≡ p.rows.records ++ more
    records = ap (λ (r : Rows). r.records) rows
