-- The parts of a new branch: those of its origin in which something is live, and an empty head.
use Rattle.std.proofs.Common.{◌≡◌, ◌⊎◌, inl, inr, ℕ, zero, suc, ◌+◌, ◌-◌, ◌^◌, ◌<◌, ◌≤◌, ◌&&◌, nat_le, Bool, true, false, cond, List, [], ◌∷◌, ◌++◌, length, take, refl, arith, ap, sym, ◌∙◌, subst}
use Rattle.std.specs.Prelude.{filter}
use Rattle.std.specs.List.{flat_map}
use Rattle.std.proofs.lemmas.Bool.{cases_lt, cases_Bool, false≢true, ltb-true, ltb-false}
use Rattle.std.proofs.lemmas.List.Sums.{sum_by-cons}
use Rattle.std.proofs.lemmas.List.{get_or_past}
use Rattle.db_value.specs.declared.record.Record.{Record}
use Rattle.plain_bits.specs.Truth.{bit_of, count_true}
use Rattle.db_store.specs.Layout.{Segment, Row, differ, has, bit, slots_where, records_at, head_row}
use Rattle.db_store.specs.LayoutGrowth.{row_of, carried, segments_with, new_head, rows_begun}
use Rattle.db_store.specs.LaidOut.{IsRow, AreRows}
use Rattle.db_store.proofs.BitLemmas.{has_where, has_past}
use Rattle.db_store.proofs.CommitLaw.{first_is, rest_are}
use Rattle.db_store.proofs.LayoutLaw.{with_same}
use Rattle.std.specs.FinMap as finite
use Rattle.db_store.specs.Layout.{contents_of}
use Rattle.db_store.specs.LaidOut.{AreRowsOf, times, rises as row_rises}
use Rattle.db_store.proofs.LayoutLaw.{rows_begun_keep}
use Rattle.hybrid_view.proofs.PlaceLemmas.{shown_place, shown_rows, shown_shorter}
use Rattle.hybrid_view.proofs.BranchPlaces.{index_begun}
use Rattle.hybrid_view.specs.Live.{Piece, Lived, piece_at, rises, has_live, begun_pieces, IsLived}
use Rattle.hybrid_view.specs.RowPlaces.{Shows, AllShow}
use Rattle.hybrid_view.proofs.DeltaLemmas.{slots_stop}

-- a test tells whether something is live in a piece, whose bits lie within its records
pub record Tells (keep : Piece → Bool) (p : Piece) : Type 0 where
  pub some : keep p ≡ true → (s : ℕ) × (bit_of p.bits s ≡ true)
  pub none : keep p ≡ false → (s : ℕ) → bit_of p.bits s ≡ false
  pub covered : length p.bits ≤ length p.rows.records

abbrev pub AllTell : (Piece → Bool) → List Piece → Type 0
AllTell keep [] = Unit {0}
AllTell keep (p ∷ ps) = Tells keep p × AllTell keep ps

show_append : (ss : List Segment) (n : ℕ) (xs ys : List Row) (ps qs : List Piece) → AllShow ss n xs ps → AllShow ss n ys qs → AllShow ss n (xs ++ ys) (ps ++ qs)
show_append ss n [] ys [] qs a b = b
show_append ss n [] ys (p ∷ ps) qs a b = absurd a
show_append ss n (x ∷ xs) ys [] qs a b = absurd a
show_append ss n (x ∷ xs) ys (p ∷ ps) qs a b = (a.0, show_append ss n xs ys ps qs a.1 b)

right : (b : Bool) → differ b false ≡ b
right true = refl
right false = refl

module _ (old new : List Segment) (count n : ℕ) (row : Row) (p : Piece) (is : IsRow old count row) (shows : Shows old n row p) (same : records_at new row.segment ≡ records_at old row.segment) where
  abbrev slots : List ℕ
  slots = slots_where (bit row n) (length (records_at old row.segment))

  past : length p.bits ≤ length p.rows.records → (s : ℕ) → length (records_at old row.segment) ≤ s → bit_of p.bits s ≡ false
  past covered s h = let e = shown_shorter old n row p shows in get_or_past p.bits s false (omega (arith, covered, e, h))

  taken : (keep : Piece → Bool) → Tells keep p → keep p ≡ true → (xs : List ℕ) → slots_where (bit row n) (length (records_at old row.segment)) ≡ xs → AllShow new 0 (row_of row.segment xs) (p ∷ [])
  taken keep tells k [] e =
      let live = tells.some k in
      absurd (gone live.0 live.1 (cases_lt live.0 (length (records_at old row.segment))))
    where
      gone : (s : ℕ) → bit_of p.bits s ≡ true → (s < length (records_at old row.segment)) ⊎ (length (records_at old row.segment) ≤ s) → ⊥
      gone s t (inl l) = false≢true (ap (λ xs. has xs s) (sym e) ∙ has_where (bit row n) (length (records_at old row.segment)) s l ∙ sym (shows.bits s) ∙ t)
      gone s t (inr g) = false≢true (sym (past tells.covered s g) ∙ t)
  taken keep tells k (x ∷ xs) e = (
    record {
      segment = shows.segment;
      front = ap (take (length p.rows.records)) same ∙ shows.front;
      bits = λ s. at s (cases_lt s (length (records_at old row.segment)));
      past = λ s h. sym (at s (cases_lt s (length (records_at old row.segment)))) ∙ shows.bits s ∙ shows.past s h;
    },
    tt,
  )
    where
      at : (s : ℕ) → (s < length (records_at old row.segment)) ⊎ (length (records_at old row.segment) ≤ s) → bit_of p.bits s ≡ differ (has (x ∷ xs) s) false
      at s (inl l) = shows.bits s ∙ sym (has_where (bit row n) (length (records_at old row.segment)) s l) ∙ ap (λ ys. has ys s) e ∙ sym (right (has (x ∷ xs) s))
      at s (inr g) = past tells.covered s g ∙ sym (has_past (bit row n) (length (records_at old row.segment)) s g) ∙ ap (λ ys. has ys s) e ∙ sym (right (has (x ∷ xs) s))

  -- no slot where nothing is live
  empty : (keep : Piece → Bool) → Tells keep p → keep p ≡ false → slots_where (bit row n) (length (records_at old row.segment)) ≡ []
  empty keep tells k =
      let zero_is : length (records_at old row.segment) ≡ 0 + length (records_at old row.segment) = omega arith in
      ap (slots_where (bit row n)) zero_is ∙ slots_stop (bit row n) 0 (length (records_at old row.segment)) (λ s h. sym (shows.bits s) ∙ tells.none k s)

  pub one_begun : (keep : Piece → Bool) → Tells keep p → (rows : List Row) (ps : List Piece) → AllShow new 0 rows (filter keep ps) → AllShow new 0 (carried old n row ++ rows) (filter keep (p ∷ ps))
  one_begun keep tells rows ps rest = by (cases_Bool (keep p))
    where
      by : (keep p ≡ true) ⊎ (keep p ≡ false) → AllShow new 0 (carried old n row ++ rows) (cond (keep p) (p ∷ filter keep ps) (filter keep ps))
      by (inl t) =
          subst (λ b. AllShow new 0 (carried old n row ++ rows) (cond b (p ∷ filter keep ps) (filter keep ps))) (sym t)
          (show_append new 0 (carried old n row) rows (p ∷ []) (filter keep ps) (taken keep tells t (slots_where (bit row n) (length (records_at old row.segment))) refl) rest)
      by (inr f) =
          subst (λ b. AllShow new 0 (carried old n row ++ rows) (cond b (p ∷ filter keep ps) (filter keep ps))) (sym f)
          (subst (λ xs. AllShow new 0 (row_of row.segment xs ++ rows) (filter keep ps)) (sym (empty keep tells f)) rest)

pub kept_begun : (old new : List Segment) (count n : ℕ) (keep : Piece → Bool) (rows : List Row) (ps : List Piece) → AreRows old count rows → AllShow old n rows ps → AllTell keep ps → ((s : ℕ) → s < length old → records_at new s ≡ records_at old s)
    → AllShow new 0 (flat_map (carried old n) rows) (filter keep ps)
kept_begun old new count n keep [] [] all shown tell same = tt
kept_begun old new count n keep [] (p ∷ ps) all shown tell same = absurd shown
kept_begun old new count n keep (row ∷ rows) [] all shown tell same = absurd shown
kept_begun old new count n keep (row ∷ rows) (p ∷ ps) all shown tell same =
    let first = first_is old count row rows all in
    one_begun old new count n row p first shown.0 (same row.segment first.there) keep tell.0 (flat_map (carried old n) rows) ps (kept_begun old new count n keep rows ps (rest_are old count row rows all) shown.1 tell.1 same)

-- with an empty head they are the parts of the new branch
pub pieces_begun : (q : Bool) (b c n count : ℕ) (ss : List Segment) (keep : Piece → Bool) (rows : List Row) (ps : List Piece) (head : Piece) → AreRows ss count rows → AllShow ss n rows ps → AllTell keep ps
    → head.segment ≡ new_head q ss → head.rows.records ≡ [] → head.bits ≡ [] → AllShow (segments_with q b c ss) 0 (rows_begun q n ss rows) (filter keep ps ++ head ∷ [])
pieces_begun q b c n count ss keep rows ps head all shown tell s r e =
    show_append (segments_with q b c ss) 0 (flat_map (carried ss n) rows) (head_row (new_head q ss) 0 ∷ []) (filter keep ps) (head ∷ [])
    (kept_begun ss (segments_with q b c ss) count n keep rows ps all shown tell (with_same q b c ss))
    (record { segment = s; front = ap (λ (xs : List Record). take (length xs) (records_at (segments_with q b c ss) (new_head q ss))) r ∙ sym r; bits = λ k. ap (λ (xs : List Bool). bit_of xs k) e; past = λ k h. refl }, tt)

-- ---- what there is of a relation of the new branch

shown_rises : (ss : List Segment) (n low : ℕ) (rows : List Row) (ps : List Piece) → AllShow ss n rows ps → rises low ps ≡ row_rises low rows
shown_rises ss n low [] [] s = refl
shown_rises ss n low [] (p ∷ ps) s = absurd s
shown_rises ss n low (row ∷ rows) [] s = absurd s
shown_rises ss n low (row ∷ rows) (p ∷ ps) s =
    (λ i. nat_le low (s.0.segment i) && rises (suc (s.0.segment i)) ps)
    ∙ ap (λ b. nat_le low row.segment && b) (shown_rises ss n (suc row.segment) rows ps s.1)

pub lived_begun : (q : Bool) (b c n count : ℕ) (ss : List Segment) (rows : List Row) (l : Lived) (head : Piece) → n < count → AreRows ss count rows → AreRowsOf (segments_with q b c ss) c 1 (rows_begun q n ss rows)
    → IsLived l → AllShow ss n rows l.pieces → AllTell has_live l.pieces → head.segment ≡ new_head q ss → head.rows.records ≡ [] → head.bits ≡ []
    → length (begun_pieces l.pieces head) < 2 ^ 32 - 1
    → ((i : ℕ) → i < length (begun_pieces l.pieces head) → length (piece_at (begun_pieces l.pieces head) i).bits ≤ length (piece_at (begun_pieces l.pieces head) i).rows.records)
    → IsLived (record { pieces = begun_pieces l.pieces head; places = l.places; count = l.count })
lived_begun q b c n count ss rows l head below before after lived shown tell s r e few covered = record {
  ascend = shown_rises (segments_with q b c ss) 0 0 (rows_begun q n ss rows) (begun_pieces l.pieces head) shows ∙ after.ascend;
  apart = λ key. subst (λ xs. times key xs ≤ 1) (sym (shown_rows (segments_with q b c ss) 0 (rows_begun q n ss rows) (begun_pieces l.pieces head) shows)) (after.apart 0 key (omega arith));
  placed = λ key.
      lived.placed key
      ∙ shown_place ss n rows l.pieces key shown
      ∙ sym (index_begun q b c n count ss rows key before)
      ∙ sym (shown_place (segments_with q b c ss) 0 (rows_begun q n ss rows) (begun_pieces l.pieces head) key shows);
  counted =
      lived.counted
      ∙ ap (λ xs. finite.len (contents_of xs))
      (shown_rows ss n rows l.pieces shown
      ∙ sym (rows_begun_keep q b c n count ss rows before)
      ∙ sym (shown_rows (segments_with q b c ss) 0 (rows_begun q n ss rows) (begun_pieces l.pieces head) shows));
  few = few;
  covered = covered;
}
  where
    shows : AllShow (segments_with q b c ss) 0 (rows_begun q n ss rows) (begun_pieces l.pieces head)
    shows = pieces_begun q b c n count ss has_live rows l.pieces head before shown tell s r e

-- ---- the test of a piece tells

some_true : (bits : List Bool) → 0 < count_true bits → (s : ℕ) × (bit_of bits s ≡ true)
some_true [] h = absurd (omega (arith, h))
some_true (true ∷ bs) h = (0, refl)
some_true (false ∷ bs) h = let r = some_true bs (omega (arith, h)) in (suc r.0, r.1)

pub none_true : (bits : List Bool) → count_true bits ≡ 0 → (s : ℕ) → bit_of bits s ≡ false
none_true [] e s = refl
none_true (true ∷ bs) e s = let n : count_true (true ∷ bs) ≡ 1 + count_true bs = sum_by-cons (λ b. cond b 1 0) true bs in absurd (omega (arith, n, e))
none_true (false ∷ bs) e zero = refl
none_true (false ∷ bs) e (suc s) = none_true bs (omega (arith, e)) s

live_tells : (p : Piece) → length p.bits ≤ length p.rows.records → Tells has_live p
live_tells p covered = record {
  some = λ t. some_true p.bits (ltb-true 0 (count_true p.bits) t);
  none = λ f. none_true p.bits (let h = ltb-false 0 (count_true p.bits) f in omega (arith, h));
  covered = covered;
}

pub all_tell : (ps : List Piece) → ((i : ℕ) → i < length ps → length (piece_at ps i).bits ≤ length (piece_at ps i).rows.records) → AllTell has_live ps
all_tell [] f = tt
all_tell (p ∷ ps) f = (live_tells p (f 0 (omega arith)), all_tell ps (λ i h. f (suc i) (omega (arith, h))))
