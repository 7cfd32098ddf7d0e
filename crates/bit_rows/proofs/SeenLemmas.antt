-- The bits of a row by its history are those that the layout tells, and no longer than the records.
use Rattle.std.proofs.Common.{◌≡◌, ◌⊎◌, inl, inr, ℕ, zero, suc, ◌+◌, ◌-◌, ◌<◌, ◌≤◌, ◌==◌, ◌||◌, Bool, true, false, cond, List, [], ◌∷◌, ◌++◌, length, map, take, get_or, refl, arith, ap, sym, ◌∙◌, subst}
use Rattle.std.proofs.Math.Nat.{max-le}
use Rattle.std.proofs.lemmas.Bool.{cases_lt, cases_Bool, eq-eqb, false≢true}
use Rattle.std.proofs.lemmas.List.{length-map, get_or-map, get_or_past, take_more, take-map}
use Rattle.std.proofs.lemmas.List.FromFn.{length-map-range_with_len}
use Rattle.record_page.specs.Page.{Rows}
use Rattle.plain_bits.specs.Truth.{bit_of}
use Rattle.commit_history.specs.Combined.{combined}
use Rattle.commit_history.specs.Sparse.{is_flipped}
use Rattle.commit_history.proofs.Exclusive.{bit-xor_of, length-xor_of}
use Rattle.db_store.specs.Layout.{differ, has, bit, combined as combined_slots}
use Rattle.db_store.proofs.BitLemmas.{has_where, has_past, combined_push}
use Rattle.hybrid_view.specs.Deltas.{slots_of}
use Rattle.bit_rows.specs.Short.{end_of, shortest}
use Rattle.bit_rows.specs.Rows.{KeptRow, laid_row}
use Rattle.hybrid_view.specs.Live.{Piece}
use Rattle.bit_rows.specs.Segments.{KeptRecords}
use Rattle.bit_rows.specs.Seen.{deltas_until, piece_seen, piece_of_row, is_begun, begun_by, pieces_seen}
use Rattle.bit_rows.proofs.ChangedLemmas.{same_differ}

-- ---- bits

-- the slots of a bitmap tell its bits
pub has_slots : (d : List Bool) (slot : ℕ) → has (slots_of d) slot ≡ bit_of d slot
has_slots d slot = by (cases_lt slot (length d))
  where
    by : (slot < length d) ⊎ (length d ≤ slot) → has (slots_of d) slot ≡ bit_of d slot
    by (inl l) = has_where (bit_of d) (length d) slot l
    by (inr g) = has_past (bit_of d) (length d) slot g ∙ sym (get_or_past d slot false g)

-- so do those of deltas
bit_combined : (ds : List (List Bool)) (slot : ℕ) → bit_of (combined ds) slot ≡ combined_slots (map slots_of ds) slot
bit_combined [] slot = get_or_past [] slot false (omega arith)
bit_combined (d ∷ ds) slot =
    bit-xor_of d (combined ds) slot
    ∙ same_differ (bit_of d slot) (bit_of (combined ds) slot)
    ∙ (λ i. differ (sym (has_slots d slot) i) (bit_combined ds slot i))

-- the bits of a row at a position
pub bits_seen : (own : Rows) (n : ℕ) (row : KeptRow) (slot : ℕ) → bit_of (piece_seen own n row).bits slot ≡ bit (laid_row row) n slot
bits_seen own n row slot =
    bit_combined (take (deltas_until n row) row.deltas) slot
    ∙ ap (λ (ds : List (List ℕ)). combined_slots ds slot) (sym (take-map slots_of (deltas_until n row) row.deltas))

-- ---- how long they are

-- where no bit past a number is ever set, no delta turns one
turned_within : (ds : List (List ℕ)) (most : ℕ) → ((m s : ℕ) → combined_slots (take m ds) s ≡ true → s < most) → (j s : ℕ) → j < length ds → has (get_or ds j []) s ≡ true → s < most
turned_within ds most f j s h t = by (cases_Bool (combined_slots (take j ds) s))
  where
    more : combined_slots (take (j + 1) ds) s ≡ differ (combined_slots (take j ds) s) (has (get_or ds j []) s)
    more = ap (λ (xs : List (List ℕ)). combined_slots xs s) (take_more ds j [] h) ∙ combined_push (take j ds) (get_or ds j []) s

    by : (combined_slots (take j ds) s ≡ true) ⊎ (combined_slots (take j ds) s ≡ false) → s < most
    by (inl b) = f j s b
    by (inr b) = f (j + 1) s (more ∙ (λ i. differ (b i) (t i)))

or_left : (a b : Bool) → a ≡ true → (a || b) ≡ true
or_left true b e = refl
or_left false b e = absurd (false≢true e)

or_right : (a b : Bool) → b ≡ true → (a || b) ≡ true
or_right true b e = refl
or_right false b e = e

end_within : (xs : List ℕ) (most : ℕ) → ((s : ℕ) → has xs s ≡ true → s < most) → end_of xs ≤ most
end_within [] most f = omega arith
end_within (x ∷ []) most f = let h = f x (or_left (x == x) false (eq-eqb x x refl)) in omega (arith, h)
end_within (x ∷ y ∷ ys) most f = end_within (y ∷ ys) most (λ s t. f s (or_right (x == s) (has (y ∷ ys) s) t))

delta_within : (d : List Bool) (most : ℕ) → shortest (slots_of d) ≡ d → ((s : ℕ) → has (slots_of d) s ≡ true → s < most) → length d ≤ most
delta_within d most short f =
    let n = length-map-range_with_len (is_flipped (slots_of d)) 0 (end_of (slots_of d)) in
    let e = ap (λ (b : List Bool). length b) short in
    let w = end_within (slots_of d) most f in
    omega (arith, n, e, w)

combined_within : (m : ℕ) (ds : List (List Bool)) (most : ℕ) → ((j : ℕ) → j < length ds → length (get_or ds j []) ≤ most) → length (combined (take m ds)) ≤ most
combined_within zero ds most f = omega arith
combined_within (suc m) [] most f = omega arith
combined_within (suc m) (d ∷ ds) most f =
    let a : length d ≤ most = f 0 (omega arith) in
    let b : length (combined (take m ds)) ≤ most = combined_within m ds most (λ j h. f (suc j) (omega (arith, h))) in
    subst (λ k. k ≤ most) (sym (length-xor_of d (combined (take m ds)))) (max-le a b)

-- the bits of a row at a position are no longer than the records that may be live in it
pub covered_seen : (own : Rows) (n : ℕ) (row : KeptRow) (most : ℕ) → map shortest (map slots_of row.deltas) ≡ row.deltas → ((k slot : ℕ) → bit (laid_row row) k slot ≡ true → slot < most) → length (piece_seen own n row).bits ≤ most
covered_seen own n row most short within = combined_within (deltas_until n row) row.deltas most one
  where
    at : (m s : ℕ) → combined_slots (take m (map slots_of row.deltas)) s ≡ true → s < most
    at zero s t = absurd (false≢true t)
    at (suc m) s t =
        let e : suc m ≡ suc (row.from + m) - row.from = omega arith in
        within (row.from + m) s (subst (λ k. combined_slots (take k (map slots_of row.deltas)) s ≡ true) e t)

    one : (j : ℕ) → j < length row.deltas → length (get_or row.deltas j []) ≤ most
    one j h =
        let n = length-map row.deltas slots_of in
        let slots : get_or (map slots_of row.deltas) j [] ≡ slots_of (get_or row.deltas j []) = get_or-map slots_of row.deltas j [] [] h in
        delta_within (get_or row.deltas j []) most
        (ap shortest (sym slots) ∙ sym (get_or-map shortest (map slots_of row.deltas) j [] [] (omega (arith, n, h))) ∙ ap (λ (ds : List (List Bool)). get_or ds j []) short)
        (λ s t. turned_within (map slots_of row.deltas) most at j s (omega (arith, n, h)) (ap (λ (xs : List ℕ). has xs s) slots ∙ t))

-- ---- which rows have begun

-- one row more, which has begun or not
pub begun_push : (ks : List KeptRecords) (n : ℕ) (rows : List KeptRow) (x : KeptRow) → pieces_seen ks n (rows ++ x ∷ []) ≡ pieces_seen ks n rows ++ cond (is_begun n x) (piece_of_row ks n x ∷ []) []
begun_push ks n [] x = by (is_begun n x)
  where
    by : (b : Bool) → map (piece_of_row ks n) (cond b (x ∷ []) []) ≡ cond b (piece_of_row ks n x ∷ []) []
    by true = refl
    by false = refl
begun_push ks n (y ∷ ys) x = by (is_begun n y) (begun_push ks n ys x)
  where
    by : (b : Bool) → pieces_seen ks n (ys ++ x ∷ []) ≡ pieces_seen ks n ys ++ cond (is_begun n x) (piece_of_row ks n x ∷ []) []
        → map (piece_of_row ks n) (cond b (y ∷ begun_by n (ys ++ x ∷ [])) (begun_by n (ys ++ x ∷ []))) ≡ map (piece_of_row ks n) (cond b (y ∷ begun_by n ys) (begun_by n ys)) ++ cond (is_begun n x) (piece_of_row ks n x ∷ []) []
    by true e = ap (λ (ps : List Piece). piece_of_row ks n y ∷ ps) e
    by false e = e
