-- The rows of all locks, where one lock's grants change.
use Rattle.std.proofs.Common.{◌≡◌, ◌⊎◌, inl, inr, ⊎_elim, ℕ, ◌+◌, ◌<◌, ◌≤◌, ◌==◌, nat_lt, suc, zero, Bool, true, false, cond, not, ◌&&◌, ◌||◌, List, [], ◌∷◌, ◌++◌, map, filter, length, get_or, set, refl, sym, ap, ◌∙◌, subst, arith, append_assoc}
use Rattle.std.proofs.lemmas.Bool.{eqb-true, eq-eqb, ne_eqb, lt-ltb, le-ltb, and_parts, or_cases, and_right, cond-true, cond-false, false≢true}
use Rattle.std.proofs.lemmas.List.{map_push}
use Rattle.std.proofs.lemmas.List.Elements.{All-tail}
use Rattle.std.specs.List.{All, AllZip}
use Rattle.lock_table.specs.declared.need.Need.{Need}
use Rattle.lock_table.specs.declared.lock.Grant.{Grant}
use Rattle.lock_table.specs.Rows.{Row, blocks, holder}
use Rattle.lock_table.specs.Grants.{Has, row, equal_bits, is_row, is_there, place, granted, without}
use Rattle.lock_table.specs.Kept.{LockGrants, row_of, rows_from, has_grant, with_grant, is_of_other, without_grants, Grows}
use Rattle.lock_table.proofs.Least.{Blocking, same_least, holder_least}

pub has_left : {A : Type 0} (xs ys : List A) (a : A) → Has xs a → Has (xs ++ ys) a
has_left [] ys a h = absurd h
has_left (x ∷ xs) ys a h = ⊎_elim (λ (e : x ≡ a). inl e) (λ (g : Has xs a). inr (has_left xs ys a g)) h

pub has_right : {A : Type 0} (xs ys : List A) (a : A) → Has ys a → Has (xs ++ ys) a
has_right [] ys a h = h
has_right (x ∷ xs) ys a h = inr (has_right xs ys a h)

pub has_parts : {A : Type 0} (xs ys : List A) (a : A) → Has (xs ++ ys) a → Has xs a ⊎ Has ys a
has_parts [] ys a h = inr h
has_parts (x ∷ xs) ys a h = ⊎_elim (λ (e : x ≡ a). inl (inl e)) (λ (g : Has (xs ++ ys) a). ⊎_elim (λ (i : Has xs a). inl (inr i)) (λ (i : Has ys a). inr i) (has_parts xs ys a g)) h

on_lock : (l : ℕ) (gs : List Grant) (r : Row) → Has (map (row_of l) gs) r → r.need.lock ≡ l
on_lock l [] r h = absurd h
on_lock l (g ∷ gs) r h = ⊎_elim (λ (e : row_of l g ≡ r). ap (λ (x : Row). x.need.lock) (sym e)) (λ (k : Has (map (row_of l) gs) r). on_lock l gs r k) h

from_lock : (m : ℕ) (ks : List LockGrants) (r : Row) → Has (rows_from m ks) r → m ≤ r.need.lock
from_lock m [] r h = absurd h
from_lock m (k ∷ ks) r h = ⊎_elim
    (λ (a : Has (map (row_of m) k.grants) r). let e = on_lock m k.grants r a in omega (arith, e))
    (λ (a : Has (rows_from (suc m) ks) r). let e = from_lock (suc m) ks r a in omega (arith, e))
    (has_parts (map (row_of m) k.grants) (rows_from (suc m) ks) r h)

-- the rows of one lock are among those of all
pub part_has : (ks : List LockGrants) (i m l : ℕ) (d : LockGrants) (r : Row) → l ≡ m + i → i < length ks → Has (map (row_of l) (get_or ks i d).grants) r → Has (rows_from m ks) r
part_has [] i m l d r e lt h = absurd (omega arith)
part_has (k ∷ ks) zero m l d r e lt h = has_left (map (row_of m) k.grants) (rows_from (suc m) ks) r (let same : l ≡ m = omega (arith, e) in subst (λ (x : ℕ). Has (map (row_of x) k.grants) r) same h)
part_has (k ∷ ks) (suc i) m l d r e lt h = has_right (map (row_of m) k.grants) (rows_from (suc m) ks) r (part_has ks i (suc m) l d r (omega (arith, e)) (omega (arith, lt)) h)

-- a row of this lock is among its rows
pub has_part : (ks : List LockGrants) (i m l : ℕ) (d : LockGrants) (r : Row) → l ≡ m + i → i < length ks → r.need.lock ≡ l → Has (rows_from m ks) r → Has (map (row_of l) (get_or ks i d).grants) r
has_part [] i m l d r e lt s h = absurd (omega arith)
has_part (k ∷ ks) zero m l d r e lt s h = ⊎_elim
    (λ (a : Has (map (row_of m) k.grants) r). let same : m ≡ l = omega (arith, e) in subst (λ (x : ℕ). Has (map (row_of x) k.grants) r) same a)
    (λ (a : Has (rows_from (suc m) ks) r). let g = from_lock (suc m) ks r a in absurd (omega (arith, g, s, e)))
    (has_parts (map (row_of m) k.grants) (rows_from (suc m) ks) r h)
has_part (k ∷ ks) (suc i) m l d r e lt s h = ⊎_elim
    (λ (a : Has (map (row_of m) k.grants) r). let g = on_lock m k.grants r a in absurd (omega (arith, g, s, e)))
    (λ (a : Has (rows_from (suc m) ks) r). has_part ks i (suc m) l d r (omega (arith, e)) (omega (arith, lt)) s a)
    (has_parts (map (row_of m) k.grants) (rows_from (suc m) ks) r h)

blocks_on : (s : ℕ) (n : Need) (r : Row) → blocks s (n ∷ []) r ≡ true → r.need.lock ≡ n.lock
blocks_on s n r e = ⊎_elim
    (λ (a : (n.lock == r.need.lock && (n.exclusive || r.need.exclusive)) ≡ true). sym (eqb-true _ _ (and_parts _ _ a).0))
    (λ (a : false ≡ true). absurd (false≢true a))
    (or_cases _ _ (and_parts _ _ e).1)

-- who holds one need is read off the rows of its lock
pub holder_part : (s : ℕ) (n : Need) (ks : List LockGrants) (d : LockGrants) → n.lock < length ks
    → holder s (n ∷ []) (map (row_of n.lock) (get_or ks n.lock d).grants) ≡ holder s (n ∷ []) (rows_from 0 ks)
holder_part s n ks d lt = same_least
    (Blocking s (n ∷ []) (map (row_of n.lock) (get_or ks n.lock d).grants))
    (Blocking s (n ∷ []) (rows_from 0 ks))
    (λ q k. (k.0, part_has ks n.lock 0 n.lock d k.0 (omega arith) lt k.1, k.2, k.3))
    (λ q k. (k.0, has_part ks n.lock 0 n.lock d k.0 (omega arith) lt (blocks_on s n k.0 k.2) k.1, k.2, k.3))
    (holder s (n ∷ []) (map (row_of n.lock) (get_or ks n.lock d).grants))
    (holder s (n ∷ []) (rows_from 0 ks))
    (holder_least s (n ∷ []) (map (row_of n.lock) (get_or ks n.lock d).grants))
    (holder_least s (n ∷ []) (rows_from 0 ks))

or_more : (a b c d : Bool) → b ≡ (c || d) → (a || b) ≡ ((a || c) || d)
or_more true b c d e = refl
or_more false b c d e = e

there_append : (s : ℕ) (n : Need) (xs ys : List Row) → is_there s n (xs ++ ys) ≡ (is_there s n xs || is_there s n ys)
there_append s n [] ys = refl
there_append s n (x ∷ xs) ys = or_more (is_row s n x) (is_there s n (xs ++ ys)) (is_there s n xs) (is_there s n ys) (there_append s n xs ys)

abbrev pub grant_of : ℕ → Need → Grant
grant_of s n = record { session = s; exclusive = n.exclusive }

there_here : (s : ℕ) (n : Need) (l : ℕ) (gs : List Grant) → (l == n.lock) ≡ true → is_there s n (map (row_of l) gs) ≡ has_grant (grant_of s n) gs
there_here s n l [] e = refl
there_here s n l (g ∷ gs) e = λ i. (g.session == s && (e i && equal_bits g.exclusive n.exclusive)) || there_here s n l gs e i

false_or : (a b : Bool) → a ≡ false → b ≡ false → (a || b) ≡ false
false_or true b e h = e
false_or false b e h = h

there_other : (s : ℕ) (n : Need) (l : ℕ) (gs : List Grant) → (l == n.lock) ≡ false → is_there s n (map (row_of l) gs) ≡ false
there_other s n l [] e = refl
there_other s n l (g ∷ gs) e = false_or (is_row s n (row_of l g)) (is_there s n (map (row_of l) gs))
    (and_right (g.session == s) (l == n.lock && equal_bits g.exclusive n.exclusive) (ap (λ (b : Bool). b && equal_bits g.exclusive n.exclusive) e))
    (there_other s n l gs e)

there_above : (s : ℕ) (n : Need) (m : ℕ) (ks : List LockGrants) → n.lock < m → is_there s n (rows_from m ks) ≡ false
there_above s n m [] lt = refl
there_above s n m (k ∷ ks) lt = there_append s n (map (row_of m) k.grants) (rows_from (suc m) ks)
    ∙ false_or (is_there s n (map (row_of m) k.grants)) (is_there s n (rows_from (suc m) ks)) (there_other s n m k.grants (ne_eqb m n.lock (λ e. omega (arith, e, lt)))) (there_above s n (suc m) ks (omega (arith, lt)))

place_past : (r : Row) (l : ℕ) (gs : List Grant) (rest : List Row) → l ≤ r.need.lock → place r (map (row_of l) gs ++ rest) ≡ map (row_of l) gs ++ place r rest
place_past r l [] rest le = refl
place_past r l (g ∷ gs) rest le =
    cond-false (nat_lt r.need.lock l) (r ∷ row_of l g ∷ (map (row_of l) gs ++ rest)) (row_of l g ∷ place r (map (row_of l) gs ++ rest)) (le-ltb r.need.lock l le)
    ∙ ap (λ (t : List Row). row_of l g ∷ t) (place_past r l gs rest le)

place_front : (r : Row) (m : ℕ) (gs : List Grant) (rest : List Row) → r.need.lock < m → place r rest ≡ r ∷ rest → place r (map (row_of m) gs ++ rest) ≡ r ∷ (map (row_of m) gs ++ rest)
place_front r m [] rest lt h = h
place_front r m (g ∷ gs) rest lt h =
    cond-true (nat_lt r.need.lock m) (r ∷ row_of m g ∷ (map (row_of m) gs ++ rest)) (row_of m g ∷ place r (map (row_of m) gs ++ rest)) (lt-ltb r.need.lock m lt)

place_before : (r : Row) (m : ℕ) (ks : List LockGrants) → r.need.lock < m → place r (rows_from m ks) ≡ r ∷ rows_from m ks
place_before r m [] lt = refl
place_before r m (k ∷ ks) lt = place_front r m k.grants (rows_from (suc m) ks) lt (place_before r (suc m) ks (omega (arith, lt)))

granted_here : (s : ℕ) (n : Need) (m : ℕ) (gs : List Grant) (rest : List Row) → n.lock ≡ m → is_there s n rest ≡ false → place (row s n) rest ≡ row s n ∷ rest
    → granted s n (map (row_of m) gs ++ rest) ≡ map (row_of m) (cond (has_grant (grant_of s n) gs) gs (gs ++ grant_of s n ∷ [])) ++ rest
granted_here s n m gs rest e none first = at (has_grant (grant_of s n) gs) refl
  where
    is : is_there s n (map (row_of m) gs ++ rest) ≡ has_grant (grant_of s n) gs
    is = there_append s n (map (row_of m) gs) rest ∙ or_false (is_there s n (map (row_of m) gs)) (is_there s n rest) none ∙ there_here s n m gs (eq-eqb m n.lock (sym e))
      where
        or_false : (a b : Bool) → b ≡ false → (a || b) ≡ a
        or_false true b h = refl
        or_false false b h = h

    row_is : row_of m (grant_of s n) ≡ row s n
    row_is = λ i. record { session = s; need = record { lock = sym e i; exclusive = n.exclusive } }

    at : (b : Bool) → has_grant (grant_of s n) gs ≡ b → cond (is_there s n (map (row_of m) gs ++ rest)) (map (row_of m) gs ++ rest) (place (row s n) (map (row_of m) gs ++ rest)) ≡ map (row_of m) (cond (has_grant (grant_of s n) gs) gs (gs ++ grant_of s n ∷ [])) ++ rest
    at true h = cond-true _ _ _ (is ∙ h) ∙ ap (λ (xs : List Grant). map (row_of m) xs ++ rest) (sym (cond-true (has_grant (grant_of s n) gs) gs (gs ++ grant_of s n ∷ []) h))
    at false h = cond-false _ _ _ (is ∙ h)
        ∙ place_past (row s n) m gs rest (omega (arith, e))
        ∙ ap (λ (t : List Row). map (row_of m) gs ++ t) (first ∙ ap (λ (x : Row). x ∷ rest) (sym row_is))
        ∙ sym (append_assoc (map (row_of m) gs) (row_of m (grant_of s n) ∷ []) rest)
        ∙ ap (λ (t : List Row). t ++ rest) (sym (map_push (row_of m) gs (grant_of s n)))
        ∙ ap (λ (xs : List Grant). map (row_of m) xs ++ rest) (sym (cond-false (has_grant (grant_of s n) gs) gs (gs ++ grant_of s n ∷ []) h))

granted_past : (s : ℕ) (n : Need) (m : ℕ) (gs : List Grant) (rest : List Row) → m < n.lock → granted s n (map (row_of m) gs ++ rest) ≡ map (row_of m) gs ++ granted s n rest
granted_past s n m gs rest lt = at (is_there s n rest) refl
  where
    is : is_there s n (map (row_of m) gs ++ rest) ≡ is_there s n rest
    is = there_append s n (map (row_of m) gs) rest ∙ ap (λ (b : Bool). b || is_there s n rest) (there_other s n m gs (ne_eqb m n.lock (λ e. omega (arith, e, lt))))

    at : (b : Bool) → is_there s n rest ≡ b → cond (is_there s n (map (row_of m) gs ++ rest)) (map (row_of m) gs ++ rest) (place (row s n) (map (row_of m) gs ++ rest)) ≡ map (row_of m) gs ++ cond (is_there s n rest) rest (place (row s n) rest)
    at true h = cond-true _ _ _ (is ∙ h) ∙ ap (λ (t : List Row). map (row_of m) gs ++ t) (sym (cond-true (is_there s n rest) rest (place (row s n) rest) h))
    at false h = cond-false _ _ _ (is ∙ h)
        ∙ place_past (row s n) m gs rest (omega (arith, lt))
        ∙ ap (λ (t : List Row). map (row_of m) gs ++ t) (sym (cond-false (is_there s n rest) rest (place (row s n) rest) h))

-- a grant on one lock adds its row to those of all
pub granted_at : (s : ℕ) (n : Need) (ks : List LockGrants) (i m : ℕ) (d : LockGrants) → n.lock ≡ m + i → i < length ks
    → granted s n (rows_from m ks) ≡ rows_from m (set ks i (with_grant (grant_of s n) (get_or ks i d)))
granted_at s n [] i m d e lt = absurd (omega arith)
granted_at s n (k ∷ ks) zero m d e lt =
    let same : n.lock ≡ m = omega (arith, e) in
    granted_here s n m k.grants (rows_from (suc m) ks) same (there_above s n (suc m) ks (omega (arith, same))) (place_before (row s n) (suc m) ks (omega (arith, same)))
granted_at s n (k ∷ ks) (suc i) m d e lt = granted_past s n m k.grants (rows_from (suc m) ks) (omega (arith, e))
    ∙ ap (λ (t : List Row). map (row_of m) k.grants ++ t) (granted_at s n ks i (suc m) d (omega (arith, e)) (omega (arith, lt)))

without_append : (s : ℕ) (xs ys : List Row) → without s (xs ++ ys) ≡ without s xs ++ without s ys
without_append s [] ys = refl
without_append s (x ∷ xs) ys = at (x.session == s) (without_append s xs ys)
  where
    at : (b : Bool) → without s (xs ++ ys) ≡ without s xs ++ without s ys → cond b (without s (xs ++ ys)) (x ∷ without s (xs ++ ys)) ≡ cond b (without s xs) (x ∷ without s xs) ++ without s ys
    at true e = e
    at false e = ap (λ (t : List Row). x ∷ t) e

without_map : (s l : ℕ) (gs : List Grant) → map (row_of l) (filter (is_of_other s) gs) ≡ without s (map (row_of l) gs)
without_map s l [] = refl
without_map s l (g ∷ gs) = at (g.session == s) (without_map s l gs)
  where
    at : (b : Bool) → map (row_of l) (filter (is_of_other s) gs) ≡ without s (map (row_of l) gs) → map (row_of l) (cond (not b) (g ∷ filter (is_of_other s) gs) (filter (is_of_other s) gs)) ≡ cond b (without s (map (row_of l) gs)) (row_of l g ∷ without s (map (row_of l) gs))
    at true e = e
    at false e = ap (λ (t : List Row). row_of l g ∷ t) e

-- a release on each lock takes the session's rows from those of all
pub without_rows : (s m : ℕ) (ks : List LockGrants) → rows_from m (map (without_grants s) ks) ≡ without s (rows_from m ks)
without_rows s m [] = refl
without_rows s m (k ∷ ks) = (λ i. without_map s m k.grants i ++ without_rows s (suc m) ks i) ∙ sym (without_append s (map (row_of m) k.grants) (rows_from (suc m) ks))

-- more room changes no row
pub grown_rows : (m : ℕ) (old new : List LockGrants) → AllZip Grows old new → rows_from m new ≡ rows_from m old
grown_rows m [] [] h = refl
grown_rows m [] (k ∷ ks) h = absurd h
grown_rows m (k ∷ ks) [] h = absurd h
grown_rows m (k ∷ ks) (j ∷ js) h = λ i. map (row_of m) (h.0.0 i) ++ grown_rows (suc m) ks js h.1 i

-- locks with no grant have no row
pub empty_rows : (m : ℕ) (ks : List LockGrants) → All (λ k. k.grants ≡ []) ks → rows_from m ks ≡ []
empty_rows m [] h = refl
empty_rows m (k ∷ ks) h = let first : k.grants ≡ [] = h 0 k (omega arith) in λ i. map (row_of m) (first i) ++ empty_rows (suc m) ks (All-tail (λ k. k.grants ≡ []) k ks h) i
