-- What one visit leaves in the marks, for one of the two sides.
use Rattle.std.proofs.Common.{◌≡◌, ◌⊎◌, inl, inr, ⊎_elim, ℕ, suc, zero, ◌+◌, ◌-◌, ◌<◌, ◌≤◌, nat_lt, cond, Bool, true, false, ◌||◌, List, [], ◌∷◌, length, get_or, set, replicate, refl, sym, ap, ◌∙◌, subst, arith}
use Rattle.std.specs.List.{Contains}
use Rattle.std.proofs.lemmas.Bool.{cases_lt, cases_eq, ltb-false, le-ltb, or_left, or_right, or_cases, cond-false}
use Rattle.std.proofs.lemmas.List.{get_or-set_same, get_or-set_other, set_past, length-set}
use Rattle.version_graph.specs.declared.marks.Mark.{Mark}
use Rattle.version_graph.specs.Marked.{unmarked, either, marked, all_marked}

-- a side, as a test of a mark
pub record IsSide (s : Mark → Bool) : Type 0 where
  pub of_either : (m n : Mark) → s (either m n) ≡ (s m || s n)
  pub of_none : s unmarked ≡ false

-- the version has a mark of this side; the first mark is that of the version `low`
abbrev pub at : (Mark → Bool) → List Mark → ℕ → Bool
at s marks i = s (get_or marks i unmarked)

-- one write
written : (s : Mark → Bool) → IsSide s → (m : Mark) (marks : List Mark) (j i : ℕ) → (P : Bool → Type 0) → ((i ≡ j) → j < length marks → P (at s marks i || s m)) → P (at s marks i)
    → P (at s (set marks j (either (get_or marks j unmarked) m)) i)
written s side m marks j i P f g = ⊎_elim
    (λ (e : i ≡ j). ⊎_elim
    (λ (lt : j < length marks). subst P (sym (ap (at s (set marks j (either (get_or marks j unmarked) m))) e ∙ ap s (get_or-set_same marks j (either (get_or marks j unmarked) m) unmarked lt) ∙ side.of_either (get_or marks j unmarked) m ∙ ap (λ (k : ℕ). at s marks k || s m) (sym e))) (f e lt))
    (λ (le : length marks ≤ j). subst P (sym (ap (λ (xs : List Mark). at s xs i) (set_past marks j (either (get_or marks j unmarked) m) le))) g)
    (cases_lt j (length marks)))
    (λ (n : i ≡ j → ⊥). subst P (sym (ap s (get_or-set_other marks j i (either (get_or marks j unmarked) m) unmarked n))) g)
    (cases_eq i j)

pub length-marked : (low : ℕ) (m : Mark) (v : ℕ) (marks : List Mark) → length (marked low m v marks) ≡ length marks
length-marked low m v marks = go (nat_lt v low)
  where
    go : (b : Bool) → length (cond b marks (set marks (v - low) (either (get_or marks (v - low) unmarked) m))) ≡ length marks
    go true = refl
    go false = length-set marks (v - low) (either (get_or marks (v - low) unmarked) m)

-- no mark is lost
pub marked_kept : (s : Mark → Bool) → IsSide s → (low : ℕ) (m : Mark) (v : ℕ) (marks : List Mark) (i : ℕ) → at s marks i ≡ true → at s (marked low m v marks) i ≡ true
marked_kept s side low m v marks i h = go (nat_lt v low)
  where
    go : (b : Bool) → at s (cond b marks (set marks (v - low) (either (get_or marks (v - low) unmarked) m))) i ≡ true
    go true = h
    go false = written s side m marks (v - low) i (λ b. b ≡ true) (λ e lt. or_left (at s marks i) (s m) h) h

-- the version is marked
pub marked_new : (s : Mark → Bool) → IsSide s → (low : ℕ) (m : Mark) (v : ℕ) (marks : List Mark) (i : ℕ) → low + i ≡ v → i < length marks → s m ≡ true → at s (marked low m v marks) i ≡ true
marked_new s side low m v marks i e lt h =
    let le : low ≤ v = omega (arith, e) in
    let j : v - low ≡ i = omega (arith, e) in
    ap (λ (xs : List Mark). at s xs i) (cond-false (nat_lt v low) marks (set marks (v - low) (either (get_or marks (v - low) unmarked) m)) (le-ltb v low le))
    ∙ ap (λ (k : ℕ). at s (set marks k (either (get_or marks k unmarked) m)) i) j
    ∙ ap s (get_or-set_same marks i (either (get_or marks i unmarked) m) unmarked lt)
    ∙ side.of_either (get_or marks i unmarked) m
    ∙ or_right (at s marks i) (s m) h

-- a mark was there, or is the new one
pub marked_from : (s : Mark → Bool) → IsSide s → (low : ℕ) (m : Mark) (v : ℕ) (marks : List Mark) (i : ℕ) → at s (marked low m v marks) i ≡ true → (at s marks i ≡ true) ⊎ ((s m ≡ true) × (v ≡ low + i))
marked_from s side low m v marks i = go (nat_lt v low) refl
  where
    go : (b : Bool) → nat_lt v low ≡ b → at s (cond b marks (set marks (v - low) (either (get_or marks (v - low) unmarked) m))) i ≡ true → (at s marks i ≡ true) ⊎ ((s m ≡ true) × (v ≡ low + i))
    go true e h = inl h
    go false e h =
        let le : low ≤ v = ltb-false v low e in
        written s side m marks (v - low) i (λ b. b ≡ true → (at s marks i ≡ true) ⊎ ((s m ≡ true) × (v ≡ low + i)))
        (λ same lt k. ⊎_elim (λ (a : at s marks i ≡ true). inl a) (λ (a : s m ≡ true). inr (a, omega (arith, same, le))) (or_cases (at s marks i) (s m) k))
        (λ k. inl k)
        h

pub contains_cases : {X : Type 0} (x : X) (xs : List X) (y : X) → Contains (x ∷ xs) y → (x ≡ y) ⊎ Contains xs y
contains_cases x xs y h = go h.0 h.1 h.2
  where
    go : (k : ℕ) → k < length (x ∷ xs) → get_or (x ∷ xs) k y ≡ y → (x ≡ y) ⊎ Contains xs y
    go zero lt e = inl e
    go (suc k) lt e = inr (k, omega (arith, lt), e)

pub contains_first : {X : Type 0} (x : X) (xs : List X) (y : X) → x ≡ y → Contains (x ∷ xs) y
contains_first x xs y e = (0, omega arith, e)

pub contains_rest : {X : Type 0} (x : X) (xs : List X) (y : X) → Contains xs y → Contains (x ∷ xs) y
contains_rest x xs y h = (suc h.0, (let lt = h.1 in omega (arith, lt)), h.2)

pub length-all_marked : (low : ℕ) (m : Mark) (vs : List ℕ) (marks : List Mark) → length (all_marked low m vs marks) ≡ length marks
length-all_marked low m [] marks = refl
length-all_marked low m (v ∷ vs) marks = length-all_marked low m vs (marked low m v marks) ∙ length-marked low m v marks

pub all_kept : (s : Mark → Bool) → IsSide s → (low : ℕ) (m : Mark) (vs : List ℕ) (marks : List Mark) (i : ℕ) → at s marks i ≡ true → at s (all_marked low m vs marks) i ≡ true
all_kept s side low m [] marks i h = h
all_kept s side low m (v ∷ vs) marks i h = all_kept s side low m vs (marked low m v marks) i (marked_kept s side low m v marks i h)

pub all_new : (s : Mark → Bool) → IsSide s → (low : ℕ) (m : Mark) (vs : List ℕ) (marks : List Mark) (i : ℕ) → Contains vs (low + i) → i < length marks → s m ≡ true → at s (all_marked low m vs marks) i ≡ true
all_new s side low m [] marks i c lt h = let none = c.1 in absurd (omega (arith, none))
all_new s side low m (v ∷ vs) marks i c lt h = ⊎_elim
    (λ (e : v ≡ low + i). all_kept s side low m vs (marked low m v marks) i (marked_new s side low m v marks i (sym e) lt h))
    (λ (d : Contains vs (low + i)). all_new s side low m vs (marked low m v marks) i d (let n = length-marked low m v marks in omega (arith, n, lt)) h)
    (contains_cases v vs (low + i) c)

pub all_from : (s : Mark → Bool) → IsSide s → (low : ℕ) (m : Mark) (vs : List ℕ) (marks : List Mark) (i : ℕ) → at s (all_marked low m vs marks) i ≡ true → (at s marks i ≡ true) ⊎ ((s m ≡ true) × Contains vs (low + i))
all_from s side low m [] marks i h = inl h
all_from s side low m (v ∷ vs) marks i h = ⊎_elim
    (λ (a : at s (marked low m v marks) i ≡ true). ⊎_elim
    (λ (b : at s marks i ≡ true). inl b)
    (λ (b : (s m ≡ true) × (v ≡ low + i)). inr (b.0, contains_first v vs (low + i) b.1))
    (marked_from s side low m v marks i a))
    (λ (a : (s m ≡ true) × Contains vs (low + i)). inr (a.0, contains_rest v vs (low + i) a.1))
    (all_from s side low m vs (marked low m v marks) i h)

pub none_at : (s : Mark → Bool) → IsSide s → (n i : ℕ) → at s (replicate n unmarked) i ≡ false
none_at s side zero i = side.of_none
none_at s side (suc n) zero = side.of_none
none_at s side (suc n) (suc i) = none_at s side n i
