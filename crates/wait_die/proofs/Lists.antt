-- Which items a list has, after some were taken out or one was put in, and how many there can be.
use Rattle.std.proofs.Common.{◌≡◌, ◌⊎◌, inl, inr, ⊎_elim, ℕ, ◌≤◌, ◌==◌, suc, Bool, true, false, cond, not, List, [], ◌∷◌, ◌++◌, filter, length, refl, sym, ap, ◌∙◌, subst, arith}
use Rattle.std.proofs.lemmas.Bool.{eqb-true, eq-eqb, true≢false, false≢true, or_parts, or_cases}
use Rattle.lock_table.specs.Grants.{Has}
use Rattle.lock_table.proofs.Kept.{has_parts}
use Rattle.wait_die.specs.Waiting.{is_among, is_other}
use Rattle.wait_die.specs.Kept.{AllDiffer}

-- what is left was there, and passes the test
pub has_filtered : {A : Type 0} (p : A → Bool) (xs : List A) (x : A) → Has (filter p xs) x → Has xs x × (p x ≡ true)
has_filtered p [] x h = absurd h
has_filtered {A} p (y ∷ ys) x h = at (p y) refl (has_filtered p ys x) h
  where
    at : (b : Bool) → p y ≡ b → (Has (filter p ys) x → Has ys x × (p x ≡ true)) → Has (cond b (y ∷ filter p ys) (filter p ys)) x → Has (y ∷ ys) x × (p x ≡ true)
    at true e f h = ⊎_elim
        (λ (i : y ≡ x). (inl i, ap p (sym i) ∙ e))
        (λ (i : Has (filter p ys) x). (inr (f i).0, (f i).1))
        h
    at false e f h = (inr (f h).0, (f h).1)

-- what passes the test is left
pub filtered_has : {A : Type 0} (p : A → Bool) (xs : List A) (x : A) → Has xs x → p x ≡ true → Has (filter p xs) x
filtered_has p [] x h t = absurd h
filtered_has {A} p (y ∷ ys) x h t = at (p y) refl (λ (i : Has ys x). filtered_has p ys x i t)
  where
    at : (b : Bool) → p y ≡ b → (Has ys x → Has (filter p ys) x) → Has (cond b (y ∷ filter p ys) (filter p ys)) x
    at true e f = ⊎_elim (λ (i : y ≡ x). inl i) (λ (i : Has ys x). inr (f i)) h
    at false e f = ⊎_elim (λ (i : y ≡ x). absurd (true≢false (sym t ∙ ap p (sym i) ∙ e))) (λ (i : Has ys x). f i) h

pub among_has : (s : ℕ) (ss : List ℕ) → is_among s ss ≡ true → Has ss s
among_has s [] e = absurd (false≢true e)
among_has s (x ∷ xs) e = ⊎_elim
    (λ (a : (x == s) ≡ true). inl (eqb-true x s a))
    (λ (b : is_among s xs ≡ true). inr (among_has s xs b))
    (or_cases (x == s) (is_among s xs) e)

pub among_none : (s : ℕ) (ss : List ℕ) → is_among s ss ≡ false → Has ss s → ⊥
among_none s [] e h = h
among_none s (x ∷ xs) e h =
    let two = or_parts (x == s) (is_among s xs) e in
    ⊎_elim
    (λ (a : x ≡ s). true≢false (sym (eq-eqb x s a) ∙ two.0))
    (λ (b : Has xs s). among_none s xs two.1 b)
    h

pub other_is : (t s : ℕ) → (s ≡ t → ⊥) → is_other t s ≡ true
other_is t s n = at (s == t) refl
  where
    at : (b : Bool) → (s == t) ≡ b → not b ≡ true
    at true e = absurd (n (eqb-true s t e))
    at false e = refl

pub is_other_not : (t s : ℕ) → is_other t s ≡ true → s ≡ t → ⊥
is_other_not t s h e = false≢true (ap not (sym (eq-eqb s t e)) ∙ h)

pub differ_pushed : (ss : List ℕ) (s : ℕ) → AllDiffer ss → (Has ss s → ⊥) → AllDiffer (ss ++ s ∷ [])
differ_pushed [] s d n = (λ h. h, tt)
differ_pushed (x ∷ xs) s d n = (
  λ h. ⊎_elim (λ (i : Has xs x). d.0 i) (λ (i : Has (s ∷ []) x). ⊎_elim (λ (e : s ≡ x). n (inl (sym e))) (λ (j : ⊥). j) i) (has_parts xs (s ∷ []) x h),
  differ_pushed xs s d.1 (λ i. n (inr i)),
)

pub differ_filtered : (p : ℕ → Bool) (ss : List ℕ) → AllDiffer ss → AllDiffer (filter p ss)
differ_filtered p [] d = tt
differ_filtered p (x ∷ xs) d = at (p x) (differ_filtered p xs d.1)
  where
    at : (b : Bool) → AllDiffer (filter p xs) → AllDiffer (cond b (x ∷ filter p xs) (filter p xs))
    at true h = (λ i. d.0 (has_filtered p xs x i).0, h)
    at false h = h

-- the items of a list but for one
others : (ys : List ℕ) (x : ℕ) → Has ys x → (zs : List ℕ) × (suc (length zs) ≡ length ys) × ((z : ℕ) → Has ys z → (x ≡ z → ⊥) → Has zs z)
others [] x h = absurd h
others (y ∷ ys) x h = ⊎_elim
    (λ (e : y ≡ x). (ys, refl, λ z i n. ⊎_elim (λ (a : y ≡ z). absurd (n (sym e ∙ a))) (λ (b : Has ys z). b) i))
    (λ (g : Has ys x). let r = others ys x g in (y ∷ r.0, ap suc r.1, λ z i n. ⊎_elim (λ (a : y ≡ z). inl a) (λ (b : Has ys z). inr (r.2 z b n)) i))
    h

-- sessions of which no two are equal, each of them in a list, are at most as many as the list
pub at_most : (xs ys : List ℕ) → AllDiffer xs → ((z : ℕ) → Has xs z → Has ys z) → length xs ≤ length ys
at_most [] ys d f = omega arith
at_most (x ∷ xs) ys d f =
    let r = others ys x (f x (inl refl)) in
    let h = at_most xs r.0 d.1 (λ z i. r.2 z (f z (inr i)) (λ e. d.0 (subst (λ (y : ℕ). Has xs y) (sym e) i))) in
    omega (arith, h, r.1)
