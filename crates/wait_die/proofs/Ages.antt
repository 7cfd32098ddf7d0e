-- Older transactions: their order, and that it stays when others begin or end.
use Rattle.std.proofs.Common.{◌≡◌, ◌⊎◌, inl, inr, ⊎_elim, ℕ, ◌==◌, not, Bool, true, false, cond, List, [], ◌∷◌, ◌++◌, filter, refl, sym, ◌∙◌}
use Rattle.std.proofs.lemmas.Bool.{eqb-true, eqb-false, true≢false, false≢true}
use Rattle.lock_table.specs.Grants.{Has}
use Rattle.wait_die.specs.Waiting.{is_older, is_other}

-- no transaction is older than itself
pub not_older : (ss : List ℕ) (a : ℕ) → is_older ss a a ≡ false
not_older [] a = refl
not_older (s ∷ ss) a = at (s == a) (not_older ss a)
  where
    at : (b : Bool) → is_older ss a a ≡ false → cond b false (cond b true (is_older ss a a)) ≡ false
    at true h = refl
    at false h = h

-- what is older than an older one is older
pub older_older : (ss : List ℕ) (a b c : ℕ) → is_older ss a b ≡ true → is_older ss b c ≡ true → is_older ss a c ≡ true
older_older [] a b c h k = h
older_older (s ∷ ss) a b c h k = at (s == a) (s == b) (s == c) (older_older ss a b c) h k
  where
    at : (x y z : Bool) → (is_older ss a b ≡ true → is_older ss b c ≡ true → is_older ss a c ≡ true)
        → cond y false (cond x true (is_older ss a b)) ≡ true → cond z false (cond y true (is_older ss b c)) ≡ true → cond z false (cond x true (is_older ss a c)) ≡ true
    at x y true f h k = k
    at x true false f h k = absurd (false≢true h)
    at true false false f h k = refl
    at false false false f h k = f h k

-- an older transaction is open
pub older_has : (ss : List ℕ) (a b : ℕ) → is_older ss a b ≡ true → Has ss a
older_has [] a b h = absurd (false≢true h)
older_has (s ∷ ss) a b h = at (s == a) refl (s == b) (older_has ss a b) h
  where
    at : (x : Bool) → (s == a) ≡ x → (y : Bool) → (is_older ss a b ≡ true → Has ss a) → cond y false (cond x true (is_older ss a b)) ≡ true → Has (s ∷ ss) a
    at x e true f h = absurd (false≢true h)
    at true e false f h = inl (eqb-true s a e)
    at false e false f h = inr (f h)

-- if an open transaction isn't older than another session, then the other's is older
pub other_older : (ss : List ℕ) (a b : ℕ) → (a ≡ b → ⊥) → Has ss b → is_older ss b a ≡ false → is_older ss a b ≡ true
other_older [] a b n h k = absurd h
other_older (s ∷ ss) a b n h k = at (s == a) refl (s == b) refl (λ (i : Has ss b). other_older ss a b n i) k
  where
    at : (x : Bool) → (s == a) ≡ x → (y : Bool) → (s == b) ≡ y → (Has ss b → is_older ss b a ≡ false → is_older ss a b ≡ true) → cond x false (cond y true (is_older ss b a)) ≡ false → cond y false (cond x true (is_older ss a b)) ≡ true
    at true e true f g k = absurd (n (sym (eqb-true s a e) ∙ eqb-true s b f))
    at true e false f g k = refl
    at false e true f g k = absurd (true≢false k)
    at false e false f g k = g (⊎_elim (λ (i : s ≡ b). absurd (eqb-false s b f i)) (λ (i : Has ss b). i) h) k

-- it stays so when others begin
pub older_more : (ss ts : List ℕ) (a b : ℕ) → is_older ss a b ≡ true → is_older (ss ++ ts) a b ≡ true
older_more [] ts a b h = absurd (false≢true h)
older_more (s ∷ ss) ts a b h = at (s == a) (s == b) (older_more ss ts a b) h
  where
    at : (x y : Bool) → (is_older ss a b ≡ true → is_older (ss ++ ts) a b ≡ true)
        → cond y false (cond x true (is_older ss a b)) ≡ true → cond y false (cond x true (is_older (ss ++ ts) a b)) ≡ true
    at x true f h = absurd (false≢true h)
    at true false f h = refl
    at false false f h = f h

-- and when one of the others ends
pub older_left : (t : ℕ) (ss : List ℕ) (a b : ℕ) → (a ≡ t → ⊥) → (b ≡ t → ⊥) → is_older ss a b ≡ true → is_older (filter (is_other t) ss) a b ≡ true
older_left t [] a b n m h = h
older_left t (s ∷ ss) a b n m h = at (s == t) refl (older_left t ss a b n m)
  where
    skip : (x : Bool) → (s == a) ≡ x → (y : Bool) → (s == b) ≡ y → s ≡ t → cond y false (cond x true (is_older ss a b)) ≡ true → is_older ss a b ≡ true
    skip x e true f i h = absurd (false≢true h)
    skip true e false f i h = absurd (n (sym (eqb-true s a e) ∙ i))
    skip false e false f i h = h

    keep : (x y : Bool) → (is_older ss a b ≡ true → is_older (filter (is_other t) ss) a b ≡ true)
        → cond y false (cond x true (is_older ss a b)) ≡ true → cond y false (cond x true (is_older (filter (is_other t) ss) a b)) ≡ true
    keep x true f h = absurd (false≢true h)
    keep true false f h = refl
    keep false false f h = f h

    at : (z : Bool) → (s == t) ≡ z → (is_older ss a b ≡ true → is_older (filter (is_other t) ss) a b ≡ true)
        → is_older (cond (not z) (s ∷ filter (is_other t) ss) (filter (is_other t) ss)) a b ≡ true
    at true e f = f (skip (s == a) refl (s == b) refl (eqb-true s t e) h)
    at false e f = keep (s == a) (s == b) f h
