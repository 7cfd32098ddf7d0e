-- A release passes over blocks in which no lock has a grant.
use Rattle.std.proofs.Common.{◌≡◌, ℕ, ◌<◌, ◌≤◌, suc, zero, Bool, List, [], ◌∷◌, ◌++◌, map, filter, take, drop, length, get_or, refl, sym, ap, ◌∙◌, arith}
use Rattle.std.proofs.lemmas.List.{length-map}
use Rattle.std.proofs.lemmas.List.Elements.{AllZip-get_or, length_all_zip}
use Rattle.std.specs.List.{AllZip}
use Rattle.lock_table.specs.Kept.{LockGrants, Grows, is_of_other, without_grants, IsMarked}

same_without : (s : ℕ) (k : LockGrants) → k.grants ≡ [] → k ≡ without_grants s k
same_without s k e = λ i. record { grants = (e ∙ ap (filter (is_of_other s)) (sym e)) i; room = k.room }

free_without : (s : ℕ) (k : LockGrants) → k.grants ≡ [] → (without_grants s k).grants ≡ []
free_without s k e = ap (filter (is_of_other s)) e

free_front : (s n : ℕ) (ks : List LockGrants) → ((k : ℕ) (d : LockGrants) → k < n → k < length ks → (get_or ks k d).grants ≡ [])
    → ks ≡ map (without_grants s) (take n ks) ++ drop n ks
free_front s zero ks h = refl
free_front s (suc n) [] h = refl
free_front s (suc n) (k ∷ ks) h =
    let first : k.grants ≡ [] = h 0 k (omega arith) (omega arith) in
    λ i. same_without s k first i ∷ free_front s n ks (λ j d lt inn. h (suc j) d (omega (arith, lt)) (omega (arith, inn))) i

-- locks without grants are as if they had been released
pub pass_over : (s i j : ℕ) (ks : List LockGrants) → i ≤ j → ((k : ℕ) (d : LockGrants) → i ≤ k → k < j → k < length ks → (get_or ks k d).grants ≡ [])
    → map (without_grants s) (take i ks) ++ drop i ks ≡ map (without_grants s) (take j ks) ++ drop j ks
pass_over s zero j ks le h = free_front s j ks (λ k d lt inn. h k d (omega arith) lt inn)
pass_over s (suc i) zero ks le h = absurd (omega (arith, le))
pass_over s (suc i) (suc j) [] le h = refl
pass_over s (suc i) (suc j) (k ∷ ks) le h =
    ap (λ (t : List LockGrants). without_grants s k ∷ t) (pass_over s i j ks (omega (arith, le)) (λ m d a b c. h (suc m) d (omega (arith, a)) (omega (arith, b)) (omega (arith, c))))

released_at : (s i : ℕ) (ks : List LockGrants) (d : LockGrants) → i < length ks → get_or (map (without_grants s) ks) i d ≡ without_grants s (get_or ks i d)
released_at s i [] d lt = absurd (omega arith)
released_at s zero (k ∷ ks) d lt = refl
released_at s (suc i) (k ∷ ks) d lt = released_at s i ks d (omega (arith, lt))

-- a release keeps the marks true
pub marked_released : (s : ℕ) (busy : List Bool) (ks : List LockGrants) → IsMarked busy ks → IsMarked busy (map (without_grants s) ks)
marked_released s busy ks m = record {
  count = length-map ks (without_grants s) ∙ m.count;
  blocks = m.blocks;
  idle = λ i d lt e.
      let within : i < length ks = let n = m.count in omega (arith, n, lt) in
      ap (λ (k : LockGrants). k.grants) (released_at s i ks d within) ∙ free_without s (get_or ks i d) (m.idle i d lt e);
}

-- and so does more room
pub marked_grown : (busy : List Bool) (old new : List LockGrants) → IsMarked busy old → AllZip Grows old new → IsMarked busy new
marked_grown busy old new m zip = record {
  count = sym (length_all_zip Grows old new zip) ∙ m.count;
  blocks = m.blocks;
  idle = λ i d lt e.
      let within : i < length old = let n = m.count in omega (arith, n, lt) in
      (AllZip-get_or Grows old new i d d zip within).0 ∙ m.idle i d lt e;
}

-- a flag that is there is read alike with each default
pub same_flag : (busy : List Bool) (i : ℕ) (d e : Bool) → i < length busy → get_or busy i d ≡ get_or busy i e
same_flag [] i d e lt = absurd (omega arith)
same_flag (b ∷ bs) zero d e lt = refl
same_flag (b ∷ bs) (suc i) d e lt = same_flag bs i d e (omega (arith, lt))
