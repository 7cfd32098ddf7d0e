-- How many slots the distinct parts of a list have.
use Rattle.std.proofs.Common.{◌≡◌, ℕ, ◌+◌, ◌≤◌, ◌<◌, ◌==◌, not, Bool, true, false, cond, ◌||◌, List, [], ◌∷◌, ◌++◌, length, ap, sym, ◌∙◌, refl, subst, arith}
use Rattle.std.specs.List.{AllByRecursion, filter}
use Rattle.std.proofs.lemmas.Bool.{eqb-true}
use Rattle.std.proofs.lemmas.Bool.Decides.{nat_tests}
use Rattle.db_store.specs.Parts.{Part}
use Rattle.db_store.specs.Rows.{slots_of}
use Rattle.multi_scan.specs.Cost.{shows, distinct_parts}

abbrev pub distinct_slots : List Part → ℕ
distinct_slots parts = slots_of (distinct_parts parts)

-- the parts that have another id
abbrev others : ℕ → List Part → List Part
others id parts = filter (λ (x : Part). not (x.id == id)) parts

-- the number of slots goes by the id
abbrev pub GoesBy : (ℕ → ℕ) → List Part → Type 0
GoesBy size parts = AllByRecursion (λ x. length x.slots ≡ size x.id) parts

same_id : (a b c : ℕ) → a ≡ b → (c == a) ≡ (c == b)
same_id a b c e = ap (λ n. c == n) e

shows_others : (id : ℕ) (k : ℕ) (parts : List Part) → (k == id) ≡ false → shows k (others id parts) ≡ shows k parts
shows_others id k [] e = refl
shows_others id k (x ∷ xs) e = elim (x.id == id) as (λ b. (x.id == id) ≡ b → shows k (cond (not b) (x ∷ others id xs) (others id xs)) ≡ (x.id == k || shows k xs)) [
  | true ↦ λ h. shows_others id k xs e ∙ ap (λ b. b || shows k xs) (sym (differ x.id id k h e))
  | false ↦ λ h. ap (λ b. x.id == k || b) (shows_others id k xs e)
] refl
  where
    differ : (a b c : ℕ) → (a == b) ≡ true → (c == b) ≡ false → (a == c) ≡ false
    differ a b c h e = grind (arith, nat_tests)

none_others : (id : ℕ) (parts : List Part) → shows id parts ≡ false → others id parts ≡ parts
none_others id [] e = refl
none_others id (x ∷ xs) e = elim (x.id == id) as (λ b. (b || shows id xs) ≡ false → cond (not b) (x ∷ others id xs) (others id xs) ≡ x ∷ xs) [
  | true ↦ λ h. absurd cc
  | false ↦ λ h. ap (λ (t : List Part). x ∷ t) (none_others id xs h)
] e

-- one id less
one_less : (size : ℕ → ℕ) (id : ℕ) (parts : List Part) → GoesBy size parts → distinct_slots parts ≤ size id + distinct_slots (others id parts)
one_less size id [] a = omega arith
one_less size id (x ∷ xs) a = elim (x.id == id) as (λ b. (x.id == id) ≡ b → distinct_slots (x ∷ xs) ≤ size id + distinct_slots (cond (not b) (x ∷ others id xs) (others id xs))) [
  | true ↦ λ e. elim (shows x.id xs) as (λ b. shows x.id xs ≡ b → slots_of (cond b (distinct_parts xs) (x ∷ distinct_parts xs)) ≤ size id + distinct_slots (others id xs)) [
    | true ↦ λ h. one_less size id xs a.1
    | false ↦ λ h. same x.id (length x.slots) e a.0 h
  ] refl
  | false ↦ λ e. elim (shows x.id xs) as (λ b. shows x.id xs ≡ b → slots_of (cond b (distinct_parts xs) (x ∷ distinct_parts xs)) ≤ size id + slots_of (cond (shows x.id (others id xs)) (distinct_parts (others id xs)) (x ∷ distinct_parts (others id xs)))) [
    | true ↦ λ h. let s : shows x.id (others id xs) ≡ true = shows_others id x.id xs e ∙ h in rw s (one_less size id xs a.1)
    | false ↦ λ h. let s : shows x.id (others id xs) ≡ false = shows_others id x.id xs e ∙ h in rw s (omega (arith, one_less size id xs a.1))
  ] refl
] refl
  where
    same : (k n : ℕ) → (k == id) ≡ true → n ≡ size k → shows k xs ≡ false → n + distinct_slots xs ≤ size id + distinct_slots (others id xs)
    same k n e s h =
        let is : k ≡ id = eqb-true k id e in
        let rest : others id xs ≡ xs = none_others id xs (subst (λ i. shows i xs ≡ false) is h) in
        let n_is : n ≡ size id = s ∙ ap size is in
        rw rest (omega (arith, n_is))

all_others : (P : Part → Type 0) (id : ℕ) (parts : List Part) → AllByRecursion P parts → AllByRecursion (λ x. P x × ((x.id == id) ≡ false)) (others id parts)
all_others P id [] a = tt
all_others P id (x ∷ xs) a = elim (x.id == id) as (λ b. (x.id == id) ≡ b → AllByRecursion (λ (y : Part). P y × ((y.id == id) ≡ false)) (cond (not b) (x ∷ others id xs) (others id xs))) [
  | true ↦ λ e. all_others P id xs a.1
  | false ↦ λ e. ((a.0, e), all_others P id xs a.1)
] refl

each_from : {K : Type 0} (P Q : K → Type 0) → ((x : K) → P x → Q x) → (xs : List K) → AllByRecursion P xs → AllByRecursion Q xs
each_from P Q h [] a = tt
each_from P Q h (x ∷ xs) a = (h x a.0, each_from P Q h xs a.1)

-- parts of which each id is among others have no more
pub no_more : (size : ℕ → ℕ) (those these : List Part) → GoesBy size those → AllByRecursion (λ x. (shows x.id those ≡ true) × (length x.slots ≡ size x.id)) these → distinct_slots these ≤ slots_of those
no_more size [] [] s a = omega arith
no_more size [] (x ∷ xs) s a = absurd (false_true a.0.0)
  where
    false_true : false ≡ true → ⊥
    false_true e = absurd cc
no_more size (y ∷ ys) these s a =
    let less : distinct_slots these ≤ size y.id + distinct_slots (others y.id these) = one_less size y.id these (each_from (λ (x : Part). (shows x.id (y ∷ ys) ≡ true) × (length x.slots ≡ size x.id)) (λ (x : Part). length x.slots ≡ size x.id) (λ x h. h.1) these a) in
    let rest : distinct_slots (others y.id these) ≤ slots_of ys = no_more size ys (others y.id these) s.1 (each_from (λ (x : Part). ((shows x.id (y ∷ ys) ≡ true) × (length x.slots ≡ size x.id)) × ((x.id == y.id) ≡ false)) (λ (x : Part). (shows x.id ys ≡ true) × (length x.slots ≡ size x.id)) (λ x h. (past x.id y.id (shows x.id ys) h.1 h.0.0, h.0.1)) (others y.id these) (all_others (λ (x : Part). (shows x.id (y ∷ ys) ≡ true) × (length x.slots ≡ size x.id)) y.id these a)) in
    omega (arith, less, rest, s.0)
  where
    past : (k i : ℕ) (b : Bool) → (k == i) ≡ false → (i == k || b) ≡ true → b ≡ true
    past k i true e h = refl
    past k i false e h = absurd (grind (arith, nat_tests))

-- the distinct parts have the same ids
pub shows_distinct : (id : ℕ) (parts : List Part) → shows id (distinct_parts parts) ≡ shows id parts
shows_distinct id [] = refl
shows_distinct id (x ∷ xs) = elim (shows x.id xs) as (λ b. shows x.id xs ≡ b → shows id (cond b (distinct_parts xs) (x ∷ distinct_parts xs)) ≡ (x.id == id || shows id xs)) [
  | true ↦ λ e. shows_distinct id xs ∙ known (x.id == id) refl e
  | false ↦ λ e. ap (λ b. x.id == id || b) (shows_distinct id xs)
] refl
  where
    known : (b : Bool) → (x.id == id) ≡ b → shows x.id xs ≡ true → shows id xs ≡ (b || shows id xs)
    known true e h = subst (λ i. shows i xs ≡ true) (eqb-true x.id id e) h
    known false e h = refl

goes_distinct : (P : Part → Type 0) (parts : List Part) → AllByRecursion P parts → AllByRecursion P (distinct_parts parts)
goes_distinct P [] a = tt
goes_distinct P (x ∷ xs) a = elim (shows x.id xs) as (λ b. AllByRecursion P (cond b (distinct_parts xs) (x ∷ distinct_parts xs))) [
  | true ↦ goes_distinct P xs a.1
  | false ↦ (a.0, goes_distinct P xs a.1)
]

pub shows_itself : (parts : List Part) → AllByRecursion (λ x. shows x.id parts ≡ true) parts
shows_itself [] = tt
shows_itself (x ∷ xs) = (eqb-same x.id (shows x.id xs), each_from (λ (y : Part). shows y.id xs ≡ true) (λ (y : Part). (x.id == y.id || shows y.id xs) ≡ true) (λ y e. or_true (x.id == y.id) (shows y.id xs) e) xs (shows_itself xs))
  where
    eqb-same : (n : ℕ) (b : Bool) → (n == n || b) ≡ true
    eqb-same n b = grind (arith, nat_tests)

    or_true : (a b : Bool) → b ≡ true → (a || b) ≡ true
    or_true true b e = refl
    or_true false b e = e

-- the same parts in another order have no more
pub moved_slots : (size : ℕ → ℕ) (those these : List Part) → GoesBy size those → GoesBy size these → ((id : ℕ) → shows id these ≡ shows id those) → distinct_slots these ≤ distinct_slots those
moved_slots size those these s t same = no_more size (distinct_parts those) these (goes_distinct (λ x. length x.slots ≡ size x.id) those s)
    (pairs these (shows_itself these) t)
  where
    pairs : (xs : List Part) → AllByRecursion (λ x. shows x.id these ≡ true) xs → GoesBy size xs → AllByRecursion (λ x. (shows x.id (distinct_parts those) ≡ true) × (length x.slots ≡ size x.id)) xs
    pairs [] a b = tt
    pairs (x ∷ xs) a b = ((shows_distinct x.id those ∙ sym (same x.id) ∙ a.0, b.0), pairs xs a.1 b.1)

-- parts of one id at the front, and then parts of other ids
pub run_slots : (first : Part) (run more : List Part) → AllByRecursion (λ x. (x.id ≡ first.id) × (length x.slots ≡ length first.slots)) run → AllByRecursion (λ x. first.id < x.id) more → length first.slots + distinct_slots more ≤ distinct_slots (first ∷ (run ++ more))
run_slots first [] more a b = let n : shows first.id more ≡ false = never first.id more b in rw n (omega arith)
  where
    never : (id : ℕ) (xs : List Part) → AllByRecursion (λ x. id < x.id) xs → shows id xs ≡ false
    never id [] a = refl
    never id (x ∷ xs) a = λ i. above id x.id a.0 i || never id xs a.1 i
      where
        above : (a b : ℕ) → a < b → (b == a) ≡ false
        above a b h = grind (arith, nat_tests)
run_slots first (x ∷ run) more a b =
    let h : shows first.id (x ∷ (run ++ more)) ≡ true = found x.id first.id (shows first.id (run ++ more)) a.0.0 in
    let rest : length x.slots + distinct_slots more ≤ distinct_slots (x ∷ (run ++ more)) = run_slots x run more (each_from (λ (y : Part). (y.id ≡ first.id) × (length y.slots ≡ length first.slots)) (λ (y : Part). (y.id ≡ x.id) × (length y.slots ≡ length x.slots)) (λ y e. (e.0 ∙ sym a.0.0, e.1 ∙ sym a.0.1)) run a.1) (subst (λ i. AllByRecursion (λ y. i < y.id) more) (sym a.0.0) b) in
    rw h (omega (arith, rest, a.0.1))
  where
    found : (a b : ℕ) (c : Bool) → a ≡ b → (a == b || c) ≡ true
    found a b c e = grind (arith, nat_tests)
