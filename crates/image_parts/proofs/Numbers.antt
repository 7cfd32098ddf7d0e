-- Keys by numbers: for each key the place of the first one that is equal.
use Rattle.std.proofs.Common.{◌≡◌, ℕ, zero, suc, ◌<◌, ◌==◌, ◌&&◌, Bool, true, false, not, cond, List, [], ◌∷◌, length, get_or, map, refl, sym, ap, ◌∙◌, arith}
use Rattle.std.specs.Prelude.{◌||◌}
use Rattle.std.specs.List.{list_any}
use Rattle.std.proofs.lemmas.Bool.{eqb-true, eqb-false}
use Rattle.std.proofs.lemmas.List.{length-map}
use Rattle.image_parts.specs.Whole.{are_distinct}
use Rattle.image_parts.specs.Walk.{AreSmall, first_of}

-- ---- the number of a key

-- a property of each key
abbrev pub Each : (ℕ → Type 0) → List ℕ → Type 0
Each P [] = Unit {0}
Each P (x ∷ xs) = P x × Each P xs

pub each_by : (P Q : ℕ → Type 0) (xs : List ℕ) → ((x : ℕ) → P x → Q x) → Each P xs → Each Q xs
each_by P Q [] f e = tt
each_by P Q (x ∷ xs) f e = (f x e.0, each_by P Q xs f e.1)

-- the number leads back to the key
abbrev pub IsFound : List ℕ → ℕ → Type 0
IsFound keys k = (get_or keys (first_of keys k) 0 ≡ k) × (first_of keys k < length keys)

found_more : (x : ℕ) (xs : List ℕ) (k : ℕ) (q : Bool) → (x == k) ≡ q → (q ≡ false → IsFound xs k) → (get_or (x ∷ xs) (cond q 0 (suc (first_of xs k))) 0 ≡ k) × (cond q 0 (suc (first_of xs k)) < length (x ∷ xs))
found_more x xs k true e f = (eqb-true x k e, omega arith)
found_more x xs k false e f = ((f refl).0, let lt = (f refl).1 in omega (arith, lt))

-- each key is found
pub all_found : (keys : List ℕ) → Each (IsFound keys) keys
all_found [] = tt
all_found (x ∷ xs) =
    (found_more x xs x (x == x) refl (λ h. absurd (eqb-false x x h refl)), each_by (IsFound xs) (IsFound (x ∷ xs)) xs (λ k f. found_more x xs k (x == k) refl (λ h. f)) (all_found xs))

each_at : (P : ℕ → Type 0) (xs : List ℕ) (i : ℕ) → Each P xs → i < length xs → P (get_or xs i 0)
each_at P [] i e lt = absurd (omega (arith, lt))
each_at P (x ∷ xs) zero e lt = e.0
each_at P (x ∷ xs) (suc i) e lt = each_at P xs i e.1 (omega (arith, lt))

pub mapped_at : (f : ℕ → ℕ) (xs : List ℕ) (i : ℕ) → i < length xs → get_or (map f xs) i 0 ≡ f (get_or xs i 0)
mapped_at f [] i lt = absurd (omega (arith, lt))
mapped_at f (x ∷ xs) zero lt = refl
mapped_at f (x ∷ xs) (suc i) lt = mapped_at f xs i (omega (arith, lt))

-- the numbers are below how many keys there are
pub numbers_small : (keys : List ℕ) → AreSmall (map (first_of keys) keys)
numbers_small keys place lt =
    let size : length (map (first_of keys) keys) ≡ length keys = length-map keys (first_of keys) in
    let within : place < length keys = omega (arith, lt, size) in
    let one : first_of keys (get_or keys place 0) < length keys = (each_at (IsFound keys) keys place (all_found keys) within).1 in
    omega (arith, mapped_at (first_of keys) keys place within, one, size)

-- ---- equal numbers are those of equal keys

same_by : (keys : List ℕ) (a b : ℕ) → IsFound keys a → IsFound keys b → (p q : Bool) → (first_of keys a == first_of keys b) ≡ p → (a == b) ≡ q → p ≡ q
same_by keys a b fa fb true true e f = refl
same_by keys a b fa fb false false e f = refl
same_by keys a b fa fb true false e f =
    let same : first_of keys a ≡ first_of keys b = eqb-true (first_of keys a) (first_of keys b) e in
    absurd (eqb-false a b f (sym fa.0 ∙ ap (λ (k : ℕ). get_or keys k 0) same ∙ fb.0))
same_by keys a b fa fb false true e f =
    let same : a ≡ b = eqb-true a b f in
    absurd (eqb-false (first_of keys a) (first_of keys b) e (ap (first_of keys) same))

any_same : (keys : List ℕ) (k : ℕ) (xs : List ℕ) → IsFound keys k → Each (IsFound keys) xs → list_any (λ (x : ℕ). x == first_of keys k) (map (first_of keys) xs) ≡ list_any (λ (x : ℕ). x == k) xs
any_same keys k [] fk e = refl
any_same keys k (x ∷ xs) fk e =
    ap (λ (b : Bool). b || list_any (λ (y : ℕ). y == first_of keys k) (map (first_of keys) xs)) (same_by keys x k e.0 fk (first_of keys x == first_of keys k) (x == k) refl refl)
    ∙ ap (λ (b : Bool). (x == k) || b) (any_same keys k xs fk e.1)

-- keys are distinct if their numbers are
pub distinct_same : (keys xs : List ℕ) → Each (IsFound keys) xs → are_distinct (map (first_of keys) xs) ≡ are_distinct xs
distinct_same keys [] e = refl
distinct_same keys (x ∷ xs) e =
    ap (λ (b : Bool). not b && are_distinct (map (first_of keys) xs)) (any_same keys x xs e.0 e.1)
    ∙ ap (λ (b : Bool). not (list_any (λ (y : ℕ). y == x) xs) && b) (distinct_same keys xs e.1)
