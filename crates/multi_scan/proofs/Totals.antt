-- Sums over lists.
use Rattle.std.proofs.Common.{◌≡◌, ℕ, ◌+◌, List, [], ◌∷◌, ◌++◌, map, ap, sym, ◌∙◌, refl, arith}
use Rattle.std.specs.List.{AllByRecursion, flat_map, sum_by}
use Rattle.std.specs.List.Sorted.{IsPermutation}
use Rattle.std.proofs.lemmas.List.Sums.{sum_by-cons}
use Rattle.std.proofs.lemmas.List.Elements.{recursion_from_All, All-from_recursion}
use Rattle.std.proofs.lemmas.List.Sorted.{sum_by-IsPermutation, All-permutation}
use Rattle.multi_scan.specs.Found.{total}

add_same : (a b c : ℕ) → a + (b + c) ≡ (a + b) + c
add_same a b c = omega arith

add_across : (a b c d : ℕ) → (a + b) + (c + d) ≡ (a + c) + (b + d)
add_across a b c d = omega arith

pub zero_plus : (n : ℕ) → n ≡ 0 + n
zero_plus n = omega arith

module _ {K : Type 0} (f : K → ℕ) where
  pub total_append : (xs ys : List K) → total f (xs ++ ys) ≡ total f xs + total f ys
  total_append [] ys = zero_plus (total f ys)
  total_append (x ∷ xs) ys = ap (λ n. f x + n) (total_append xs ys) ∙ add_same (f x) (total f xs) (total f ys)

  as_sum : (xs : List K) → total f xs ≡ sum_by f xs
  as_sum [] = refl
  as_sum (x ∷ xs) = ap (λ n. f x + n) (as_sum xs) ∙ sym (sum_by-cons f x xs)

  pub total_moved : (xs ys : List K) → IsPermutation xs ys → total f ys ≡ total f xs
  total_moved xs ys h = as_sum ys ∙ sum_by-IsPermutation f xs ys h ∙ sym (as_sum xs)

  pub total_map : {J : Type 0} (g : J → K) (xs : List J) → total f (map g xs) ≡ total (λ x. f (g x)) xs
  total_map g [] = refl
  total_map g (x ∷ xs) = ap (λ n. f (g x) + n) (total_map g xs)

  pub total_flat : {J : Type 0} (g : J → List K) (xs : List J) → total f (flat_map g xs) ≡ total (λ x. total f (g x)) xs
  total_flat g [] = refl
  total_flat g (x ∷ xs) = total_append (g x) (flat_map g xs) ∙ ap (λ n. total f (g x) + n) (total_flat g xs)

  pub total_all : (g : K → ℕ) (xs : List K) → AllByRecursion (λ x. f x ≡ g x) xs → total f xs ≡ total g xs
  total_all g [] a = refl
  total_all g (x ∷ xs) a = λ i. a.0 i + total_all g xs a.1 i

  pub total_add : (g : K → ℕ) (xs : List K) → total f xs + total g xs ≡ total (λ x. f x + g x) xs
  total_add g [] = refl
  total_add g (x ∷ xs) = add_across (f x) (total f xs) (g x) (total g xs) ∙ ap (λ n. (f x + g x) + n) (total_add g xs)

pub total_zero : {K : Type 0} (xs : List K) → total (λ (x : K). 0) xs ≡ 0
total_zero [] = refl
total_zero {K} (x ∷ xs) = sym (zero_plus (total (λ (y : K). 0) xs)) ∙ total_zero xs

pub all_true : {K : Type 0} (P : K → Type 0) → ((x : K) → P x) → (xs : List K) → AllByRecursion P xs
all_true P h [] = tt
all_true P h (x ∷ xs) = (h x, all_true P h xs)

pub all_from : {K : Type 0} (P Q : K → Type 0) → ((x : K) → P x → Q x) → (xs : List K) → AllByRecursion P xs → AllByRecursion Q xs
all_from P Q h [] a = tt
all_from P Q h (x ∷ xs) a = (h x a.0, all_from P Q h xs a.1)

pub all_both : {K : Type 0} (P Q : K → Type 0) (xs : List K) → AllByRecursion P xs → AllByRecursion Q xs → AllByRecursion (λ x. P x × Q x) xs
all_both P Q [] a b = tt
all_both P Q (x ∷ xs) a b = ((a.0, b.0), all_both P Q xs a.1 b.1)

-- a fact of each, in another order
pub all_moved : {K : Type 0} (P : K → Type 0) (xs ys : List K) → IsPermutation xs ys → AllByRecursion P xs → AllByRecursion P ys
all_moved P xs ys moved all = recursion_from_All P ys (All-permutation P xs ys moved (All-from_recursion P xs all))
