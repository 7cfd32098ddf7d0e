-- Lists in strict order or without repeats, one behind another.
use Rattle.std.proofs.Common.{◌≡◌, Bool, false, List, [], ◌∷◌, ◌++◌, map, Ordering, Less}
use Rattle.std.specs.List.{AllByRecursion, IsDistinct}
use Rattle.std.specs.List.Sorted.{IsStrictlySortedBy}
use Rattle.db_store.proofs.RowLemmas.{all_append}

module _ {K : Type 0} (R : K → K → Ordering) where
  -- lists in strict order, one wholly before the other
  pub sorted_append : (xs ys : List K) → IsStrictlySortedBy R xs → IsStrictlySortedBy R ys → AllByRecursion (λ x. AllByRecursion (λ y. R x y ≡ Less) ys) xs → IsStrictlySortedBy R (xs ++ ys)
  unfolding IsStrictlySortedBy
  sorted_append [] ys s t a = t
  sorted_append (x ∷ xs) ys s t a = (all_append (λ y. R x y ≡ Less) xs ys s.0 a.0, sorted_append xs ys s.1 t a.1)

  pub sorted_nil : IsStrictlySortedBy R []
  unfolding IsStrictlySortedBy
  sorted_nil = tt

  pub sorted_cons : (x : K) (xs : List K) → AllByRecursion (λ y. R x y ≡ Less) xs → IsStrictlySortedBy R xs → IsStrictlySortedBy R (x ∷ xs)
  unfolding IsStrictlySortedBy
  sorted_cons x xs a s = (a, s)

module _ {K : Type 0} (e : K → K → Bool) where
  -- lists without repeats that have nothing in common
  pub distinct_append : (xs ys : List K) → IsDistinct e xs → IsDistinct e ys → AllByRecursion (λ x. AllByRecursion (λ y. e x y ≡ false) ys) xs → IsDistinct e (xs ++ ys)
  unfolding IsDistinct
  distinct_append [] ys s t a = t
  distinct_append (x ∷ xs) ys s t a = (all_append (λ y. e x y ≡ false) xs ys s.0 a.0, distinct_append xs ys s.1 t a.1)

  pub distinct_nil : IsDistinct e []
  unfolding IsDistinct
  distinct_nil = tt

pub all_map : {K J : Type 0} (P : J → Type 0) (f : K → J) (xs : List K) → AllByRecursion (λ x. P (f x)) xs → AllByRecursion P (map f xs)
all_map P f [] a = tt
all_map P f (x ∷ xs) a = (a.0, all_map P f xs a.1)
