-- What a sort leaves, by recursion on the list.
use Rattle.std.proofs.Common.{◌≡◌, ℕ, suc, ◌+◌, ◌<◌, ◌≤◌, Bool, false, List, [], ◌∷◌, length, get_or, subst, arith}
use Rattle.std.specs.Cmp.{IsStrictWeakOrder, nat_cmp_total}
use Rattle.std.specs.Ordering.{is_lt, nat_cmp}
use Rattle.std.proofs.lemmas.Bool.Decides.{nat_tests}
use Rattle.std.specs.List.{AllByRecursion}
use Rattle.std.specs.List.Sorted.{IsSortedBy, IsSorted}
use Rattle.std.proofs.lemmas.List.Elements.{recursion_from_All}
use Rattle.std.proofs.lemmas.List.Sorted.{sorted_far, ranks_by}
use Rattle.multi_scan.specs.Found.{Climbs}

-- none is below one before it
abbrev pub Rises : {X : Type 0} → (X → X → Bool) → List X → Type 0
Rises lt [] = Unit {0}
Rises lt (x ∷ xs) = AllByRecursion (λ y. lt y x ≡ false) xs × Rises lt xs

next : (k : ℕ) → suc k + 1 ≡ suc (k + 1)
next k = omega arith

pub rises : {X : Type 0} (lt : X → X → Bool) → IsStrictWeakOrder lt → (xs : List X) → IsSortedBy lt xs → Rises lt xs
rises lt o [] up = tt
rises {X} lt o (x ∷ xs) up =
    let after : (k : ℕ) (d : X) → k + 1 < length xs → lt (get_or xs (k + 1) d) (get_or xs k d) ≡ false = λ k d h. subst (λ n. lt (get_or (x ∷ xs) n d) (get_or xs k d) ≡ false) (next k) (up (suc k) d (omega arith) (omega (arith, h))) in
    (recursion_from_All (λ y. lt y x ≡ false) xs (λ k d h. sorted_far lt o (x ∷ xs) up 0 (suc k) d (omega arith) (omega (arith, h))), rises lt o xs (λ k d low high. after k d high))

-- what a sort of numbers leaves
pub climbs : (ns : List ℕ) → IsSorted nat_cmp ns → Climbs ns
climbs ns up = each ns (rises (λ x y. is_lt (nat_cmp x y)) (ranks_by nat_cmp_total (λ n. n)) ns up)
  where
    at_least : (a b : ℕ) → is_lt (nat_cmp b a) ≡ false → a ≤ b
    at_least a b e = grind (arith, nat_tests)

    all : (n : ℕ) (ks : List ℕ) → AllByRecursion (λ k. is_lt (nat_cmp k n) ≡ false) ks → AllByRecursion (λ k. n ≤ k) ks
    all n [] a = tt
    all n (k ∷ ks) a = (at_least n k a.0, all n ks a.1)

    each : (ns : List ℕ) → Rises (λ x y. is_lt (nat_cmp x y)) ns → Climbs ns
    each [] a = tt
    each (n ∷ ns) a = (all n ns a.0, each ns a.1)
