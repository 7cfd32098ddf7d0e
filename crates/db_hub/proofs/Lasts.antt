-- The last of a list.
use Rattle.std.proofs.Common.{◌≡◌, ◌∙◌, ◌++◌, ◌∷◌, [], ◌<◌, ◌-◌, ℕ, List, Some, slice_get, option_map, length, map, refl, sym, ap, arith, length-append}
use Rattle.std.proofs.lemmas.List.{length-map}
use Rattle.std.proofs.lemmas.Option.{same_Some, slice_get-map}

-- a list that ends with an item has one
pub some_last : {X : Type 0} (xs : List X) (x : X) (ys : List X) → ys ≡ xs ++ x ∷ [] → 0 < length ys
some_last xs x ys e = let a = ap length e in let b = length-append xs (x ∷ []) in omega (arith, a, b)

at_end : {X : Type 0} (xs : List X) (x : X) → slice_get (xs ++ x ∷ []) (length xs) ≡ Some x
at_end [] x = refl
at_end (y ∷ ys) x = at_end ys x

-- what stands at the last place is the last
pub last_is : {X Y : Type 0} (f : X → Y) (xs : List X) (x : X) (ys : List Y) (y : Y) → slice_get xs (length xs - 1) ≡ Some x → map f xs ≡ ys ++ y ∷ [] → f x ≡ y
last_is f xs x ys y get is =
    let a = ap length is in
    let b = length-map xs f in
    let d = length-append ys (y ∷ []) in
    let place : length xs - 1 ≡ length ys = omega (arith, a, b, d) in
    let there = sym (slice_get-map f xs (length xs - 1) ∙ ap (option_map f) get) ∙ (λ j. slice_get (is j) (place j)) ∙ at_end ys y in
    same_Some (f x) y there
