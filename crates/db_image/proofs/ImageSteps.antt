-- One item more of an image.
use Rattle.std.proofs.Common.{◌≡◌, ℕ, ◌+◌, List, [], ◌∷◌, ◌++◌, map, sym, ap, ◌∙◌, arith}
use Rattle.std.specs.List.{flat_map, range_with_len}
use Rattle.std.proofs.lemmas.Grind.{flat_map-append}
use Rattle.std.proofs.lemmas.List.{append-nil, map-id}
use Rattle.std.proofs.lemmas.List.FromFn.{map-range_with_len_more}

pub range_next : {X : Type 0} (f : ℕ → X) (i : ℕ) (old new : List X) (x : X) → new ≡ old ++ x ∷ [] → x ≡ f i → old ≡ map f (range_with_len 0 i) → new ≡ map f (range_with_len 0 (i + 1))
range_next f i old new x e is o = e ∙ (λ j. o j ++ is j ∷ []) ∙ sym (map-range_with_len_more f 0 i i (omega arith))

numbers_next : (i : ℕ) → range_with_len 0 (i + 1) ≡ range_with_len 0 i ++ i ∷ []
numbers_next i = sym (map-id (range_with_len 0 (i + 1))) ∙ map-range_with_len_more (λ x. x) 0 i i (omega arith) ∙ ap (λ l. l ++ i ∷ []) (map-id (range_with_len 0 i))

pub parts_next : {X : Type 0} (f : ℕ → List X) (i : ℕ) (old new : List X) → new ≡ old ++ f i → old ≡ flat_map f (range_with_len 0 i) → new ≡ flat_map f (range_with_len 0 (i + 1))
parts_next f i old new e o =
    e
    ∙ ap (λ l. l ++ f i) o
    ∙ sym (ap (flat_map f) (numbers_next i) ∙ flat_map-append f (range_with_len 0 i) (i ∷ []) ∙ ap (λ l. flat_map f (range_with_len 0 i) ++ l) (append-nil (f i)))
