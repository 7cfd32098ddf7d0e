-- The parts of a statement: what stands between single spaces, where the spaces of a text belong to it.
use Rattle.std.specs.Prelude.{ℕ, ◌+◌, ◌==◌, ◌&&◌, not, Bool, false, List, [], ◌∷◌, cond, position, Option, Some, None}
use Rattle.std.specs.List.{onto_first}

-- the place of the first space, whether in a text or not
abbrev pub first_space : List ℕ → Option ℕ
first_space text = position (λ b. b == 32) text

-- whether a byte is a space that stands in no text
abbrev pub is_cut : Bool → ℕ → Bool
is_cut inside b = not inside && b == 32

-- whether what follows a byte stands in a text: a double quote begins one, or ends it
abbrev pub is_inside : Bool → ℕ → Bool
is_inside inside b = cond (b == 34) (not inside) inside

-- the parts of bytes whose first one stands in a text or not
abbrev pub parts_from : Bool → List ℕ → List (List ℕ)
parts_from inside [] = [] ∷ []
parts_from inside (b ∷ bs) = cond (is_cut inside b) ([] ∷ parts_from false bs) (onto_first b (parts_from (is_inside inside b) bs))

-- the parts of a statement
abbrev pub parts_of : List ℕ → List (List ℕ)
parts_of bs = parts_from false bs

-- the place of the first space that stands in no text, where the first byte stands at k
abbrev pub cut_from : ℕ → Bool → List ℕ → Option ℕ
cut_from k inside [] = None
cut_from k inside (b ∷ bs) = cond (is_cut inside b) (Some k) (cut_from (k + 1) (is_inside inside b) bs)
