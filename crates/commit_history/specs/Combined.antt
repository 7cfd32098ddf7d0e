-- The exclusive or of lists of truth values, of which each is false past its end.
use Rattle.std.specs.Prelude.{Bool, List, [], ◌∷◌}
use Rattle.plain_bits.specs.Truth.{differ}

-- of two lists, as long as the longer one
abbrev pub xor_of : List Bool → List Bool → List Bool
xor_of [] ys = ys
xor_of (x ∷ xs) [] = x ∷ xs
xor_of (x ∷ xs) (y ∷ ys) = differ x y ∷ xor_of xs ys

-- of all lists, as long as the longest of them
abbrev pub combined : List (List Bool) → List Bool
combined [] = []
combined (bits ∷ more) = xor_of bits (combined more)
