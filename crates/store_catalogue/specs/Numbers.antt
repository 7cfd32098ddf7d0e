-- The parents of a version, by number.
use Rattle.std.specs.Prelude.{ℕ, List, [], ◌∷◌, Option, Some, None}

-- the second parent, if there is one
abbrev pub list_if : Option ℕ → List ℕ
list_if None = []
list_if (Some n) = n ∷ []
