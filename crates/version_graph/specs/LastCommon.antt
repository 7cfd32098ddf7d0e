-- The last common ancestor of two versions, found in one pass from the newest version down.
use Rattle.std.specs.Prelude.{ℕ, ◌==◌, ◌&&◌, cond, Bool, List, [], ◌∷◌, ◌++◌, length}
use Rattle.std.proofs.Common.{zero, suc}
use Rattle.std.specs.List.{list_any}
use Rattle.version_graph.specs.Ancestors.{parents_of}

-- a version is one of these
abbrev pub is_among : ℕ → List ℕ → Bool
is_among version reached = list_any (λ r. version == r) reached

-- what is reached once a version was passed: its parents too, if it was reached
abbrev pub passed : List (List ℕ) → ℕ → List ℕ → List ℕ
passed versions version reached = cond (is_among version reached) (parents_of versions version ++ reached) reached

-- of the versions below a number, the last one that both sides come to reach
abbrev pub last_below : List (List ℕ) → ℕ → List ℕ → List ℕ → ℕ
last_below versions zero lefts rights = 0
last_below versions (suc v) lefts rights = cond (is_among v lefts && is_among v rights) v (last_below versions v (passed versions v lefts) (passed versions v rights))

-- of the versions that are ancestors of both, the one made last
abbrev pub last_common : List (List ℕ) → ℕ → ℕ → ℕ
last_common versions left right = last_below versions (length versions) (left ∷ []) (right ∷ [])
