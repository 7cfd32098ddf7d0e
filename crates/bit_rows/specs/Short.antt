-- The shortest bitmap of some slots: with it, deltas that change the same slots are one.
use Rattle.std.specs.Prelude.{ℕ, suc, Bool, List, [], ◌∷◌}
use Rattle.commit_history.specs.Sparse.{flipped}

-- one past the last slot
abbrev pub end_of : List ℕ → ℕ
end_of [] = 0
end_of (s ∷ []) = suc s
end_of (s ∷ t ∷ ss) = end_of (t ∷ ss)

-- the bitmap in which these slots, which ascend, are true, up to the last of them
abbrev pub shortest : List ℕ → List Bool
shortest slots = flipped (end_of slots) slots
