-- The marks of a walk from two versions down to their ancestors.
use Rattle.std.specs.Prelude.{ℕ, ◌-◌, nat_lt, cond, ◌||◌, false, List, [], ◌∷◌, slice_index_or, slice_set}
use Rattle.version_graph.specs.declared.marks.Mark.{Mark}

-- a version that neither side has reached
abbrev pub unmarked : Mark
unmarked = record { left = false; right = false }

-- the marks of the versions from `low` on
pub record Marked : Type 0 where
  pub low : ℕ
  pub marks : List Mark

-- the sides of either mark
abbrev pub either : Mark → Mark → Mark
either m n = record { left = m.left || n.left; right = m.right || n.right }

-- a version is reached from these sides too, unless it is below the first
abbrev pub marked : ℕ → Mark → ℕ → List Mark → List Mark
marked low sides version marks =
    cond (nat_lt version low) marks (slice_set marks (version - low) (either (slice_index_or marks (version - low) unmarked) sides))

-- each of these versions is reached from these sides too
abbrev pub all_marked : ℕ → Mark → List ℕ → List Mark → List Mark
all_marked low sides [] marks = marks
all_marked low sides (v ∷ vs) marks = all_marked low sides vs (marked low sides v marks)
