-- How many slots views have. A part that several views show counts once.
use Rattle.std.specs.Prelude.{ℕ, ◌==◌, Bool, cond, List, [], ◌∷◌}
use Rattle.std.specs.List.{list_any, flat_map}
use Rattle.db_store.specs.Parts.{Part}
use Rattle.db_store.specs.Rows.{slots_of}

-- whether one of the parts has this id
abbrev pub shows : ℕ → List Part → Bool
shows id parts = list_any (λ part. part.id == id) parts

-- the last part of each id
abbrev pub distinct_parts : List Part → List Part
distinct_parts [] = []
distinct_parts (part ∷ parts) = cond (shows part.id parts) (distinct_parts parts) (part ∷ distinct_parts parts)

-- how many slots the distinct parts of views have
abbrev pub slots_of_distinct : List (List Part) → ℕ
slots_of_distinct views = slots_of (distinct_parts (flat_map (λ parts. parts) views))
