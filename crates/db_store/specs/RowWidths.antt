-- The widths of the relations of a schema, and how many bytes the fields of their rows may take.
use Rattle.std.specs.Prelude.{ℕ, zero, suc, ◌+◌, nat_lt, cond, List, [], ◌∷◌, length}
use Rattle.db_value.specs.Relations.{widths_at}
use Rattle.db_value.specs.RowForm.{row_size}
use Rattle.db_value.specs.Schema.{most_relations}
use Rattle.db_value.specs.declared.schema.Relation.{Relation}

-- the widths of the columns of a relation; past the last one stands one column of numbers
abbrev pub widths_or : List Relation → ℕ → List ℕ
widths_or schema r = cond (nat_lt r (length schema)) (widths_at schema r) (0 ∷ [])

-- those of so many relations, the first of them number n
abbrev pub widths_from : List Relation → ℕ → ℕ → List (List ℕ)
widths_from schema n zero = []
widths_from schema n (suc k) = widths_or schema n ∷ widths_from schema (n + 1) k

-- those of each relation that there can be
unfoldable pub all_widths : List Relation → List (List ℕ)
all_widths schema = widths_from schema 0 most_relations

-- the most bytes that the fields of a row take by widths: their count, and a byte before each of them
abbrev pub most_of : List ℕ → ℕ
most_of ws = 1 + length ws + row_size ws

-- the most of all relations, or so many if none takes more
abbrev pub most_from : ℕ → List (List ℕ) → ℕ
most_from most [] = most
most_from most (ws ∷ wss) = most_from (cond (nat_lt most (most_of ws)) (most_of ws) most) wss
