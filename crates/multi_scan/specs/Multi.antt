-- The rows of one relation in several tables, by value.
use Rattle.std.specs.Prelude.{ℕ, ◌+◌, Bool, cond, List, [], ◌∷◌, map}
use Rattle.std.specs.List.{flat_map, list_any}
use Rattle.std.specs.Ordering.{match_ordering}
use Rattle.db_value.specs.Order.{record_eq, record_cmp}
use Rattle.db_value.specs.declared.record.Record.{Record}
use Rattle.db_value.specs.declared.record.Marked.{Marked}
use Rattle.db_store.specs.Table.{Table}
use Rattle.db_store.specs.Rows.{rows_where}

-- whether a row is one of these
abbrev pub has : Record → List Record → Bool
has row rows = list_any (record_eq row) rows

-- a row in its place among rows in order, unless it is there
abbrev pub put_row : Record → List Record → List Record
put_row row [] = row ∷ []
put_row row (r ∷ rows) = match_ordering (record_cmp row r) (row ∷ r ∷ rows) (r ∷ rows) (r ∷ put_row row rows)

-- each of the rows once, by key and then by fields
abbrev pub distinct : List Record → List Record
distinct [] = []
distinct (row ∷ rows) = put_row row (distinct rows)

-- the rows of all lists, each once
abbrev pub union_of : List (List Record) → List Record
union_of lists = distinct (flat_map (λ rows. rows) lists)

-- the numbers of the lists that have a row, ascending, where the first list has number n
abbrev pub positions_from : ℕ → Record → List (List Record) → List ℕ
positions_from n row [] = []
positions_from n row (rows ∷ lists) = cond (has row rows) (n ∷ positions_from (n + 1) row lists) (positions_from (n + 1) row lists)

-- a row with the positions of the lists that have it
abbrev pub marked_in : List (List Record) → Record → Marked
marked_in lists row = record { row = row; positions = positions_from 0 row lists }

-- each row of any of the lists, once, with their positions
abbrev pub union_marked : List (List Record) → List Marked
union_marked lists = map (marked_in lists) (union_of lists)

-- the rows of a relation in several tables for which a condition holds
abbrev pub multi : (Record → Bool) → ℕ → List Table → List Marked
multi p r tables = union_marked (map (rows_where p r) tables)
