-- Relations and columns by name, and new values by the numbers of their columns.
use Rattle.std.specs.Prelude.{ℕ, List, [], ◌∷◌, map, position, Option, Some, None, Result, Ok, Err}
use Rattle.std.proofs.Common.{get_or}
use Rattle.db_value.specs.Text.{same}
use Rattle.db_value.specs.Relations.{no_relation}
use Rattle.db_value.specs.declared.schema.Relation.{Relation}
use Rattle.db_value.specs.declared.schema.Column.{Column}
use Rattle.db_value.specs.declared.condition.Set.{Set}
use Rattle.stmt_text.specs.declared.stmt.NamedSet.{NamedSet}

-- the columns of a relation, by its number
abbrev pub columns_of : List Relation → ℕ → List Column
columns_of schema r = (get_or schema r no_relation).columns

-- the number of the relation with a name
abbrev pub relation_named : List Relation → List ℕ → Option ℕ
relation_named schema name = position (λ r. same r.name name) schema

-- the number of the column with a name
abbrev pub column_named : List (List ℕ) → List ℕ → Option ℕ
column_named columns name = position (λ c. same c name) columns

-- a new value of a column
abbrev pub set_at : ℕ → NamedSet → Set
set_at column s = record { column = column; value = s.value }

-- a new value of the column with a name, in front of others
abbrev pub set_onto : NamedSet → Option ℕ → Result (List Set) (List ℕ) → Result (List Set) (List ℕ)
set_onto s None rest = Err s.column
set_onto s (Some c) (Err name) = Err name
set_onto s (Some c) (Ok sets) = Ok (set_at c s ∷ sets)

-- new values by the numbers of their columns, or the first name that no column has
abbrev pub resolved : List (List ℕ) → List NamedSet → Result (List Set) (List ℕ)
resolved columns [] = Ok []
resolved columns (s ∷ ss) = set_onto s (column_named columns s.column) (resolved columns ss)

-- the numbers of the columns alone
abbrev pub resolved_columns : Result (List Set) (List ℕ) → Result (List ℕ) (List ℕ)
resolved_columns (Err column) = Err column
resolved_columns (Ok sets) = Ok (map (λ (s : Set). s.column) sets)

-- new values of the columns with these numbers
abbrev pub sets_at : List ℕ → List NamedSet → List Set
sets_at [] sets = []
sets_at (c ∷ cs) [] = []
sets_at (c ∷ cs) (s ∷ ss) = set_at c s ∷ sets_at cs ss
