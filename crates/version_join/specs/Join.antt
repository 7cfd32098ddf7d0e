-- Questions to two tables.
use Rattle.std.specs.Prelude.{ℕ, Bool, true, not, List, [], ◌∷◌, Option, Some, None}
use Rattle.std.specs.List.{filter, flat_map}
use Rattle.std.specs.FinMap as finite
use Rattle.db_value.specs.Value.{Value, fields_eq}
use Rattle.db_value.specs.declared.record.Record.{Record}
use Rattle.db_value.specs.declared.pairs.Pair.{Pair}
use Rattle.db_store.specs.Table.{Table, Contents, relation_at, rows_of}
use Rattle.db_store.specs.Rows.{rows_where}

-- a record beside the fields at its key on the other side, where there are any
abbrev pub pair_with : Record → Option (List Value) → List Pair
pair_with row None = []
pair_with row (Some fields) = record { key = row.key; left = row.fields; right = fields } ∷ []

-- records, each beside the one with its key in a relation, where there is one
abbrev pub pairs_of : List Record → Contents → List Pair
pairs_of rows right = flat_map (λ row. pair_with row (finite.get right row.key)) rows

-- the records of relation r of t for which a condition holds, by key, each beside the one with its key in relation s of u
abbrev pub join_of : (Record → Bool) → Table → ℕ → Table → ℕ → List Pair
join_of p t r u s = pairs_of (rows_where p r t) (relation_at u s)

-- whether the other side has no fields at the record's key, or others
abbrev pub differs : Record → Option (List Value) → Bool
differs row None = true
differs row (Some fields) = not (fields_eq row.fields fields)

-- the records that a relation hasn't, or has with other fields
abbrev pub unlike : List Record → Contents → List Record
unlike rows right = filter (λ row. differs row (finite.get right row.key)) rows

-- the records of a relation of t, by key, that u hasn't, or has with other fields
abbrev pub minus_of : Table → Table → ℕ → List Record
minus_of t u r = unlike (rows_of (relation_at t r)) (relation_at u r)
