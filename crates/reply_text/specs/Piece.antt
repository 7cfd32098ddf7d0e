-- What the lines of replies are made of: numbers, names, fields and records.
use Rattle.std.specs.Prelude.{ℕ, List, [], ◌∷◌, ◌++◌, codes}
use Rattle.std.specs.List.{flat_map}
use Rattle.std.specs.Fmt.{decimal}
use Rattle.db_value.specs.Value.{Value}
use Rattle.db_value.specs.ValueText.{value_text}
use Rattle.db_value.specs.declared.record.Record.{Record}

-- the byte that ends each line
abbrev pub line_end : List ℕ
line_end = 10 ∷ []

-- a name and a number
abbrev pub numbered_text : List ℕ → ℕ → List ℕ
numbered_text name n = name ++ 32 ∷ decimal n

-- a field behind a space
abbrev pub field_text : Value → List ℕ
field_text v = 32 ∷ value_text v

-- a record: its key, then its fields
abbrev pub record_text : Record → List ℕ
record_text r = codes "row " ++ decimal r.key ++ flat_map field_text r.fields

-- the last line of a list: what was counted, and how many there are
abbrev pub count_text : List ℕ → ℕ → List ℕ
count_text counted n = numbered_text counted n ++ line_end
