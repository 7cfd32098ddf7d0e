-- The merge of records that have one key.
use Rattle.std.specs.Prelude.{◌≡◌, ℕ, Bool, cond, List, length, Option, Some, None, Result, Ok, Err}
use Rattle.db_value.specs.Value.{Value, field_at}
use Rattle.db_value.specs.declared.record.Record.{Record}
use Rattle.db_value.specs.declared.condition.Prefer.{Prefer}
use Rattle.field_merge.specs.declared.merged.Merged.{Merged}
use Rattle.field_merge.specs.declared.merged.Merged.TheVariants.{Gone, There, Conflict}
use Rattle.field_merge.specs.Merge.{merge_at}

-- the fields of a record, if there is one
abbrev pub fields_if : Option Record → Option (List Value)
fields_if None = None
fields_if (Some row) = Some row.fields

-- the record, if it was read
abbrev pub row_if : Bool → Record → Option Record
row_if read row = cond read (Some row) None

-- a record, if there is one, of this key
abbrev pub HasKey : ℕ → Option Record → Type 0
HasKey key None = Unit {0}
HasKey key (Some row) = row.key ≡ key

-- the value of a column
abbrev pub field_if : Option (List Value) → ℕ → Option Value
field_if None column = None
field_if (Some fields) column = Some (field_at fields column)

-- what a merge that says this with these fields has there: no record, the record with them, or the conflict
abbrev pub told : Merged → List Value → Result (Option (List Value)) (Option ℕ)
told Gone fields = Ok None
told There fields = Ok (Some fields)
told (Conflict field) fields = Err field

-- what the merge of three records of one key has there, or what is in conflict
abbrev pub merge_records : Prefer → Option Record → Option Record → Option Record → Result (Option (List Value)) (Option ℕ)
merge_records prefer base left right = merge_at prefer (fields_if base) (fields_if left) (fields_if right)

-- fields, if they are there, as many as others
abbrev pub AreAsLong : Option (List Value) → List Value → Type 0
AreAsLong None others = Unit {0}
AreAsLong (Some fields) others = length fields ≡ length others

-- a record, if there is one, of this key and with so many fields
abbrev pub IsOf : ℕ → ℕ → Option Record → Type 0
IsOf key n None = Unit {0}
IsOf key n (Some row) = (row.key ≡ key) × (length row.fields ≡ n)

-- records of one key and with as many fields
abbrev pub AreAlike : Option Record → Option Record → Type 0
AreAlike None b = Unit {0}
AreAlike (Some x) None = Unit {0}
AreAlike (Some x) (Some y) = (x.key ≡ y.key) × (length x.fields ≡ length y.fields)

-- the base and both sides are
pub record AreVersions (base left right : Option Record) : Type 0 where
  pub base_left : AreAlike base left
  pub base_right : AreAlike base right
  pub left_right : AreAlike left right
