-- The three-way merge of a common ancestor and two sides, by key and field. Left is the side that a merge changes.
use Rattle.std.specs.Prelude.{ℕ, ◌+◌, Bool, true, false, cond, List, [], ◌∷◌, map, nat_lt, ◌==◌, length, Option, Some, None, Result, Ok, Err}
use Rattle.std.specs.List.{flat_map, range_with_len}
use Rattle.std.specs.FinMap as finite
use Rattle.db_value.specs.Value.{Value, value_eq, fields_eq}
use Rattle.db_value.specs.declared.record.Record.{Record}
use Rattle.db_value.specs.declared.entry.Change.{Change}
use Rattle.db_value.specs.declared.condition.Prefer.{Prefer}
use Rattle.db_value.specs.declared.condition.Prefer.TheVariants.{Neither, Left, Right}
use Rattle.db_store.specs.Table.{Contents, Table, relation_at, rows_of}
use Rattle.db_store.specs.Overlay.{own_widths, change_of}

-- ---- a field

-- the side that a merge prefers; without one there is a conflict
abbrev pub preferred : {A : Type 0} → Prefer → A → A → Option A
preferred Neither left right = None
preferred Left left right = Some left
preferred Right left right = Some right

-- whether a value is that of the base, if there is a base
abbrev pub is_base : Option Value → Value → Bool
is_base None value = false
is_base (Some base) value = value_eq value base

-- Equal sides give that value, and a side with the base's value yields to the other. Any other field is in conflict.
abbrev pub merge_field : Prefer → Option Value → Value → Value → Option Value
merge_field prefer base left right = cond (value_eq left right) (Some left) (cond (is_base base left) (Some right) (cond (is_base base right) (Some left) (preferred prefer left right)))

-- ---- the fields of a record

-- the first field, if there is a record
abbrev pub first_field : Option (List Value) → Option Value
first_field None = None
first_field (Some []) = None
first_field (Some (v ∷ vs)) = Some v

-- the fields behind the first one
abbrev pub other_fields : Option (List Value) → Option (List Value)
other_fields None = None
other_fields (Some []) = Some []
other_fields (Some (v ∷ vs)) = Some vs

-- a field before the others; the first that is in conflict, by column, is told
abbrev pub field_then : ℕ → Option Value → Result (List Value) ℕ → Result (List Value) ℕ
field_then column None others = Err column
field_then column (Some v) (Ok vs) = Ok (v ∷ vs)
field_then column (Some v) (Err later) = Err later

-- two sides with as many fields, the first of which are those of this column
abbrev pub merge_fields : Prefer → ℕ → Option (List Value) → List Value → List Value → Result (List Value) ℕ
merge_fields prefer column base [] right = Ok []
merge_fields prefer column base (l ∷ ls) [] = Ok (l ∷ ls)
merge_fields prefer column base (l ∷ ls) (r ∷ rs) = field_then column (merge_field prefer (first_field base) l r) (merge_fields prefer (column + 1) (other_fields base) ls rs)

-- ---- a key, at which a table has fields or nothing

-- the two are equal: both removed, or records with equal fields
abbrev pub same_state : Option (List Value) → Option (List Value) → Bool
same_state None None = true
same_state None (Some b) = false
same_state (Some a) None = false
same_state (Some a) (Some b) = fields_eq a b

-- the column in conflict, if it is one
abbrev pub of_fields : Result (List Value) ℕ → Result (Option (List Value)) (Option ℕ)
of_fields (Ok fields) = Ok (Some fields)
of_fields (Err column) = Err (Some column)

-- the whole record is in conflict, unless a side is preferred
abbrev pub of_records : Option (Option (List Value)) → Result (Option (List Value)) (Option ℕ)
of_records None = Err None
of_records (Some state) = Ok state

-- both sides changed what the base has: to fields, which are merged one by one, or one of them took the record away
abbrev pub merge_changed : Prefer → Option (List Value) → Option (List Value) → Option (List Value) → Result (Option (List Value)) (Option ℕ)
merge_changed prefer base None right = of_records (preferred prefer None right)
merge_changed prefer base (Some l) None = of_records (preferred prefer (Some l) None)
merge_changed prefer base (Some l) (Some r) = of_fields (merge_fields prefer 0 base l r)

-- what a merge has at a key, or the column in conflict, or none for the whole record
abbrev pub merge_at : Prefer → Option (List Value) → Option (List Value) → Option (List Value) → Result (Option (List Value)) (Option ℕ)
merge_at prefer base left right = cond (same_state left right) (Ok left) (cond (same_state left base) (Ok right) (cond (same_state right base) (Ok left) (merge_changed prefer base left right)))

-- ---- the keys of a relation

-- the keys of records
abbrev pub keys_of : List Record → List ℕ
keys_of rows = map (λ row. row.key) rows

-- a key in its place among ascending keys, unless it is there
abbrev pub put_key : ℕ → List ℕ → List ℕ
put_key key [] = key ∷ []
put_key key (k ∷ ks) = cond (nat_lt key k) (key ∷ k ∷ ks) (cond (key == k) (k ∷ ks) (k ∷ put_key key ks))

-- the keys of both
abbrev pub union_keys : List ℕ → List ℕ → List ℕ
union_keys [] ks = ks
union_keys (key ∷ keys) ks = put_key key (union_keys keys ks)

-- the keys that any of three lists of records has
abbrev pub keys_in : List Record → List Record → List Record → List ℕ
keys_in base left right = union_keys (keys_of base) (union_keys (keys_of left) (keys_of right))

-- ---- changes and conflicts

-- a key whose field, or whole record where there is none, is in conflict
pub record Clash : Type 0 where
  pub relation : ℕ
  pub key : ℕ
  pub field : Option ℕ

-- the change of a key of a relation with these widths, if what the merge has there differs from what left has
abbrev pub change_where : List ℕ → ℕ → ℕ → Option (List Value) → Result (Option (List Value)) (Option ℕ) → List Change
change_where ws relation key left (Ok state) = cond (same_state state left) [] (change_of ws relation (key, state) ∷ [])
change_where ws relation key left (Err field) = []

-- the conflict at a key, if its merge is one
abbrev pub clash_where : ℕ → ℕ → Result (Option (List Value)) (Option ℕ) → List Clash
clash_where relation key (Ok state) = []
clash_where relation key (Err field) = record { relation = relation; key = key; field = field } ∷ []

-- what a relation of three tables has at a key
abbrev pub merge_key : Prefer → Contents → Contents → Contents → ℕ → Result (Option (List Value)) (Option ℕ)
merge_key prefer base left right key = merge_at prefer (finite.get base key) (finite.get left key) (finite.get right key)

-- the keys that one of the three has
abbrev pub all_keys : Contents → Contents → Contents → List ℕ
all_keys base left right = keys_in (rows_of base) (rows_of left) (rows_of right)

-- changes of left that make the merge of one relation with these widths, by key
abbrev pub relation_changes : List ℕ → Prefer → ℕ → Contents → Contents → Contents → List Change
relation_changes ws prefer relation base left right = flat_map (λ key. change_where ws relation key (finite.get left key) (merge_key prefer base left right key)) (all_keys base left right)

-- its conflicts, by key and field
abbrev pub relation_clashes : Prefer → ℕ → Contents → Contents → Contents → List Clash
relation_clashes prefer relation base left right = flat_map (λ key. clash_where relation key (merge_key prefer base left right key)) (all_keys base left right)

-- the changes of left that make the merge of three tables with these widths, by relation and key
abbrev pub table_changes : List (List ℕ) → Prefer → Table → Table → Table → List Change
table_changes wss prefer base left right = flat_map (λ r. relation_changes (own_widths wss r) prefer r (relation_at base r) (relation_at left r) (relation_at right r)) (range_with_len 0 (length left))

-- its conflicts, by relation, key and field
abbrev pub table_clashes : Prefer → Table → Table → Table → List Clash
table_clashes prefer base left right = flat_map (λ r. relation_clashes prefer r (relation_at base r) (relation_at left r) (relation_at right r)) (range_with_len 0 (length left))

-- the first of the conflicts
abbrev pub least_clash : List Clash → Option Clash
least_clash [] = None
least_clash (c ∷ cs) = Some c
