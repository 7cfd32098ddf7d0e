-- The merge of three lists of records by ascending key, walked from the front.
use Rattle.std.specs.Prelude.{◌≡◌, ℕ, ◌==◌, cond, min, List, [], ◌∷◌, length, Option, Some, None}
use Rattle.std.specs.List.{flat_map}
use Rattle.db_value.specs.declared.record.Record.{Record}
use Rattle.db_value.specs.declared.entry.Change.{Change}
use Rattle.db_value.specs.declared.condition.Prefer.{Prefer}
use Rattle.db_store.specs.Rising.{Rises}
use Rattle.db_store.specs.SameRows.{fields_in}
use Rattle.field_merge.specs.Merge.{merge_at, keys_in, change_where, clash_where, Clash}

-- the changes that make the merge of records, by key
abbrev pub record_changes : List ℕ → Prefer → ℕ → List Record → List Record → List Record → List Change
record_changes ws prefer relation base left right = flat_map (λ key. change_where ws relation key (fields_in key left) (merge_at prefer (fields_in key base) (fields_in key left) (fields_in key right))) (keys_in base left right)

-- its conflicts, by key and field
abbrev pub record_clashes : Prefer → ℕ → List Record → List Record → List Record → List Clash
record_clashes prefer relation base left right = flat_map (λ key. clash_where relation key (merge_at prefer (fields_in key base) (fields_in key left) (fields_in key right))) (keys_in base left right)

-- the first record, where it has this key
abbrev pub first_at : ℕ → List Record → Option Record
first_at key [] = None
first_at key (r ∷ rs) = cond (r.key == key) (Some r) None

-- the records without the first one, where it has this key
abbrev pub behind : ℕ → List Record → List Record
behind key [] = []
behind key (r ∷ rs) = cond (r.key == key) rs (r ∷ rs)

-- the key of the first record, if there is one
abbrev pub first_key : List Record → Option ℕ
first_key [] = None
first_key (r ∷ rs) = Some r.key

-- the lesser of two keys, of those that are there
abbrev pub lesser : Option ℕ → Option ℕ → Option ℕ
lesser None b = b
lesser (Some x) None = Some x
lesser (Some x) (Some y) = Some (min x y)

-- the least key of three lists
abbrev pub least_key : List Record → List Record → List Record → Option ℕ
least_key base left right = lesser (first_key base) (lesser (first_key left) (first_key right))

-- every record has so many fields
abbrev pub HaveFields : ℕ → List Record → Type 0
HaveFields n [] = Unit {0}
HaveFields n (r ∷ rs) = (length r.fields ≡ n) × HaveFields n rs

-- records of one relation in three versions, each by ascending key
pub record AreSides (base left right : List Record) : Type 0 where
  pub base_rises : Rises base
  pub left_rises : Rises left
  pub right_rises : Rises right
  pub fields : (n : ℕ) × HaveFields n base × HaveFields n left × HaveFields n right
