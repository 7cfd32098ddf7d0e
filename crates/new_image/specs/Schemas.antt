-- The schemas that a text can declare.
use Rattle.std.specs.Prelude.{◌≡◌, ℕ, true, List, [], ◌∷◌, Ok}
use Rattle.db_value.specs.Text.{is_name}
use Rattle.db_value.specs.Schema.{schema_of}
use Rattle.db_value.specs.declared.schema.Relation.{Relation}
use Rattle.new_image.specs.Image.{is_schema, names_of}

-- a text declares these relations
abbrev pub IsDeclared : List Relation → Type 0
IsDeclared rs = (text : List ℕ) × (more : List (List ℕ)) × (schema_of text ≡ Ok (rs, more))

-- these are names
abbrev pub AreNames : List (List ℕ) → Type 0
AreNames [] = Unit {0}
AreNames (name ∷ names) = (is_name name ≡ true) × AreNames names

-- the relations and their columns have names
abbrev pub AreNamed : List Relation → Type 0
AreNamed [] = Unit {0}
AreNamed (r ∷ rs) = (is_name r.name ≡ true) × AreNames (names_of r) × AreNamed rs

-- the relations are a schema, with names that can be
pub record IsSchema (rs : List Relation) : Type 0 where
  pub counted : is_schema rs ≡ true
  pub named : AreNamed rs
