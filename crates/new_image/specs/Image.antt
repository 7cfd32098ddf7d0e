-- The image of a new dataset.
use Rattle.std.specs.Prelude.{◌&&◌, not, ℕ, Bool, true, List, [], ◌∷◌, ◌++◌, length, map, codes}
use Rattle.std.specs.Int.{w32, to_le_bytes}
use Rattle.std.specs.List.{list_all, list_any}
use Rattle.db_value.specs.Text.{same}
use Rattle.db_value.specs.Relations.{is_counted}
use Rattle.db_value.specs.declared.schema.Column.{Column}
use Rattle.db_value.specs.declared.schema.Relation.{Relation}

-- a name behind its length
abbrev pub name_bytes : List ℕ → List ℕ
name_bytes name = length name ∷ name

-- a column's name, and its width
abbrev pub column_bytes : Column → List ℕ
column_bytes c = name_bytes c.name ++ c.width ∷ []

abbrev pub columns_bytes : List Column → List ℕ
columns_bytes [] = []
columns_bytes (c ∷ cs) = column_bytes c ++ columns_bytes cs

-- a relation's name, and its columns behind their number
abbrev pub relation_bytes : Relation → List ℕ
relation_bytes r = name_bytes r.name ++ (length r.columns ∷ columns_bytes r.columns)

abbrev pub relations_bytes : List Relation → List ℕ
relations_bytes [] = []
relations_bytes (r ∷ rs) = relation_bytes r ++ relations_bytes rs

abbrev pub one_u32 : List ℕ
one_u32 = to_le_bytes w32 1

abbrev pub zero_u32 : List ℕ
zero_u32 = to_le_bytes w32 0

-- master alone, made of nothing, and no version behind the root
abbrev pub branches_bytes : List ℕ
branches_bytes = one_u32 ++ name_bytes (codes "master") ++ zero_u32 ++ zero_u32 ++ zero_u32

-- one segment, the head of master, without records, and master's row, which has one empty delta
abbrev pub segment_bytes : List ℕ
segment_bytes = one_u32 ++ one_u32 ++ zero_u32 ++ one_u32 ++ zero_u32 ++ zero_u32 ++ zero_u32 ++ zero_u32

abbrev pub segments_bytes : List Relation → List ℕ
segments_bytes [] = []
segments_bytes (r ∷ rs) = segment_bytes ++ segments_bytes rs

-- the image of the new dataset of a schema
abbrev pub image_of : List Relation → List ℕ
image_of rs = length rs ∷ (relations_bytes rs ++ (branches_bytes ++ segments_bytes rs))

-- no name stands twice
abbrev pub are_distinct : List (List ℕ) → Bool
are_distinct [] = true
are_distinct (name ∷ names) = not (list_any (same name) names) && are_distinct names

-- no relation has the name of another one
abbrev pub are_apart : List Relation → Bool
are_apart [] = true
are_apart (r ∷ rs) = not (list_any (λ s. same r.name s.name) rs) && are_apart rs

-- the names of the columns of a relation
abbrev pub names_of : Relation → List (List ℕ)
names_of r = map (λ c. c.name) r.columns

-- one to 8 relations of distinct names, each of one to 15 columns of distinct names
abbrev pub is_schema : List Relation → Bool
is_schema rs = is_counted rs && (are_apart rs && list_all (λ r. are_distinct (names_of r)) rs)
