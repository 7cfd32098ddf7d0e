-- Relations that are counted have columns of widths, and are few.
use Rattle.std.proofs.Common.{◌≡◌, ◌≤◌, true, ◌&&◌, List, [], ◌∷◌, length}
use Rattle.std.specs.Prelude.{nat_lt, nat_le}
use Rattle.std.specs.List.{All, list_all}
use Rattle.std.proofs.lemmas.Bool.{and_parts, leb-true}
use Rattle.std.proofs.lemmas.List.Elements.{All-nil, All-cons}
use Rattle.db_value.specs.Relations.{has_columns, is_counted}
use Rattle.db_value.specs.declared.schema.Relation.{Relation}

abbrev pub HasColumns : Relation → Type 0
HasColumns r = has_columns r ≡ true

columns_of : (rs : List Relation) → list_all has_columns rs ≡ true → All HasColumns rs
columns_of [] e = All-nil HasColumns
columns_of (r ∷ rs) e =
    let two = and_parts (has_columns r) (list_all has_columns rs) e in
    All-cons HasColumns r rs two.0 (columns_of rs two.1)

pub all_columns : (rs : List Relation) → is_counted rs ≡ true → All HasColumns rs
all_columns rs e = columns_of rs (and_parts (nat_lt 0 (length rs) && nat_le (length rs) 8) (list_all has_columns rs) e).1

pub few_relations : (rs : List Relation) → is_counted rs ≡ true → length rs ≤ 8
few_relations rs e = leb-true (length rs) 8 (and_parts (nat_lt 0 (length rs)) (nat_le (length rs) 8) (and_parts (nat_lt 0 (length rs) && nat_le (length rs) 8) (list_all has_columns rs) e).0).1
