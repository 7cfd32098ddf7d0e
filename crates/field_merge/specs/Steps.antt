-- What three lists have at a key, from places on.
use Rattle.std.specs.Prelude.{ℕ, List, drop, Option, Result}
use Rattle.db_value.specs.Value.{Value}
use Rattle.db_value.specs.declared.condition.Prefer.{Prefer}
use Rattle.field_merge.specs.declared.sides.Sides.{Sides}
use Rattle.field_merge.specs.declared.walk.Places.{Places}
use Rattle.field_merge.specs.Rows.{merge_records}
use Rattle.field_merge.specs.Walk.{first_at}

-- what a merge has there, or what is in conflict
abbrev pub merged_at : Prefer → ℕ → Sides → Places → Result (Option (List Value)) (Option ℕ)
merged_at prefer key sides at = merge_records prefer (first_at key (drop at.base sides.base)) (first_at key (drop at.left sides.left)) (first_at key (drop at.right sides.right))
