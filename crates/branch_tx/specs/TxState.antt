-- How a branch was granted, and what holds of a working table and of the versions that were lent.
use Rattle.std.specs.Prelude.{◌≡◌, ◌<◌, ℕ, Bool, true, List, [], length, Option, Some, None}
use Rattle.std.specs.FinMap as finite
use Rattle.std.proofs.Common.{get_or}
use Rattle.db_value.specs.Value.{Value}
use Rattle.db_value.specs.Widths.{meets}
use Rattle.db_value.specs.Relations.{widths_at}
use Rattle.db_value.specs.declared.schema.Relation.{Relation}
use Rattle.db_store.specs.Table.{Table, relation_at}
use Rattle.branch_tx.specs.declared.tx.Held.{Held}

-- whether the branch is held exclusively, and whether it is full, if it is held
abbrev pub held_of : Option Held → Option (Bool × Bool)
held_of None = None
held_of (Some h) = Some (h.exclusive, h.full)

-- each table has n relations
abbrev pub AllWide : ℕ → List Table → Type 0
AllWide n ts = (i : ℕ) → i < length ts → length (get_or ts i []) ≡ n

-- each row of a table meets the widths of its relation
abbrev pub AreMet : List Relation → Table → Type 0
AreMet schema t = (r key : ℕ) (fields : List Value) → r < length t → finite.get (relation_at t r) key ≡ Some fields → meets (widths_at schema r) fields ≡ true
