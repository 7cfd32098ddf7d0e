-- Working tables that are tried, and what is changed in them.
use Rattle.std.specs.Prelude.{◌≡◌, ◌<◌, ℕ, pos, List, [], ◌∷◌, length, Some}
use Rattle.db_value.specs.Relations.{widths_at}
use Rattle.db_value.specs.declared.value.Value.TheVariants.{Number}
use Rattle.db_value.specs.declared.schema.Relation.{Relation}
use Rattle.db_value.specs.declared.condition.Set.{Set}
use Rattle.db_value.specs.declared.entry.Change.{Change}
use Rattle.db_store.specs.declared.view.View.{Ghosts}
use Rattle.db_store.specs.declared.work.Work.{Work}
use Rattle.db_store.specs.Overlay.{laid}
use Rattle.db_store.specs.RowWidths.{all_widths}
use Rattle.db_store.specs.WorkState.{under_of, overlays_of, widths_of}
use Rattle.branch_tx.specs.TxState.{AreMet}

-- the first relation has two columns of numbers
abbrev pub HasTwoNumbers : List Relation → Type 0
HasTwoNumbers schema = (0 < length schema) × (widths_at schema 0 ≡ 0 ∷ 0 ∷ [])

-- a working table has the widths of a schema, and its rows meet them
pub record IsOver {V : Type 0} {g : Ghosts V} (schema : List Relation) (w : Work V g) : Type 0 where
  pub wide : length (g.table (under_of w)) ≡ length schema
  pub widths : widths_of w ≡ all_widths schema
  pub met : AreMet schema (laid (g.table (under_of w)) (overlays_of w))

-- the first column gets a new value
abbrev pub first_set : Set
first_set = record { column = 0; value = Number (pos 5) }

-- a record of a key that is put into the first relation, whose columns have these widths
abbrev pub one_change : List ℕ → ℕ → Change
one_change ws key = record { relation = 0; key = key; fields = Some (Number (pos 1) ∷ Number (pos 2) ∷ []); widths = Some ws }

-- and two of them
abbrev pub two_changes : List ℕ → List Change
two_changes ws = one_change ws 1 ∷ one_change ws 2 ∷ []
