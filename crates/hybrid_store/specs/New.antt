-- What a new store keeps.
use Rattle.std.specs.Prelude.{◌≡◌, ℕ, ◌<◌, List, [], ◌∷◌, length}
use Rattle.std.proofs.Common.{get_or}
use Rattle.db_value.specs.Relations.{widths_at}
use Rattle.db_value.specs.declared.schema.Relation.{Relation}
use Rattle.record_page.specs.Page.{Rows}
use Rattle.hybrid_view.specs.Live.{Lived, lived_at, empty_lived}
use Rattle.bit_rows.specs.Kept.{KeptLane, first_row}

-- the records of a relation's head
abbrev pub own_at : List Rows → ℕ → Rows
own_at owns r = get_or owns r (record { widths = []; records = [] })

-- what master has at first of a relation: its head, segment 0
abbrev pub first_lived : Rows → Lived
first_lived own = empty_lived (record { segment = 0; rows = own; bits = [] })

-- heads without records, one for each relation
pub record AreEmpty (schema : List Relation) (owns : List Rows) : Type 0 where
  pub count : length owns ≡ length schema
  pub each : (r : ℕ) → r < length schema → own_at owns r ≡ record { widths = widths_at schema r; records = [] }

-- a branch has, in each of so many relations, an empty head with these records, and the row of it
pub record IsFirst (width : ℕ) (owns : List Rows) (k : KeptLane) : Type 0 where
  pub count : length k.rows ≡ width
  pub wide : length k.head ≡ width
  pub rows : (r : ℕ) → r < width → get_or k.rows r [] ≡ first_row ∷ []
  pub lived : (r : ℕ) → r < width → lived_at k.head r ≡ first_lived (own_at owns r)
