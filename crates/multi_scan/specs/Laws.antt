-- A scan of one table.
use Rattle.std.specs.Prelude.{◌≡◌, ℕ, Bool, [], ◌∷◌, map}
use Rattle.db_value.specs.declared.record.Record.{Record}
use Rattle.db_store.specs.Table.{Table}
use Rattle.db_store.specs.Rows.{rows_where, marked}
use Rattle.multi_scan.specs.Multi.{multi}

-- of one table each row is listed with position 0
abbrev pub OneTable : Type 0
OneTable = (p : Record → Bool) (r : ℕ) (t : Table) → multi p r (t ∷ []) ≡ map marked (rows_where p r t)
