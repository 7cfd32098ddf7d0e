-- When a granted transaction may merge.
use Rattle.std.specs.Prelude.{◌≡◌, ℕ, List, [], ◌∷◌, None}
use Rattle.db_store.specs.Table.{Table}
use Rattle.db_store.specs.Counted.{IsTable}
use Rattle.db_store.specs.Overlay.{untouched}
use Rattle.db_store.specs.Parts.{Part}
use Rattle.branch_tx.specs.Granted.{Granted}
use Rattle.branch_tx.specs.Shown.{parts_by, ViewsAgree}

-- it has changed nothing, its branch's table and the two that it is given are of its schema, and the views of the three agree
pub record MayMerge (g : Granted) (base right : Table) (bs rs : ℕ → List Part) : Type 0 where
  pub untouched : g.overlays ≡ untouched
  pub first : g.second ≡ None
  pub of_left : IsTable g.schema g.head
  pub of_base : IsTable g.schema base
  pub of_right : IsTable g.schema right
  pub agree : ViewsAgree (g.below ∷ parts_by bs ∷ parts_by rs ∷ [])
