-- What the merge of three tables gives, and what it tells of a conflict.
use Rattle.std.specs.Prelude.{◌≡◌, ◌<◌, ℕ, true, List, [], length, Option, Some, Result, Ok, Err}
use Rattle.std.specs.List.{list_all}
use Rattle.std.specs.FinMap as finite
use Rattle.db_value.specs.Relations.{columns_at}
use Rattle.db_value.specs.declared.entry.Change.{Change}
use Rattle.db_value.specs.declared.schema.Relation.{Relation}
use Rattle.db_value.specs.declared.condition.Prefer.{Prefer}
use Rattle.db_value.specs.declared.condition.Prefer.TheVariants.{Neither}
use Rattle.db_store.specs.Table.{Table, relation_at, with_changes}
use Rattle.db_store.specs.Counted.{IsTable}
use Rattle.db_store.specs.Overlay.{own_widths}
use Rattle.db_store.specs.RowWidths.{all_widths}
use Rattle.db_store.specs.Parts.{Part}
use Rattle.db_store.specs.Fits.{ascends, change_fits}
use Rattle.field_merge.specs.declared.stop.MergeStop.{MergeStop}
use Rattle.field_merge.specs.declared.stop.MergeStop.TheVariants.{Conflict}
use Rattle.field_merge.specs.Merge.{Clash, least_clash, merge_key, relation_changes, relation_clashes, table_changes, table_clashes}
use Rattle.field_merge.specs.Named.{IsFieldOf}
use Rattle.field_merge.specs.Shared.{PartsAgree}

-- if a merge stopped at a conflict, it has this
abbrev pub IfConflict : {T : Type 0} → Result T MergeStop → (Clash → Type 0) → Type 0
IfConflict result P = (r k : ℕ) (f : Option ℕ) → result ≡ Err (Conflict r k f) → P (record { relation = r; key = k; field = f })

-- views of three tables of the schema, whose parts agree
pub record AreViews (schema : List Relation) (base left right : Table) (bs ls rs : ℕ → List Part) : Type 0 where
  pub of_base : IsTable schema base
  pub of_left : IsTable schema left
  pub of_right : IsTable schema right
  pub agree : PartsAgree schema bs ls rs

-- changes of left that make the merge of one relation of three tables
abbrev pub changes_at : List (List ℕ) → Prefer → Table → Table → Table → ℕ → List Change
changes_at wss prefer base left right r = relation_changes (own_widths wss r) prefer r (relation_at base r) (relation_at left r) (relation_at right r)

-- its conflicts
abbrev pub clashes_at : Prefer → Table → Table → Table → ℕ → List Clash
clashes_at prefer base left right r = relation_clashes prefer r (relation_at base r) (relation_at left r) (relation_at right r)

-- the three tables have no conflict; left with these changes, which fit the schema and ascend, is their merge at each key
pub record MakesMerge (schema : List Relation) (prefer : Prefer) (base left right : Table) (made_of : List Change) : Type 0 where
  pub changes : made_of ≡ table_changes (all_widths schema) prefer base left right
  pub free : table_clashes prefer base left right ≡ []
  pub made : (r key : ℕ) → r < length schema
      → merge_key prefer (relation_at base r) (relation_at left r) (relation_at right r) key ≡ Ok (finite.get (relation_at (with_changes left made_of) r) key)
  pub order : ascends made_of ≡ true
  pub fit : list_all (change_fits schema) made_of ≡ true

-- the first conflict of the three tables, where no side is preferred: at a relation of the schema, and at a column of it or the whole record
pub record IsFirstClash (schema : List Relation) (prefer : Prefer) (base left right : Table) (clash : Clash) : Type 0 where
  pub least : least_clash (table_clashes prefer base left right) ≡ Some clash
  pub asked : prefer ≡ Neither
  pub relation_there : clash.relation < length schema
  pub field_there : IsFieldOf (length (columns_at schema clash.relation)) clash.field
