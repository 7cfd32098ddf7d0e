use Rattle.std.proofs.Common.{◌≡◌, ◌++◌, length}
use Rattle.std.specs.List.{flat_map}
use Rattle.db_store.specs.Overlay.{own_widths}
use Rattle.db_store.specs.RowWidths.{all_widths}
use Rattle.db_store.specs.Table.{relation_at}
use Rattle.field_merge.specs.Merge.{relation_changes, relation_clashes, table_changes, table_clashes}
use Rattle.field_merge.proofs.TableLemmas.{from_relation}
use Rattle.field_merge.proofs.tables.merge_tables.Given as goal

-- the changes so far with those of the relations that are left are all, and so far there is no conflict
abbrev pub invariant-loop-relation : goal.invariant-loop-relation
invariant-loop-relation g l =
    let base = g.B.View.table l.base in
    let left = g.L.View.table l.left in
    let right = g.R.View.table l.right in
    record {
      changes : l.all ++ flat_map (λ r. relation_changes (own_widths (all_widths l.schema) r) l.prefer r (relation_at base r) (relation_at left r) (relation_at right r)) (from_relation l.relation (length left)) ≡ table_changes (all_widths l.schema) l.prefer base left right;
      clashes : flat_map (λ r. relation_clashes l.prefer r (relation_at base r) (relation_at left r) (relation_at right r)) (from_relation l.relation (length left)) ≡ table_clashes l.prefer base left right;
    }
