use Rattle.std.proofs.Common.{◌≡◌, ◌-◌, ◌++◌}
use Rattle.db_store.specs.RowWidths.{widths_from}
use Rattle.db_store.proofs.row_widths.all_widths.Given as goal

-- the widths so far, with those of the relations that are left
abbrev pub invariant-loop-relation : goal.invariant-loop-relation
invariant-loop-relation l = l.all.items ++ widths_from l.schema l.relation (8 - l.relation) ≡ widths_from l.schema 0 8
