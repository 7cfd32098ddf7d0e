use Rattle.std.proofs.Common.{◌≡◌, ◌≤◌, drop, length}
use Rattle.db_value.specs.Relations.{columns_at}
use Rattle.line_needs.specs.Columns.{resolved, resolved_columns}
use Rattle.line_needs.proofs.SetLemmas.{behind}
use Rattle.line_needs.proofs.columns.resolve.Given as goal

-- the columns so far, no more than were read, and those of the others, are all
abbrev pub invariant-loop-set : goal.invariant-loop-set
invariant-loop-set l =
    (resolved_columns (resolved (columns_at l.schema l.relation) l.sets) ≡ behind l.columns (resolved (columns_at l.schema l.relation) (drop l.set-index l.sets)))
    × (length l.columns ≤ l.set-index)
