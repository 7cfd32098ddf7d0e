use Rattle.std.proofs.Common.{◌≡◌}
use Rattle.branch_segments.specs.Marks.{any_marked, ids_where}
use Rattle.branch_segments.proofs.rows.BranchSegments.union.Given as goal

abbrev pub invariant-loop-segment : goal.invariant-loop-segment
invariant-loop-segment l = l.ids.items ≡ ids_where (any_marked l.self l.branches) l.segment
