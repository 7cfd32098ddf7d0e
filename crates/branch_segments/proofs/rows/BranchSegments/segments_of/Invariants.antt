use Rattle.std.proofs.Common.{◌≡◌}
use Rattle.branch_segments.specs.Marks.{is_marked, ids_where}
use Rattle.branch_segments.proofs.rows.BranchSegments.segments_of.Given as goal

abbrev pub invariant-loop-segment : goal.invariant-loop-segment
invariant-loop-segment l = l.ids.items ≡ ids_where (is_marked l.self l.branch) l.segment
