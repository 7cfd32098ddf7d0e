use Rattle.std.proofs.Common.{length, ap, ◌∙◌, true, length-set}
use Rattle.std.specs.Prelude.{slice_set}
use Rattle.branch_segments.specs.Marks.{row_at}
use Rattle.store_tests.proofs.branch_segments_tests.mark.Goals as goal

pub returns-clause-branches : goal.returns-clause-branches
returns-clause-branches c =
    let m = c.args.rows.now in
    ap (λ n. length n.rows) c.mark.ensures ∙ length-set m.rows c.args.branch (slice_set (row_at m c.args.branch) c.args.segment true)
