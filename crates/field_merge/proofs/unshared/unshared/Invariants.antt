use Rattle.std.proofs.Common.{◌≡◌, ◌+◌, false, cond}
use Rattle.field_merge.specs.Turns.{waiting, AreTaken}
use Rattle.field_merge.specs.Shared.{IsSplitAt}
use Rattle.field_merge.proofs.unshared.unshared.Given as goal

-- the records of the parts so far, and at the end all parts were taken
abbrev pub invariant-loop-more : goal.invariant-loop-more
invariant-loop-more g l =
    let bs = g.B.View.parts_of l.base l.relation in
    let ls = g.L.View.parts_of l.left l.relation in
    let rs = g.R.View.parts_of l.right l.relation in
    record {
      split : IsSplitAt bs ls rs l.taken l.sides;
      end : l.more ≡ false → AreTaken bs ls rs l.taken;
    }

abbrev pub decreases-loop-more : goal.decreases-loop-more
decreases-loop-more g l = waiting (g.B.View.parts_of l.base l.relation) (g.L.View.parts_of l.left l.relation) (g.R.View.parts_of l.right l.relation) l.taken + cond l.more 1 0
