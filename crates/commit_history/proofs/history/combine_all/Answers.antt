use Rattle.std.proofs.Common.{sym}
use Rattle.commit_history.proofs.Exclusive.{next_combined}
use Rattle.commit_history.proofs.history.combine_all.Goals as goal

pub loop-delta-preserved : goal.loop-delta-preserved
loop-delta-preserved c =
    next_combined c.args.deltas.now c.loop-delta.delta-index c.delta-item.result c.args.bits.now c.loop-delta.bits c.combine.new.bits c.loop-delta-test.true
    (sym c.delta-item.is) c.in_ok-combine.ensures.combined c.loop-delta.invariant
