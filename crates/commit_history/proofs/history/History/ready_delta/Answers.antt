use Rattle.std.proofs.Common.{arith}
use Rattle.commit_history.proofs.Composed.{above_short}
use Rattle.commit_history.proofs.history.History.ready_delta.Goals as goal

pub complete_by-requires-clause-few : goal.complete_by-requires-clause-few
complete_by-requires-clause-few c = above_short c.self.inside.deltas c.self.inside.by_16 c.self.invariant.sixteens c.self.invariant.short

pub complete_by-requires-2-clause-few : goal.complete_by-requires-2-clause-few
complete_by-requires-2-clause-few c =
    above_short c.self.inside.by_16 c.self.inside.by_256 c.self.invariant.more (above_short c.self.inside.deltas c.self.inside.by_16 c.self.invariant.sixteens c.self.invariant.short)
