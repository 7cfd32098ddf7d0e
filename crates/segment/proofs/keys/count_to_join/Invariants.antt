use Rattle.std.proofs.Common.{◌≡◌}
use Rattle.segment.proofs.keys.count_to_join.Given as goal

abbrev pub invariant-loop-run : goal.invariant-loop-run
invariant-loop-run l = l.count ≡ l.run-index
