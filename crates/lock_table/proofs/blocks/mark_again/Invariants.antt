use Rattle.lock_table.specs.Kept.{IsMarked}
use Rattle.lock_table.proofs.blocks.mark_again.Given as goal

abbrev pub invariant-loop-block : goal.invariant-loop-block
invariant-loop-block l = IsMarked l.busy l.locks
