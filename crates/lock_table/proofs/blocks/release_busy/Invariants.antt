use Rattle.std.proofs.Common.{◌≡◌, ◌-◌, ◌++◌, map, take, drop, length}
use Rattle.lock_table.specs.Kept.{without_grants}
use Rattle.lock_table.proofs.blocks.release_busy.Given as goal

abbrev pub invariant-loop-at : goal.invariant-loop-at
invariant-loop-at l = l.locks ≡ map (without_grants l.session) (take l.at l.initial.locks) ++ drop l.at l.initial.locks

abbrev pub decreases-loop-at : goal.decreases-loop-at
decreases-loop-at l = length l.initial.locks - l.at
