use Rattle.std.proofs.Common.{◌≡◌, [], length}
use Rattle.std.specs.List.{All}
use Rattle.lock_table.proofs.blocks.free_locks.Given as goal

abbrev pub invariant-loop : goal.invariant-loop
invariant-loop l = (length l.locks.items ≡ l.counter) × All (λ k. k.grants ≡ []) l.locks.items
