use Rattle.std.proofs.Common.{◌≤◌, take}
use Rattle.std.specs.List.{All, AllZip}
use Rattle.lock_table.specs.Kept.{Grows}
use Rattle.lock_table.proofs.blocks.reserve_all.Given as goal

abbrev pub invariant-loop-lock : goal.invariant-loop-lock
invariant-loop-lock l = AllZip Grows l.initial.lock-items l.lock-items × All (λ k. l.room ≤ k.room) (take l.lock-index l.lock-items)
