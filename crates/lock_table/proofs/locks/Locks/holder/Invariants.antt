use Rattle.std.proofs.Common.{take}
use Rattle.lock_table.specs.Kept.{rows_from}
use Rattle.lock_table.proofs.Least.{IsLeast, Blocking}
use Rattle.lock_table.proofs.locks.Locks.holder.Given as goal

abbrev pub invariant-loop-need : goal.invariant-loop-need
invariant-loop-need l = IsLeast (Blocking l.session (take l.need-index l.needs) (rows_from 0 l.locks)) l.least
