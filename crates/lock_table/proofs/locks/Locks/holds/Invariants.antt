use Rattle.std.proofs.Common.{◌≡◌, false, take}
use Rattle.lock_table.specs.Rows.{holds}
use Rattle.lock_table.specs.Kept.{rows_from}
use Rattle.lock_table.proofs.locks.Locks.holds.Given as goal

abbrev pub invariant-loop-need : goal.invariant-loop-need
invariant-loop-need l = holds l.session (take l.need-index l.needs) (rows_from 0 l.locks) ≡ false
