use Rattle.lock_table.proofs.Kept.{empty_rows}
use Rattle.lock_table.proofs.locks.Locks.new.Goals as goal

pub returns-clause-rows : goal.returns-clause-rows
returns-clause-rows c = empty_rows 0 _ c.in_ok-new.ensures.free
