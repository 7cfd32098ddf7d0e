use Rattle.std.proofs.Common.{arith}
use Rattle.history_note.proofs.Calls as calls
use Rattle.history_note.proofs.note.leave_line.Goals as goal

pub compare_exchange-requires : goal.compare_exchange-requires
compare_exchange-requires g c = (c.requires.table.0, omega (arith, c.requires.table.1), calls.leave_allowed _ _ _ _ _ _ c.requires.pen)
