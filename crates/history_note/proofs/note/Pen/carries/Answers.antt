use Rattle.std.proofs.Common.{subst}
use Rattle.history_note.specs.Shown.{IsPenAt}
use Rattle.history_note.proofs.Calls as calls
use Rattle.history_note.proofs.note.Pen.carries.Goals as goal

pub returns-clause-facts : goal.returns-clause-facts
returns-clause-facts g c = subst IsPenAt c.self.view_is (calls.facts_shown g.St.Store.state c.self.inside.seat.table_id c.self.inside.seat.me.0 c.self.invariant.1)
