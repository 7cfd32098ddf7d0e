use Rattle.std.proofs.Common.{◌≡◌, drop}
use Rattle.lock_table.specs.Grants.{added}
use Rattle.lock_table.proofs.locks.Locks.ask.Given as goal

abbrev pub invariant-loop-need : goal.invariant-loop-need
invariant-loop-need l = record {
  to_come : added l.session (drop l.need-index l.need-items) l.self.rows ≡ added l.session l.need-items l.initial.self.rows;
  admitted : l.self.admitted ≡ l.initial.self.admitted;
}
