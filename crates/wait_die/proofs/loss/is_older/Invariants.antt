use Rattle.std.proofs.Common.{◌≡◌, drop}
use Rattle.wait_die.specs.Waiting.{is_older}
use Rattle.wait_die.proofs.loss.is_older.Given as goal

abbrev pub invariant-loop-session : goal.invariant-loop-session
invariant-loop-session l = is_older l.fn.begun l.first l.second ≡ is_older (drop l.session-index l.fn.begun) l.first l.second
