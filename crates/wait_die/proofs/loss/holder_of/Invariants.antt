use Rattle.std.proofs.Common.{◌≡◌, ◌≤◌, drop, length}
use Rattle.wait_die.specs.Turns.{least_session, is_against}
use Rattle.wait_die.proofs.loss.holder_of.Given as goal

abbrev pub invariant-loop-i : goal.invariant-loop-i
invariant-loop-i l =
    (l.least ≡ least_session (is_against l.session l.wants) (drop l.i l.grants)) × (l.i ≤ length l.grants)

abbrev pub decreases-loop-i : goal.decreases-loop-i
decreases-loop-i l = l.i
