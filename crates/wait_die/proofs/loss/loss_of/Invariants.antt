use Rattle.std.proofs.Common.{◌≡◌, ◌≤◌, drop, length}
use Rattle.wait_die.specs.Turns.{loss_of}
use Rattle.wait_die.proofs.loss.loss_of.Given as goal

abbrev pub invariant-loop-i : goal.invariant-loop-i
invariant-loop-i l =
    (l.least ≡ loss_of l.begun l.session (drop l.i l.wants) l.grants) × (l.i ≤ length l.wants)

abbrev pub decreases-loop-i : goal.decreases-loop-i
decreases-loop-i l = l.i
