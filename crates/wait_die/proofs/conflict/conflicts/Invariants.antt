use Rattle.std.proofs.Common.{◌≡◌, drop}
use Rattle.wait_die.specs.Conflict.{conflicts}
use Rattle.wait_die.proofs.conflict.conflicts.Given as goal

abbrev pub invariant-loop-want : goal.invariant-loop-want
invariant-loop-want l = conflicts l.fn.wants l.other ≡ conflicts (drop l.want-index l.fn.wants) l.other
