use Rattle.std.proofs.Common.{◌≡◌, ◌≤◌, ◌+◌, drop, length}
use Rattle.std.specs.Prelude.{vec_capacity}
use Rattle.wait_die.specs.Waiting.{added}
use Rattle.wait_die.proofs.grant.add_wants.Given as goal

abbrev pub invariant-loop-want : goal.invariant-loop-want
invariant-loop-want l =
    (added l.session (drop l.want-index l.fn.wants) l.grants.items ≡ added l.session l.fn.wants l.initial.grants.items)
    × (length l.grants.items + length (drop l.want-index l.fn.wants) ≤ vec_capacity l.grants)
