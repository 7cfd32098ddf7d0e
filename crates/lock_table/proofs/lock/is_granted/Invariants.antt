use Rattle.std.proofs.Common.{◌≡◌, drop}
use Rattle.lock_table.specs.Kept.{has_grant}
use Rattle.lock_table.proofs.lock.is_granted.Given as goal

abbrev pub invariant-loop-other : goal.invariant-loop-other
invariant-loop-other l = has_grant l.grant l.fn.grants ≡ has_grant l.grant (drop l.other-index l.fn.grants)
