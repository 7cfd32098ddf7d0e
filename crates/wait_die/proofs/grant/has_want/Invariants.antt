use Rattle.std.proofs.Common.{◌≡◌, drop}
use Rattle.wait_die.specs.Waiting.{has_want}
use Rattle.wait_die.proofs.grant.has_want.Given as goal

abbrev pub invariant-loop-grant : goal.invariant-loop-grant
invariant-loop-grant l = has_want l.session l.want l.fn.grants ≡ has_want l.session l.want (drop l.grant-index l.fn.grants)
