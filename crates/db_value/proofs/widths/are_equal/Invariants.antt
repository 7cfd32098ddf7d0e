use Rattle.std.proofs.Common.{◌≡◌, take}
use Rattle.db_value.proofs.widths.are_equal.Given as goal

-- the widths so far are the same
abbrev pub invariant-loop-at : goal.invariant-loop-at
invariant-loop-at l = take l.at l.mine ≡ take l.at l.others
