use Rattle.std.proofs.Common.{◌≡◌, take}
use Rattle.bit_rows.proofs.lane.same_rows.Given as goal

abbrev pub invariant-loop-of_relation : goal.invariant-loop-of_relation
invariant-loop-of_relation l = l.all.items ≡ take l.of_relation-index l.rows
