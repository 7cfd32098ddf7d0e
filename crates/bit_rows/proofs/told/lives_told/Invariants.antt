use Rattle.std.proofs.Common.{◌≡◌, take}
use Rattle.bit_rows.specs.Told.{lives_among}
use Rattle.bit_rows.proofs.told.lives_told.Given as goal

abbrev pub invariant-loop-lane : goal.invariant-loop-lane
invariant-loop-lane l = l.lives.items ≡ lives_among l.relation l.segment (take l.lane-index l.lanes)
