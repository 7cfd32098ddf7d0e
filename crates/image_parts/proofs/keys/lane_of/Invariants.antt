use Rattle.std.proofs.Common.{◌≡◌, ◌+◌, drop}
use Rattle.image_parts.specs.Whole.{lane_of}
use Rattle.image_parts.proofs.keys.lane_of.Given as goal

abbrev pub invariant-rows : goal.invariant-rows
invariant-rows l = l.i + lane_of l.branch (drop l.i l.rows) ≡ lane_of l.branch l.rows
