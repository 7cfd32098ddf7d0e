use Rattle.std.proofs.Common.{◌≤◌, length}
use Rattle.plain_bits.specs.Truth.{IsClearFrom}
use Rattle.bit_rows.proofs.rows.end_in.Given as goal

abbrev pub invariant-loop-end : goal.invariant-loop-end
invariant-loop-end l = (l.end ≤ length l.bits) × IsClearFrom l.bits l.end

abbrev pub decreases-loop-end : goal.decreases-loop-end
decreases-loop-end l = l.end
