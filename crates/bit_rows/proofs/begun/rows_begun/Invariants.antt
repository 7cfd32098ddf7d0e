use Rattle.std.proofs.Common.{◌≡◌, map, take}
use Rattle.bit_rows.specs.Rows.{begun_row}
use Rattle.bit_rows.proofs.begun.rows_begun.Given as goal

abbrev pub invariant-loop-index : goal.invariant-loop-index
invariant-loop-index l = l.rows.items ≡ map begun_row (take l.index l.live.pieces)
