use Rattle.std.proofs.Common.{◌≡◌, map, take}
use Rattle.db_image.specs.Parts.{row_part}
use Rattle.db_image.proofs.rows.rows_of.Given as goal

abbrev pub invariant-loop-row : goal.invariant-loop-row
invariant-loop-row l = l.parts.items ≡ map (row_part l.size) (take l.row-index l.rows)
