use Rattle.std.proofs.Common.{◌<◌}
use Rattle.csv_port.proofs.rows.sizes_of.Given as goal

-- a row has some bytes
abbrev pub invariant-loop-width : goal.invariant-loop-width
invariant-loop-width l = 0 < l.sizes.least
