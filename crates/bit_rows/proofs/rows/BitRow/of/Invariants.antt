use Rattle.std.proofs.Common.{◌≡◌, map, take}
use Rattle.hybrid_view.specs.Deltas.{slots_of}
use Rattle.bit_rows.specs.Short.{shortest}
use Rattle.bit_rows.proofs.rows.BitRow.of.Given as goal

abbrev pub invariant-loop-index : goal.invariant-loop-index
invariant-loop-index l = l.short ≡ map shortest (map slots_of (take l.index l.deltas))
