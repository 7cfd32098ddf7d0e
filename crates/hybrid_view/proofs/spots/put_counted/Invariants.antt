use Rattle.std.proofs.Common.{◌≡◌, ◌++◌, drop}
use Rattle.plain_bits.specs.Truth.{bit_of}
use Rattle.hybrid_view.specs.Spots.{spots_in, spots_of_piece}
use Rattle.hybrid_view.proofs.spots.put_counted.Given as goal

abbrev pub invariant-loop-slot : goal.invariant-loop-slot
invariant-loop-slot g l = l.spots.items ++ spots_in l.part.segment l.slot (drop l.slot l.part.rows.records) (bit_of l.part.bits) ≡ l.initial.spots.items ++ spots_of_piece l.part
