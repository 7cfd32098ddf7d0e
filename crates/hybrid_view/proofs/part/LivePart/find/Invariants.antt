use Rattle.plain_bits.specs.Truth.{bit_of}
use Rattle.hybrid_view.proofs.WalkLemmas.{IsLeft, slots_left}
use Rattle.hybrid_view.proofs.part.LivePart.find.Given as goal

abbrev pub invariant-loop-at : goal.invariant-loop-at
invariant-loop-at l = IsLeft l.self.rows.records (bit_of l.self.bits) l.key l.at

abbrev pub decreases-loop-at : goal.decreases-loop-at
decreases-loop-at l = slots_left l.at
