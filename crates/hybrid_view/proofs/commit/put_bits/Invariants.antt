use Rattle.std.proofs.Common.{◌≡◌, ℕ, cond, nat_lt, length}
use Rattle.plain_bits.specs.Truth.{bit_of}
use Rattle.hybrid_view.proofs.commit.put_bits.Given as goal

abbrev pub invariant-loop-slot : goal.invariant-loop-slot
invariant-loop-slot l = ((s : ℕ) → bit_of l.bits s ≡ cond (nat_lt s l.from) (bit_of l.fn.bits s) (nat_lt s l.slot)) × (length l.bits ≡ l.to)
