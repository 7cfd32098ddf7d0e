use Rattle.std.proofs.Common.{◌≡◌, ℕ, ◌&&◌, not, length, take}
use Rattle.plain_bits.specs.Truth.{bit_of}
use Rattle.hybrid_view.specs.Struck.{struck}
use Rattle.hybrid_view.proofs.commit.cleared.Given as goal

abbrev pub invariant-loop-place : goal.invariant-loop-place
invariant-loop-place l = ((slot : ℕ) → bit_of l.new slot ≡ (bit_of l.bits slot && not (struck (take l.place-index l.places) l.segment slot))) × (length l.new ≡ length l.bits)
