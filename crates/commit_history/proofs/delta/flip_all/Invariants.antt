use Rattle.std.proofs.Common.{◌≡◌, ℕ, length, take}
use Rattle.plain_bits.specs.Truth.{bit_of, differ}
use Rattle.commit_history.specs.Sparse.{bit_in}
use Rattle.commit_history.proofs.delta.flip_all.Given as goal

-- the bitmap so far is changed by the words so far
abbrev pub invariant-loop-word : goal.invariant-loop-word
invariant-loop-word l = record {
  len : length l.bits ≡ length l.fn.bits;
  bits : (place : ℕ) → bit_of l.bits place ≡ differ (bit_in (take l.word-index l.words) place) (bit_of l.fn.bits place);
}
