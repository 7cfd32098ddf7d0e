use Rattle.std.proofs.Common.{◌≡◌, ◌<◌, ℕ, length}
use Rattle.plain_bits.specs.Truth.{bit_of, differ}
use Rattle.image_parts.proofs.Flips.{first_words}
use Rattle.db_image.proofs.deltas.put_words.Given as goal

abbrev pub invariant-words : goal.invariant-words
invariant-words l = record {
  len : length l.bits ≡ length l.fn.bits;
  bits : (k : ℕ) → k < length l.fn.bits → bit_of l.bits k ≡ differ (first_words l.delta.first l.delta.words l.i k) (bit_of l.fn.bits k);
}
