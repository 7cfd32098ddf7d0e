use Rattle.std.proofs.Common.{◌∙◌}
use Rattle.plain_bits.specs.Truth.{bit_of}
use Rattle.commit_history.proofs.Places.{word_more}
use Rattle.commit_history.proofs.delta.flip_all.Goals as goal

pub loop-word-preserved : goal.loop-word-preserved
loop-word-preserved c = record {
  len = c.xor_word.ensures.len ∙ c.loop-word.invariant.len;
  bits = λ place.
      word_more c.args.words.now c.loop-word.word-index _ place (bit_of c.args.bits.now place) _ _ c.loop-word-test.true (c.xor_word.ensures.bits place) (c.loop-word.invariant.bits place);
}
