use Rattle.std.proofs.Common.{arith}
use Rattle.db_image.proofs.ImageWords.{word_is, words_next}
use Rattle.db_image.proofs.image_deltas.words_from.Goals as goal

pub loop-at-preserved : goal.loop-at-preserved
loop-at-preserved c =
    let a = c.loop-at.auto.at in
    let t = c.loop-at-test.true in
    record {
      words =
          words_next c.args.bits.now c.args.first c.loop-at.at c.loop-at.words.items c.push.new.self.items c.word.result (omega (arith, a)) c.in_ok-push.ensures.items
          (word_is c.args.bits.now c.loop-at.at c.word.result (omega (arith, c.word.type_inv)) c.word.ensures) c.loop-at.invariant.words;
      within = omega (arith, a, t);
    }
