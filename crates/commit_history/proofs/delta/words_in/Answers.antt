use Rattle.std.proofs.Common.{◌*◌, ◌<◌, arith}
use Rattle.commit_history.proofs.Places.{below_next, above_next, word_fits}
use Rattle.commit_history.proofs.delta.words_in.Goals as goal

pub loop-at-preserved : goal.loop-at-preserved
loop-at-preserved c =
    let bits = c.args.bits.now in
    let at = c.loop-at.at in
    let inside : 64 * at < c.args.len = omega (arith, c.loop-at-test.true, c.div_ceil-at-end.ensures) in
    record {
      below = below_next c.loop-at.words.items _ bits at c.word.result c.loop-at.invariant.below c.loop-at.invariant.above c.word.ensures c.in_ok-push_word.ensures.bits;
      above = above_next c.loop-at.words.items _ at c.word.result c.loop-at.invariant.above c.in_ok-push_word.ensures.bits;
      within = c.in_ok-push_word.ensures.within c.args.len c.loop-at.invariant.within inside (word_fits bits at c.word.result c.args.len c.word.ensures c.requires);
    }
