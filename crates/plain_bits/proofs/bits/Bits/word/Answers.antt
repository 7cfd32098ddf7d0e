use Rattle.std.proofs.Common.{get_or, ap, ◌∙◌}
use Rattle.plain_bits.specs.Word.{is_set}
use Rattle.plain_bits.proofs.WordChanges.{bit_seen}
use Rattle.plain_bits.proofs.bits.Bits.word.Goals as goal

pub returns : goal.returns
returns c = λ place low.
    ap (λ n. is_set n place) (c.word_at.ensures ∙ ap (λ words. get_or words c.args.at 0) c.as_slice.ensures.value)
    ∙ bit_seen c.self.inside.len c.self.inside.words.items c.args.self.now c.args.at place c.self.invariant c.self.view_is low
