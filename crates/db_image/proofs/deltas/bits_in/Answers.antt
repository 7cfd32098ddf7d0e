use Rattle.std.proofs.Common.{ap, ◌∙◌}
use Rattle.plain_bits.specs.Truth.{lengthened}
use Rattle.db_image.proofs.Slots.{bits_are}
use Rattle.db_image.proofs.deltas.bits_in.Goals as goal

pub returns : goal.returns
returns c = bits_are c.args.size c.args.delta.now c.grow.new.self c.put_words.new.bits (c.in_ok-grow.ensures.grown ∙ ap (λ bits. lengthened bits c.args.size) c.new-bits.ensures) c.put_words.ensures.len c.put_words.ensures.bits
