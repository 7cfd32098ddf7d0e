use Rattle.std.proofs.Common.{arith, ap, ◌∙◌, List, Bool, length}
use Rattle.plain_bits.specs.Truth.{lengthened}
use Rattle.hybrid_view.proofs.ClearLemmas.{difference_bit}
use Rattle.hybrid_view.proofs.commit.difference.Goals as goal

pub returns-clause-bits : goal.returns-clause-bits
returns-clause-bits c =
    let grown = c.in_ok-grow.ensures.grown ∙ ap (λ (xs : List Bool). lengthened xs c.len.result) c.in_ok-delta.ensures in
    λ slot. difference_bit c.args.old.now c.args.new.now c.grow.new.self c.xor_into.new.other c.len.result slot grown
    (omega (arith, c.in_ok-grow.ensures.len, c.len.ensures, c.requires, ap length c.in_ok-delta.ensures)) c.xor_into.ensures.combined
