use Rattle.std.proofs.Common.{◌≡◌, length, ap, sym, ◌∙◌, arith}
use Rattle.plain_bits.specs.Truth.{lengthened}
use Rattle.commit_history.specs.Combined.{xor_of}
use Rattle.commit_history.proofs.Exclusive.{xor_of-lengthened}
use Rattle.commit_history.proofs.Places.{length-values_of}
use Rattle.commit_history.proofs.delta.Delta.combine.Goals as goal

pub combine_into-requires : goal.combine_into-requires
combine_into-requires c =
    let n = length-values_of c.self.inside.len c.self.inside.words.items in
    let m = ap length c.self.view_is in
    omega (arith, n, m, c.in_ok-grow.ensures.len)

pub returns-clause-combined : goal.returns-clause-combined
returns-clause-combined c =
    let n = length-values_of c.self.inside.len c.self.inside.words.items in
    let m = ap length c.self.view_is in
    c.combine_into.ensures
    ∙ ap (xor_of c.args.self.now) (c.in_ok-grow.ensures.grown ∙ ap (lengthened c.args.bits.now) (sym n ∙ m))
    ∙ xor_of-lengthened c.args.self.now c.args.bits.now
