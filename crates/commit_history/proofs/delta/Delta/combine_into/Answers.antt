use Rattle.std.proofs.Common.{◌≡◌, Bool, length, ap, sym, ◌∙◌, arith}
use Rattle.std.proofs.lemmas.List.Elements.{All-same}
use Rattle.plain_bits.specs.Truth.{bit_of, differ}
use Rattle.commit_history.specs.Sparse.{bit_in, IsWithin}
use Rattle.commit_history.proofs.Exclusive.{is_xor}
use Rattle.commit_history.proofs.Places.{within_longer, bit-values_of, length-values_of}
use Rattle.commit_history.proofs.delta.Delta.combine_into.Goals as goal

pub flip_all-requires : goal.flip_all-requires
flip_all-requires c =
    let s = c.self.inside in
    let n = length-values_of s.len s.words.items in
    let m = ap length c.self.view_is in
    All-same (IsWithin (length c.args.bits.now)) _ _ c.deref.ensures.value
    (within_longer s.len (length c.args.bits.now) s.words.items (omega (arith, n, m, c.requires)) c.self.invariant)

pub returns : goal.returns
returns c =
    let s = c.self.inside in
    is_xor c.args.self.now c.args.bits.now c.flip_all.new.bits c.requires c.flip_all.ensures.len (λ k.
    c.flip_all.ensures.bits k
    ∙ ap (λ (b : Bool). differ b (bit_of c.args.bits.now k))
    (ap (λ ws. bit_in ws k) c.deref.ensures.value ∙ sym (bit-values_of s.len s.words.items k c.self.invariant) ∙ ap (λ bits. bit_of bits k) c.self.view_is))
