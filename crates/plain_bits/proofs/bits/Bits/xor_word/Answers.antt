use Rattle.std.proofs.Common.{◌≡◌, ◌<◌, ℕ, List, length, take, sym, ap, ◌∙◌, subst, arith}
use Rattle.std.proofs.lemmas.List.{with_items_is}
use Rattle.plain_bits.specs.Truth.{bit_of}
use Rattle.plain_bits.specs.Word.{bits_of, IsPacked, FitsAt}
use Rattle.plain_bits.proofs.Words.{length_view}
use Rattle.plain_bits.proofs.WordChanges.{changed, IsPacked-changed, seen_after}
use Rattle.plain_bits.proofs.bits.Bits.xor_word.Goals as goal

pub xor_at-requires : goal.xor_at-requires
xor_at-requires c =
    let s = c.self.inside in
    omega (arith, ap length c.as_mut_slice.ensures.value, c.requires.within, c.self.invariant.room, length_view s.len s.words.items c.self.invariant, ap length c.self.view_is)

pub invariant_of-self : goal.invariant_of-self
invariant_of-self c =
    let s = c.self.inside in
    let long = length_view s.len s.words.items c.self.invariant in
    let count = ap length c.self.view_is in
    let fits : FitsAt c.args.at c.args.word s.len = λ place low is. let k = c.requires.fits place low is in omega (arith, k, long, count) in
    let P : List ℕ → Type 0 = λ words. IsPacked s.len words in
    subst P (sym (with_items_is s.words c.xor_at.new.words (c.xor_at.auto.words ∙ c.as_mut_slice.ensures.len) ∙ c.xor_at.ensures ∙ ap (λ words. changed words c.args.at c.args.word) c.as_mut_slice.ensures.value))
    (IsPacked-changed s.len s.words.items c.args.at c.args.word c.self.invariant (omega (arith, c.requires.within, c.self.invariant.room, long, count)) fits)

pub returns-clause-bits : goal.returns-clause-bits
returns-clause-bits c = λ place.
    let s = c.self.inside in
    let long = length_view s.len s.words.items c.self.invariant in
    let count = ap length c.self.view_is in
    let fits : FitsAt c.args.at c.args.word s.len = λ place low is. let k = c.requires.fits place low is in omega (arith, k, long, count) in
    ap (λ words. bit_of (take s.len (bits_of words)) place) (with_items_is s.words c.xor_at.new.words (c.xor_at.auto.words ∙ c.as_mut_slice.ensures.len) ∙ c.xor_at.ensures ∙ ap (λ words. changed words c.args.at c.args.word) c.as_mut_slice.ensures.value)
    ∙ seen_after s.len s.words.items c.args.self.now c.args.at c.args.word place c.self.invariant c.self.view_is (omega (arith, c.requires.within, c.self.invariant.room, long, count)) fits

pub returns-clause-len : goal.returns-clause-len
returns-clause-len c =
    let s = c.self.inside in
    length_view s.len _ (invariant_of-self c) ∙ sym (length_view s.len s.words.items c.self.invariant) ∙ ap length c.self.view_is
