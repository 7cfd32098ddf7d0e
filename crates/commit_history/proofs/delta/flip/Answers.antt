use Rattle.std.proofs.Common.{◌≡◌, ◌+◌, ◌*◌, ◌<◌, Bool, length, get_or, ap, sym, ◌∙◌, arith}
use Rattle.std.specs.List.{All}
use Rattle.std.proofs.lemmas.List.Elements.{All-same, All-push}
use Rattle.plain_bits.specs.Truth.{differ}
use Rattle.commit_history.specs.declared.delta.DeltaWord.{DeltaWord}
use Rattle.commit_history.specs.Sparse.{bit_in, IsWithin}
use Rattle.commit_history.proofs.Places.{bit_in-push, bit_in-changed, within_changed}
use Rattle.commit_history.proofs.delta.flip.Goals as goal

pub returns-in-Some-clause-bits : goal.returns-in-Some-clause-bits
returns-in-Some-clause-bits c = λ k.
    bit_in-changed c.args.words.now.items c.in-Some.last _ c.bit_at-bit.result c.index_mut.result.now k
    (omega (arith, c.in-Some.ensures.within, ap length c.deref.ensures.value))
    (sym c.index_mut.ensures.value)
    (ap (λ (w : DeltaWord). w.at) c.index_mut.ensures.value ∙ ap (λ ws. (get_or ws c.in-Some.last c.index_mut.result.now).at) (sym c.deref.ensures.value) ∙ c.in-Some.ensures.at c.index_mut.result.now)
    ∙ ap (λ (b : Bool). differ b (bit_in c.args.words.now.items k)) (c.bit_at-bit.ensures.bit k)

pub returns-in-Some-clause-within : goal.returns-in-Some-clause-within
returns-in-Some-clause-within c = λ len all lt.
    within_changed len c.args.words.now.items c.in-Some.last _ c.bit_at-bit.result c.index_mut.result.now
    (omega (arith, c.in-Some.ensures.within, ap length c.deref.ensures.value))
    (sym c.index_mut.ensures.value)
    (ap (λ (w : DeltaWord). w.at) c.index_mut.ensures.value ∙ ap (λ ws. (get_or ws c.in-Some.last c.index_mut.result.now).at) (sym c.deref.ensures.value) ∙ c.in-Some.ensures.at c.index_mut.result.now)
    (c.bit_at-bit.ensures.fits len lt)
    all

pub returns-clause-bits : goal.returns-clause-bits
returns-clause-bits c = λ k.
    ap (λ words. bit_in words k) c.in_ok-push.ensures.items
    ∙ bit_in-push c.args.words.now.items _ k
    ∙ ap (λ b. differ b (bit_in c.args.words.now.items k)) (c.bit_at-bit.ensures.bit k)

pub returns-clause-within : goal.returns-clause-within
returns-clause-within c = λ len all lt.
    All-same (IsWithin len) _ _ c.in_ok-push.ensures.items
    (All-push (IsWithin len) c.args.words.now.items _ all (record { within = omega (arith, lt); fits = c.bit_at-bit.ensures.fits len lt }))
