use Rattle.std.proofs.Common.{◌≡◌, ℕ, ◌-◌, ◌+◌, ◌*◌, ◌∙◌, subst, arith}
use Rattle.plain_bits.specs.Truth.{IsClearFrom}
use Rattle.db_image.proofs.ImageWords.{clear_more, end_is, end_none}
use Rattle.db_image.proofs.image_deltas.end_word.Goals as goal

pub returns-then-word-ne0 : goal.returns-then-word-ne0
returns-then-word-ne0 c =
    let count : ℕ = c.div_ceil-count.result in
    let t = c.loop-index-test.true in
    let n : count - c.loop-index.index ≡ count - 1 - c.loop-index.index + 1 = omega (arith, t) in
    n ∙ end_is c.args.bits.now (count - 1 - c.loop-index.index) c.word.result (omega (arith, c.word.type_inv)) c.if-word-ne0.true c.word.ensures (subst (λ k. IsClearFrom c.args.bits.now (64 * k)) n c.loop-index.invariant)

pub loop-index-preserved : goal.loop-index-preserved
loop-index-preserved c =
    let count : ℕ = c.div_ceil-count.result in
    let t = c.loop-index-test.true in
    let n : count - c.loop-index.index ≡ count - 1 - c.loop-index.index + 1 = omega (arith, t) in
    let m : count - 1 - c.loop-index.index ≡ count - (c.loop-index.index + 1) = omega (arith, t) in
    subst (λ k. IsClearFrom c.args.bits.now (64 * k)) m
    (clear_more c.args.bits.now (count - 1 - c.loop-index.index) c.word.result (omega (arith, c.if-word-ne0.false)) c.word.ensures (subst (λ k. IsClearFrom c.args.bits.now (64 * k)) n c.loop-index.invariant))

pub returns : goal.returns
returns c =
    let count : ℕ = c.div_ceil-count.result in
    let t = c.loop-index-test.false in
    let n : 64 * (count - c.loop-index.index) ≡ 0 = omega (arith, t) in
    end_none c.args.bits.now (subst (IsClearFrom c.args.bits.now) n c.loop-index.invariant)
