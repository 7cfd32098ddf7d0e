use Rattle.std.proofs.Common.{◌≡◌, ◌<◌, ◌/◌, ◌*◌, ◌+◌, ℕ, false, true, set, length, get_or, ap, sym, ◌∙◌, arith}
use Rattle.std.proofs.Math.Nat.{div-eq_of_lt-le, div-mul-le_self, lt-div-mul-add}
use Rattle.std.proofs.lemmas.List.Edits.{map_over_more}
use Rattle.lock_table.specs.Kept.{without_grants}
use Rattle.lock_table.proofs.Marked.{pass_over, same_flag}
use Rattle.lock_table.proofs.blocks.release_busy.Goals as goal

pub loop-at-preserved-then-busy-at : goal.loop-at-preserved-then-busy-at
loop-at-preserved-then-busy-at c =
    let within : c.loop-at.at < length c.args.locks.now = omega (arith, c.loop-at-test.true, c.loop-at.auto.locks) in
    let changed : c.release.new.self ≡ without_grants c.args.session c.index-locks-at.result = c.release.ensures ∙ ap (without_grants c.args.session) (sym c.index-locks-at.is) in
    ap (set c.loop-at.locks c.loop-at.at) changed
    ∙ map_over_more (without_grants c.args.session) c.args.locks.now c.loop-at.locks c.loop-at.at c.index-locks-at.result within c.loop-at.invariant c.index-locks-at.is

pub loop-at-preserved : goal.loop-at-preserved
loop-at-preserved c =
    let at = c.loop-at.at in
    let low = div-mul-le_self at 32 in
    let here : at < 1025 = let n = c.requires.count in omega (arith, n, c.loop-at-test.true, c.loop-at.auto.locks) in
    let high : at < at / 32 * 32 + 32 = lt-div-mul-add (omega arith) in
    c.loop-at.invariant ∙ pass_over c.args.session at ((at / 32 + 1) * 32) c.args.locks.now (omega (arith, high))
    (λ k d le lt inn.
    let same : k / 32 ≡ at / 32 = div-eq_of_lt-le 32 (omega (arith, low, le)) lt in
    let within : k < 1025 = let n = c.requires.count in omega (arith, n, inn) in
    let block : at / 32 < length c.args.busy.now = let n = c.requires.blocks in omega (arith, n, low, here) in
    c.requires.idle k d within (ap (λ (b : ℕ). get_or c.args.busy.now b true) same ∙ same_flag c.args.busy.now (at / 32) true false block ∙ c.if-busy-at.false))
