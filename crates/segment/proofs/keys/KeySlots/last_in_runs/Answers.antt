use Rattle.std.proofs.Common.{Global, ◌≡◌, ◌+◌, ◌∷◌, ℕ, List, Some, None, drop, map, sym, subst}
use Rattle.std.specs.Arc.{arc_value}
use Rattle.std.specs.declared.sync.Arc.{Arc}
use Rattle.segment.specs.declared.run.Run.{Run}
use Rattle.segment.specs.Keys.{AreOf, AreRuns, IsLastIn, LacksKey}
use Rattle.segment.proofs.KeyLemmas.{lacks_more, last_is, last_is_none}
use Rattle.segment.proofs.SlotLemmas.{run_there, no_run_left}
use Rattle.segment.proofs.keys.KeySlots.last_in_runs.Goals as goal

pub loop-run-preserved : goal.loop-run-preserved
loop-run-preserved c = λ records w runs lacks.
    let i : ℕ = c.loop-run.run-index in
    let links : List (Arc Run Global) = c.as_slice-run-items.result.now in
    let link : Arc Run Global = c.run-item.result in
    let run : Run = arc_value link in
    let inv = c.loop-run.invariant records w runs lacks in
    let next : AreRuns records (run ∷ drop (i + 1) (map arc_value links)) inv.0 = subst (λ (rs : List Run). AreRuns records rs inv.0) (run_there links i link c.loop-run-test.true c.run-item.is) inv.1.0 in
    let own : Run = c.deref-in-loop-run.result.now in
    let same : own ≡ run = c.deref-in-loop-run.ensures in
    let of_own : AreOf records own.from inv.0 own.slots.items = subst (λ (r : Run). AreOf records r.from inv.0 r.slots.items) (sym same) next.0 in
    let none : IsLastIn records own.from inv.0 c.args.key c.args.bound None = subst (IsLastIn records own.from inv.0 c.args.key c.args.bound) c.in_default.is (c.last_below.ensures records inv.0 of_own) in
    let lacks_here : LacksKey records c.args.key own.from c.args.bound = lacks_more records own.from inv.0 c.args.key c.args.bound none inv.1.1 in
    (run.from, (next.1, subst (λ (r : Run). LacksKey records c.args.key r.from c.args.bound) same lacks_here))

pub returns-in-Some : goal.returns-in-Some
returns-in-Some c = λ records w runs lacks.
    let i : ℕ = c.loop-run.run-index in
    let links : List (Arc Run Global) = c.as_slice-run-items.result.now in
    let link : Arc Run Global = c.run-item.result in
    let run : Run = arc_value link in
    let inv = c.loop-run.invariant records w runs lacks in
    let next : AreRuns records (run ∷ drop (i + 1) (map arc_value links)) inv.0 = subst (λ (rs : List Run). AreRuns records rs inv.0) (run_there links i link c.loop-run-test.true c.run-item.is) inv.1.0 in
    let own : Run = c.deref-in-loop-run.result.now in
    let same : own ≡ run = c.deref-in-loop-run.ensures in
    let of_own : AreOf records own.from inv.0 own.slots.items = subst (λ (r : Run). AreOf records r.from inv.0 r.slots.items) (sym same) next.0 in
    let found : IsLastIn records own.from inv.0 c.args.key c.args.bound (Some c.in-Some.slot) = subst (IsLastIn records own.from inv.0 c.args.key c.args.bound) c.in-Some.is (c.last_below.ensures records inv.0 of_own) in
    sym (last_is records own.from inv.0 c.args.key c.args.bound c.in-Some.slot w found inv.1.1)

pub returns : goal.returns
returns c = λ records w runs lacks.
    let inv = c.loop-run.invariant records w runs lacks in
    let links : List (Arc Run Global) = c.as_slice-run-items.result.now in
    let end : inv.0 ≡ 0 = subst (λ (rs : List Run). AreRuns records rs inv.0) (no_run_left links c.loop-run.run-index c.loop-run-test.false) inv.1.0 in
    sym (last_is_none records c.args.key c.args.bound w (subst (λ (n : ℕ). LacksKey records c.args.key n c.args.bound) end inv.1.1))
