use Rattle.std.proofs.Common.{Global, ◌≡◌, ◌+◌, ◌∷◌, ◌++◌, ℕ, List, drop, map, ap, sym, ◌∙◌, subst}
use Rattle.std.specs.Arc.{arc_value}
use Rattle.std.specs.declared.sync.Arc.{Arc}
use Rattle.segment.specs.declared.slot.KeyedSlot.{KeyedSlot}
use Rattle.segment.specs.declared.run.Run.{Run}
use Rattle.segment.specs.Keys.{AreOf, AreRuns}
use Rattle.segment.proofs.SlotLemmas.{of_both, run_there, no_run_left}
use Rattle.segment.proofs.run.Run.joined.Goals as goal

pub loop-run-init : goal.loop-run-init
loop-run-init c = λ records to older is runs. (is, runs)

pub loop-run-preserved : goal.loop-run-preserved
loop-run-preserved c = λ records to older is runs.
    let i : ℕ = c.loop-run.run-index in
    let links : List (Arc Run Global) = c.args.runs.now in
    let link : Arc Run Global = c.run-item.result in
    let run : Run = arc_value link in
    let inv = c.loop-run.invariant records to older is runs in
    let rest : List Run = drop (i + 1) (map arc_value links) ++ older in
    let there : drop i (map arc_value links) ++ older ≡ run ∷ rest = ap (λ (rs : List Run). rs ++ older) (run_there links i link c.loop-run-test.true c.run-item.is) in
    let next : AreRuns records (run ∷ rest) c.loop-run.start = subst (λ (rs : List Run). AreRuns records rs c.loop-run.start) there inv.1 in
    let new : List KeyedSlot = c.extend_from_slice.new.self.items in
    let own : c.deref-in-loop-run-2.result.now ≡ run = c.deref-in-loop-run-2.ensures in
    let added : c.deref-in-loop-run.result.now ≡ run.slots.items = c.deref-in-loop-run.ensures.value ∙ ap (λ (r : Run). r.slots.items) c.deref.ensures in
    let slots : new ≡ c.loop-run.slots.items ++ run.slots.items = c.in_ok-extend_from_slice.ensures.items ∙ ap (λ (xs : List KeyedSlot). c.loop-run.slots.items ++ xs) added in (
      subst (λ (r : Run). AreOf records r.from to new) (sym own) (subst (AreOf records run.from to) (sym slots) (of_both records run.from c.loop-run.start to c.loop-run.slots.items run.slots.items inv.0 next.0)),
      subst (λ (r : Run). AreRuns records rest r.from) (sym own) next.1,
    )

pub returns : goal.returns
returns c = λ records to older is runs.
    let start : ℕ = c.loop-run.start in
    let inv = c.loop-run.invariant records to older is runs in
    let left : AreRuns records older start = subst (λ (rs : List Run). AreRuns records (rs ++ older) start) (no_run_left c.args.runs.now c.loop-run.run-index c.loop-run-test.false) inv.1 in
    (subst (λ (n : ℕ). AreOf records n to c.in_ok-run.run'.slots.items) (sym c.in_ok-run.ensures.from) (c.in_ok-run.ensures.slots records to inv.0), subst (AreRuns records older) (sym c.in_ok-run.ensures.from) left)
