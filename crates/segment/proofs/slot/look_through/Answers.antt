use Rattle.std.proofs.Common.{ℕ, List, take, sym, subst}
use Rattle.std.proofs.lemmas.List.{take_all, take_more}
use Rattle.segment.specs.declared.slot.KeyedSlot.{KeyedSlot}
use Rattle.segment.specs.Slots.{IsGreatest}
use Rattle.segment.proofs.GreatestLemmas.{none_among}
use Rattle.segment.proofs.slot.look_through.Goals as goal

pub loop-keyed-init : goal.loop-keyed-init
loop-keyed-init c = none_among c.args.key c.args.bound

pub loop-keyed-preserved : goal.loop-keyed-preserved
loop-keyed-preserved c =
    let slots : List KeyedSlot = c.args.slots.now in
    let i : ℕ = c.loop-keyed.keyed-index in
    subst (λ (xs : List KeyedSlot). IsGreatest xs c.args.key c.args.bound c.later-last.result) (sym (take_more slots i (record { key = 0; slot = 0 }) c.loop-keyed-test.true)) (c.later-last.ensures (take i slots) c.loop-keyed.invariant)

pub returns : goal.returns
returns c = subst (λ (xs : List KeyedSlot). IsGreatest xs c.args.key c.args.bound c.loop-keyed.last) (take_all c.loop-keyed.keyed-index c.args.slots.now c.loop-keyed-test.false) c.loop-keyed.invariant
