use Rattle.std.proofs.Common.{List, subst}
use Rattle.segment.specs.declared.slot.KeyedSlot.{KeyedSlot}
use Rattle.segment.specs.Slots.{IsGreatest}
use Rattle.segment.proofs.SlotLemmas.{last_among}
use Rattle.segment.proofs.run.Run.last_below.Goals as goal

pub returns : goal.returns
returns c = λ records to is.
    last_among records c.args.self.now.from to c.args.key c.args.bound c.args.self.now.slots.items c.search.result is
    (subst (λ (xs : List KeyedSlot). IsGreatest xs c.args.key c.args.bound c.search.result) c.as_slice.ensures.value c.search.ensures)
