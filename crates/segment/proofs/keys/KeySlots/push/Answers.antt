use Rattle.std.proofs.Common.{◌≡◌, ◌++◌, ◌∷◌, [], List, refl, sym, ◌∙◌}
use Rattle.segment.specs.declared.slot.KeyedSlot.{KeyedSlot}
use Rattle.segment.proofs.SlotLemmas.{slots_more}
use Rattle.segment.proofs.keys.KeySlots.push.Goals as goal

pub returns : goal.returns
returns c = λ records row e k is.
    let own : List KeyedSlot = c.args.self.now.newest.items in
    slots_more c.args.self.now (record c.args.self.now { newest = c.push.new.self }) records row refl refl
    (c.in_ok-push.ensures.items ∙ (λ i. own ++ record { key = sym k i; slot = sym e i } ∷ [])) is
