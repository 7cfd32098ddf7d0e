use Rattle.std.proofs.Common.{◌≡◌, Bool, List, length, map, ap, ◌∙◌, sym, subst}
use Rattle.std.specs.Vec.{with_items}
use Rattle.std.proofs.lemmas.List.{with_items_is, length-map}
use Rattle.lock_table.specs.Kept.{without_grants, IsMarked}
use Rattle.lock_table.proofs.Marked.{marked_released}
use Rattle.lock_table.proofs.blocks.Blocks.release.Goals as goal

pub mark_again-requires : goal.mark_again-requires
mark_again-requires c =
    let old = c.self.inside.locks in
    let busy = c.self.inside.busy in
    let new = c.release_busy.new.locks in
    let change = without_grants c.args.session in
    let is : new ≡ map change old.items = c.release_busy.ensures ∙ ap (map change) c.deref_mut.ensures.value in
    let same : (with_items old new).items ≡ map change old.items = with_items_is old new (ap length is ∙ length-map old.items change ∙ sym old.ok.0) ∙ is in
    subst (λ (b : List Bool). IsMarked b c.deref-2.result.now) (sym c.deref_mut-2.ensures.value)
    (subst (IsMarked busy.items) (sym (c.deref-2.ensures.value ∙ same)) (marked_released c.args.session busy.items old.items c.self.invariant))
