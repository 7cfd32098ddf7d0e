use Rattle.std.proofs.Common.{◌≡◌, List, ◌∙◌, sym, subst}
use Rattle.std.specs.List.{AllZip}
use Rattle.std.specs.Vec.{with_items}
use Rattle.std.proofs.lemmas.List.{with_items_is}
use Rattle.std.proofs.lemmas.List.Elements.{length_all_zip}
use Rattle.lock_table.specs.Kept.{LockGrants, Grows, IsMarked}
use Rattle.lock_table.proofs.Marked.{marked_grown}
use Rattle.lock_table.proofs.blocks.Blocks.reserve.Goals as goal

pub invariant_of-self : goal.invariant_of-self
invariant_of-self c =
    let old = c.self.inside.locks in
    let busy = c.self.inside.busy.items in
    let new = c.reserve_all.new.locks in
    let grows : AllZip Grows old.items new = subst (λ (ks : List LockGrants). AllZip Grows ks new) c.deref_mut.ensures.value c.reserve_all.ensures.grows in
    let same : (with_items old new).items ≡ new = with_items_is old new (sym (old.ok.0 ∙ length_all_zip Grows old.items new grows)) in
    subst (IsMarked busy) (sym same) (marked_grown busy old.items new c.self.invariant grows)
