use Rattle.std.proofs.Common.{◌≡◌, ◌∙◌, ap, sym, subst, arith, map, List, None, cond, length, false, get_or, ◌<◌, refl}
use Rattle.std.specs.Prelude.{vec_len, vec_capacity}
use Rattle.std.specs.Ordering.{is_gt}
use Rattle.std.specs.List.{insert}
use Rattle.std.specs.FinMap as finite
use Rattle.std.specs.FinMap.{find, put, get}
use Rattle.store_catalogue.specs.declared.names.NamedBranch.{NamedBranch}
use Rattle.store_catalogue.specs.ByName.{KeptNames, name_cmp, entry_of}
use Rattle.store_catalogue.proofs.NameLemmas.{AllNamesLess, get_found, placed, added, count_names}
use Rattle.store_catalogue.proofs.names.BranchNames.add.Goals as goal

has_room : (c : goal.After-insert) → vec_len c.self.inside.sorted < vec_capacity c.self.inside.sorted
has_room c =
    let names = count_names c.self.inside.sorted.items c.self.invariant in
    let keys = ap (λ (k : KeptNames). finite.len k.numbers) c.self.view_is in
    let places = ap (λ (k : KeptNames). k.room) c.self.view_is in
    omega (arith, names, keys, places, c.requires.room, c.deref.ensures.len, ap length c.deref.ensures.value)

inserted : (c : goal.After-insert) → c.insert.new.self.items ≡ insert c.self.inside.sorted.items c.below-at.result (record { name = c.args.name; branch = c.args.branch })
inserted c =
    c.insert.ensures.items ∙ ap (λ q. cond q (insert c.self.inside.sorted.items c.below-at.result (record { name = c.args.name; branch = c.args.branch })) c.self.inside.sorted.items) (c.insert.ensures.succeeds (has_room c))

put_is : (c : goal.After-insert) → put name_cmp c.args.name c.args.branch (map entry_of c.self.inside.sorted.items) ≡ map entry_of c.insert.new.self.items
put_is c =
    let ns = c.self.inside.sorted.items in
    let new : find name_cmp c.args.name (map entry_of ns) ≡ None = sym (get_found ns c.args.name c.self.invariant) ∙ ap (λ (k : KeptNames). get k.numbers c.args.name) c.self.view_is ∙ c.requires.new in
    let less = subst (λ ms. AllNamesLess c.args.name ms c.below-at.result) c.deref.ensures.value c.below-at.ensures.parted.0 in
    placed c.args.name c.args.branch ns c.below-at.result (record { name = c.args.name; branch = c.args.branch }) refl refl (omega (arith, c.below-at.ensures.within, ap length c.deref.ensures.value)) less
    (λ h d. subst (λ (ms : List NamedBranch). c.below-at.result < length ms → is_gt (name_cmp c.args.name (get_or ms c.below-at.result d).name) ≡ false) c.deref.ensures.value (λ k. c.below-at.ensures.parted.1 c.below-at.result d (omega arith) k) h)
    new
    ∙ ap (map entry_of) (sym (inserted c))

pub invariant_of-self : goal.invariant_of-self
invariant_of-self c = (added c.self.inside.sorted.items c.insert.new.self.items c.args.name c.args.branch c.self.invariant (put_is c)).0

pub returns : goal.returns
returns c =
    let numbers = (added c.self.inside.sorted.items c.insert.new.self.items c.args.name c.args.branch c.self.invariant (put_is c)).1 in
    let capacity : vec_capacity c.insert.new.self ≡ vec_capacity c.self.inside.sorted = (c.insert.ensures.in_place (has_room c)).1.0 in
    (λ i. record { numbers = numbers i; room = capacity i }) ∙ ap (λ (k : KeptNames). record k { numbers = finite.insert k.numbers c.args.name c.args.branch }) c.self.view_is
