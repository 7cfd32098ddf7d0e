use Rattle.std.proofs.Common.{◌≡◌, ◌-◌, [], ◌∷◌, ◌++◌, Some, ap, sym, ◌∙◌, refl, length, List, set, subst, arith}
use Rattle.std.proofs.lemmas.List.{length-set}
use Rattle.key_index.specs.declared.fork.Fork.{Fork}
use Rattle.key_index.specs.Overlaid.{Overlaid}
use Rattle.key_index.specs.Forks.{trail, AreForks, led, items_of, new_fork}
use Rattle.key_index.proofs.Touches.{untouched, get_pair}
use Rattle.key_index.proofs.Trails.{map_entries, some_at, in_range, item_at, some_past, way_within, free_at, none_past, has_nothing, none_lost}
use Rattle.key_index.proofs.Growth.{length_pushed, length_grown, first_in_order, in_order}
use Rattle.key_index.proofs.Puts.{entries_led, added_view}
use Rattle.key_index.proofs.overlay.Overlay.put_new.Goals as goal

pub index-requires : goal.index-requires
index-requires g c =
    let ends = ap (λ (fs : List (Fork g.row.T.Denot)). trail fs c.args.relation c.args.key) (sym c.deref.ensures.value) ∙ sym c.end_of.ensures ∙ c.in-At.is in
    let same = ap length c.deref.ensures.value in
    let l = in_range c.self.inside.forks.items c.args.relation c.args.key c.in-At.at c.self.invariant.0 (some_at c.self.inside.forks.items c.args.relation c.args.key c.in-At.at ends) ends in
    omega (arith, l, same, c.deref.ensures.len)

pub returns-in-At-clause-found : goal.returns-in-At-clause-found
returns-in-At-clause-found g c =
    let forks = c.self.inside.forks.items in
    let ends = ap (λ (fs : List (Fork g.row.T.Denot)). trail fs c.args.relation c.args.key) (sym c.deref.ensures.value) ∙ sym c.end_of.ensures ∙ c.in-At.is in
    let there = item_at forks c.args.relation c.args.key c.in-At.at c.index.result.now c.self.invariant.0 (some_at forks c.args.relation c.args.key c.in-At.at ends) ends in
    rw (← c.self.view_is) (ap (λ (f : Fork g.row.T.Denot). Some f.item) c.index.ensures ∙ sym there ∙ sym (get_pair (map_entries forks) (c.args.relation, c.args.key)))

pub index_mut-requires : goal.index_mut-requires
index_mut-requires g c =
    let forks = c.self.inside.forks.items in
    let ends = ap (λ (fs : List (Fork g.row.T.Denot)). trail fs c.args.relation c.args.key) (sym c.deref.ensures.value) ∙ sym c.end_of.ensures ∙ c.in-Past.is in
    let same = ap length c.deref.ensures.value in
    let l = (free_at forks c.args.relation c.args.key c.in-Past.at c.in-Past.way c.self.invariant.0 (some_past forks c.args.relation c.args.key c.in-Past.at c.in-Past.way ends) ends).1 in
    omega (arith, l, same, c.deref.ensures.len)

pub overflow_sub-self : goal.overflow_sub-self
overflow_sub-self g c =
    let forks = c.self.inside.forks.items in
    let ends = ap (λ (fs : List (Fork g.row.T.Denot)). trail fs c.args.relation c.args.key) (sym c.deref.ensures.value) ∙ sym c.end_of.ensures ∙ c.in-Past.is in
    let none = none_past forks c.args.relation c.args.key c.in-Past.at c.in-Past.way c.self.invariant.0 ends in
    omega (arith, untouched (map_entries forks) c.self.inside.spare c.args.relation c.args.key c.args.self.now c.self.view_is c.requires (sym none))

pub add-requires : goal.add-requires
add-requires g c =
    let forks = c.self.inside.forks.items in
    let ends = ap (λ (fs : List (Fork g.row.T.Denot)). trail fs c.args.relation c.args.key) (sym c.deref.ensures.value) ∙ sym c.end_of.ensures ∙ c.in-Past.is in
    let none = none_past forks c.args.relation c.args.key c.in-Past.at c.in-Past.way c.self.invariant.0 ends in
    let left = untouched (map_entries forks) c.self.inside.spare c.args.relation c.args.key c.args.self.now c.self.view_is c.requires (sym none) in
    omega (arith, left, length-set forks c.in-Past.at c.lead.new.self, c.self.invariant.1)

pub invariant_of-self : goal.invariant_of-self
invariant_of-self g c =
    let forks = c.self.inside.forks.items in
    let ends = ap (λ (fs : List (Fork g.row.T.Denot)). trail fs c.args.relation c.args.key) (sym c.deref.ensures.value) ∙ sym c.end_of.ensures ∙ c.in-Past.is in
    let none = none_past forks c.args.relation c.args.key c.in-Past.at c.in-Past.way c.self.invariant.0 ends in
    let old = c.index_mut.result.now in
    let now = c.add.ensures.items ∙ ap (λ (f : Fork g.row.T.Denot). set forks c.in-Past.at f ++ c.new.result ∷ []) c.lead.ensures.led ∙ ap (λ (f : Fork g.row.T.Denot). set forks c.in-Past.at (led old c.in-Past.way c.len-to.result) ++ f ∷ []) c.new.ensures in
    let left = untouched (map_entries forks) c.self.inside.spare c.args.relation c.args.key c.args.self.now c.self.view_is c.requires (sym none) in
    let same = ap length c.deref.ensures.value in
    let last : c.len-to.result ≡ length forks = omega (arith, c.len-to.ensures, same, c.deref.ensures.len) in
    let more = ap length now ∙ length_grown forks c.in-Past.at old c.in-Past.way c.len-to.result (new_fork c.args.relation c.args.key c.args.item) in (
      subst AreForks (sym now) (in_order forks c.in-Past.at old c.in-Past.way c.len-to.result c.args.relation c.args.key c.args.item c.self.invariant.0 ends c.index_mut.ensures.value last (omega (arith, way_within forks c.args.relation c.args.key c.in-Past.at c.in-Past.way ends, c.lead.ensures.ways))),
      omega (arith, more, left, c.add.ensures.capacity, c.self.invariant.1),
      omega (arith, more, left, c.self.invariant.2),
    )

pub returns-in-Past-clause-new : goal.returns-in-Past-clause-new
returns-in-Past-clause-new g c =
    let forks = c.self.inside.forks.items in
    let ends = ap (λ (fs : List (Fork g.row.T.Denot)). trail fs c.args.relation c.args.key) (sym c.deref.ensures.value) ∙ sym c.end_of.ensures ∙ c.in-Past.is in
    let none = none_past forks c.args.relation c.args.key c.in-Past.at c.in-Past.way c.self.invariant.0 ends in
    let old = c.index_mut.result.now in
    let now = c.add.ensures.items ∙ ap (λ (f : Fork g.row.T.Denot). set forks c.in-Past.at f ++ c.new.result ∷ []) c.lead.ensures.led ∙ ap (λ (f : Fork g.row.T.Denot). set forks c.in-Past.at (led old c.in-Past.way c.len-to.result) ++ f ∷ []) c.new.ensures in
    let shown : List (Fork g.row.T.Denot) → Overlaid g.row.T.Denot = λ fs. record { items = items_of fs; spare = c.self.inside.spare - 1 } in
    ap shown now ∙ added_view forks (set forks c.in-Past.at (led old c.in-Past.way c.len-to.result)) c.self.inside.spare c.args.relation c.args.key c.args.item c.args.self.now c.self.view_is
    (entries_led forks c.in-Past.at old c.in-Past.way c.len-to.result c.index_mut.ensures.value) none

pub returns-in-Past-clause-found : goal.returns-in-Past-clause-found
returns-in-Past-clause-found g c =
    let forks = c.self.inside.forks.items in
    let ends = ap (λ (fs : List (Fork g.row.T.Denot)). trail fs c.args.relation c.args.key) (sym c.deref.ensures.value) ∙ sym c.end_of.ensures ∙ c.in-Past.is in
    rw (← c.self.view_is) (sym (get_pair (map_entries forks) (c.args.relation, c.args.key) ∙ none_past forks c.args.relation c.args.key c.in-Past.at c.in-Past.way c.self.invariant.0 ends))

pub overflow_sub-self-in-Lost : goal.overflow_sub-self-in-Lost
overflow_sub-self-in-Lost g c =
    let forks = c.self.inside.forks.items in
    let ends = ap (λ (fs : List (Fork g.row.T.Denot)). trail fs c.args.relation c.args.key) (sym c.deref.ensures.value) ∙ sym c.end_of.ensures ∙ c.in-Lost.is in
    let none = has_nothing forks c.args.relation c.args.key c.self.invariant.0 ends in
    omega (arith, untouched (map_entries forks) c.self.inside.spare c.args.relation c.args.key c.args.self.now c.self.view_is c.requires (sym none))

pub add-requires-in-Lost : goal.add-requires-in-Lost
add-requires-in-Lost g c =
    let forks = c.self.inside.forks.items in
    let ends = ap (λ (fs : List (Fork g.row.T.Denot)). trail fs c.args.relation c.args.key) (sym c.deref.ensures.value) ∙ sym c.end_of.ensures ∙ c.in-Lost.is in
    let none = has_nothing forks c.args.relation c.args.key c.self.invariant.0 ends in
    let left = untouched (map_entries forks) c.self.inside.spare c.args.relation c.args.key c.args.self.now c.self.view_is c.requires (sym none) in
    omega (arith, left, c.self.invariant.1)

pub invariant_of-self-in-Lost : goal.invariant_of-self-in-Lost
invariant_of-self-in-Lost g c =
    let forks = c.self.inside.forks.items in
    let ends = ap (λ (fs : List (Fork g.row.T.Denot)). trail fs c.args.relation c.args.key) (sym c.deref.ensures.value) ∙ sym c.end_of.ensures ∙ c.in-Lost.is in
    let none = has_nothing forks c.args.relation c.args.key c.self.invariant.0 ends in
    let now = c.add-in-Lost.ensures.items ∙ ap (λ (f : Fork g.row.T.Denot). forks ++ f ∷ []) c.new-in-Lost.ensures in
    let left = untouched (map_entries forks) c.self.inside.spare c.args.relation c.args.key c.args.self.now c.self.view_is c.requires (sym none) in
    let more = ap length now ∙ length_pushed forks (new_fork c.args.relation c.args.key c.args.item) in (
      subst AreForks (sym now) (first_in_order forks c.args.relation c.args.key c.args.item (none_lost forks c.args.relation c.args.key c.self.invariant.0 ends)),
      omega (arith, more, left, c.add-in-Lost.ensures.capacity, c.self.invariant.1),
      omega (arith, more, left, c.self.invariant.2),
    )

pub returns-in-Lost-clause-new : goal.returns-in-Lost-clause-new
returns-in-Lost-clause-new g c =
    let forks = c.self.inside.forks.items in
    let ends = ap (λ (fs : List (Fork g.row.T.Denot)). trail fs c.args.relation c.args.key) (sym c.deref.ensures.value) ∙ sym c.end_of.ensures ∙ c.in-Lost.is in
    let none = has_nothing forks c.args.relation c.args.key c.self.invariant.0 ends in
    let now = c.add-in-Lost.ensures.items ∙ ap (λ (f : Fork g.row.T.Denot). forks ++ f ∷ []) c.new-in-Lost.ensures in
    let shown : List (Fork g.row.T.Denot) → Overlaid g.row.T.Denot = λ fs. record { items = items_of fs; spare = c.self.inside.spare - 1 } in
    ap shown now ∙ added_view forks forks c.self.inside.spare c.args.relation c.args.key c.args.item c.args.self.now c.self.view_is refl none

pub returns-in-Lost-clause-found : goal.returns-in-Lost-clause-found
returns-in-Lost-clause-found g c =
    let forks = c.self.inside.forks.items in
    let ends = ap (λ (fs : List (Fork g.row.T.Denot)). trail fs c.args.relation c.args.key) (sym c.deref.ensures.value) ∙ sym c.end_of.ensures ∙ c.in-Lost.is in
    rw (← c.self.view_is) (sym (get_pair (map_entries forks) (c.args.relation, c.args.key) ∙ has_nothing forks c.args.relation c.args.key c.self.invariant.0 ends))

pub lead-requires : goal.lead-requires
lead-requires g c =
    let ends = ap (λ (fs : List (Fork g.row.T.Denot)). trail fs c.args.relation c.args.key) (sym c.deref.ensures.value) ∙ sym c.end_of.ensures ∙ c.in-Past.is in
    way_within c.self.inside.forks.items c.args.relation c.args.key c.in-Past.at c.in-Past.way ends
