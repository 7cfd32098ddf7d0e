use Rattle.std.proofs.Common.{◌≡◌, ◌-◌, ◌<◌, ◌≤◌, ℕ, List, true, false, length, get_or, ltb, arith, rules, subst}
use Rattle.std.specs.List.Sorted.{IsPartitionPoint}
use Rattle.std.proofs.lemmas.List.{get_or_default}
use Rattle.std.proofs.lemmas.List.Sorted.{IsPartitionPoint-from_clause, IsPartitionedBy-ltb}
use Rattle.segment.specs.declared.slot.KeyedSlot.{KeyedSlot}
use Rattle.segment.specs.Slots.{rank}
use Rattle.segment.proofs.GreatestLemmas.{Parts, none_before, greatest_is}
use Rattle.segment.proofs.slot.search.Goals as goal

pub returns-then-at-eq0 : goal.returns-then-at-eq0
returns-then-at-eq0 c =
    let slots : List KeyedSlot = c.args.slots.now in
    let limit : ℕ = c.rank-limit.result in
    let at : ℕ = c.partition_point-at.result in
    let point = IsPartitionPoint-from_clause (λ (x : KeyedSlot). ltb (rank x) limit) slots at c.partition_point-at.ensures.partitioned (IsPartitionedBy-ltb rank slots limit c.requires) (λ a r q k. search rules) in
    let parts : Parts slots c.args.key c.args.bound at = subst (λ (n : ℕ). IsPartitionPoint (λ (x : KeyedSlot). ltb (rank x) n ≡ true) (λ (x : KeyedSlot). ltb (rank x) n ≡ false) slots at) c.rank-limit.ensures point in
    none_before slots c.args.key c.args.bound at parts c.if-at-eq0.true

pub returns : goal.returns
returns c =
    let slots : List KeyedSlot = c.args.slots.now in
    let limit : ℕ = c.rank-limit.result in
    let at : ℕ = c.partition_point-at.result in
    let point = IsPartitionPoint-from_clause (λ (x : KeyedSlot). ltb (rank x) limit) slots at c.partition_point-at.ensures.partitioned (IsPartitionedBy-ltb rank slots limit c.requires) (λ a r q k. search rules) in
    let parts : Parts slots c.args.key c.args.bound at = subst (λ (n : ℕ). IsPartitionPoint (λ (x : KeyedSlot). ltb (rank x) n ≡ true) (λ (x : KeyedSlot). ltb (rank x) n ≡ false) slots at) c.rank-limit.ensures point in
    let w : at ≤ length slots = c.partition_point-at.ensures.bound in
    let ne = c.if-at-eq0.false in
    let some : 0 < at = omega (arith, ne) in
    let fits = c.ranges.bound.fits in
    let zero : KeyedSlot = record { key = 0; slot = 0 } in
    let keyed : KeyedSlot = get_or slots (at - 1) zero in
    greatest_is slots c.args.key c.args.bound at keyed c.slot_if.result c.requires (omega (arith, fits)) parts some w (get_or_default slots (at - 1) keyed zero (omega (arith, some, w))) c.slot_if.ensures.fits c.slot_if.ensures.value
