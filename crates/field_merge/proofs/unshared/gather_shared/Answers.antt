use Rattle.std.proofs.Common.{ℕ, List, arith}
use Rattle.db_store.specs.Parts.{Part, part_at}
use Rattle.field_merge.specs.declared.turns.Taken.{Taken}
use Rattle.field_merge.proofs.SplitLemmas.{slots_more}
use Rattle.field_merge.proofs.unshared.gather_shared.Goals as goal

pub loop-slot-preserved : goal.loop-slot-preserved
loop-slot-preserved g c =
    let bs : List Part = g.B.View.parts_of c.args.base.now c.args.relation in
    let ls : List Part = g.L.View.parts_of c.args.left.now c.args.relation in
    let rs : List Part = g.R.View.parts_of c.args.right.now c.args.relation in
    let t : Taken = c.args.at.now in
    let n : ℕ = c.loop-slot.slot in
    let one = c.requires.one in
    slots_more (part_at bs t.base).slots (part_at ls t.left).slots (part_at rs t.right).slots n c.args.sides.now c.loop-slot.sides c.gather_slot.new.sides
    (omega (arith, c.loop-slot-test.true, c.part-info.ensures.slots, one.base_slots)) (omega (arith, c.loop-slot-test.true, c.part-info.ensures.slots)) (omega (arith, c.loop-slot-test.true, c.part-info.ensures.slots, one.right_slots))
    c.loop-slot.invariant c.in_ok-gather_slot.ensures
