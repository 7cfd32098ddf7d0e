use Rattle.std.proofs.Common.{◌≡◌, ℕ, Bool, true, List, [], ◌∷◌, sym, ◌∙◌}
use Rattle.db_value.specs.declared.record.Record.{Record}
use Rattle.db_store.specs.Parts.{Part, part_at, slot_at, live_rows}
use Rattle.field_merge.specs.declared.turns.Taken.{Taken}
use Rattle.field_merge.specs.Shared.{live_row, are_same}
use Rattle.field_merge.proofs.SplitLemmas.{alike, taken_as, same_record, same_live}
use Rattle.field_merge.proofs.unshared.gather_slot.Goals as goal

pub returns-then-are_same : goal.returns-then-are_same
returns-then-are_same g c =
    let bs : List Part = g.B.View.parts_of c.args.base.now c.args.relation in
    let ls : List Part = g.L.View.parts_of c.args.left.now c.args.relation in
    let rs : List Part = g.R.View.parts_of c.args.right.now c.args.relation in
    let t : Taken = c.args.at.now in
    let n : ℕ = c.args.slot in
    let one = c.requires.one in
    let b : Record × Bool = slot_at bs t.base n in
    let l : Record × Bool = slot_at ls t.left n in
    let r : Record × Bool = slot_at rs t.right n in
    let is : are_same b.1 l.1 r.1 ≡ true = (λ i. are_same (sym c.live-in_base.ensures i) (sym c.live-in_left.ensures i) (sym c.live-in_right.ensures i)) ∙ sym c.are_same.ensures ∙ c.if-are_same.true in
    let with_base : l.0 ≡ b.0 = same_record (part_at ls t.left) (part_at bs t.base) n (c.requires.agree.of_base t.left t.base one.in_left.within one.in_base.within one.base_id one.base_slots) one.base_slots c.requires.slot in
    let with_right : l.0 ≡ r.0 = same_record (part_at ls t.left) (part_at rs t.right) n (c.requires.agree.of_right t.left t.right one.in_left.within one.in_right.within one.right_id one.right_slots) one.right_slots c.requires.slot in
    let two = same_live b.1 l.1 r.1 b.0 l.0 r.0 is with_base with_right in
    alike (live_rows (b ∷ [])) (live_rows (l ∷ [])) (live_rows (r ∷ [])) c.args.sides.now two.0 two.1

pub returns : goal.returns
returns g c =
    let bs : List Part = g.B.View.parts_of c.args.base.now c.args.relation in
    let ls : List Part = g.L.View.parts_of c.args.left.now c.args.relation in
    let rs : List Part = g.R.View.parts_of c.args.right.now c.args.relation in
    let t : Taken = c.args.at.now in
    let n : ℕ = c.args.slot in
    let one = c.requires.one in
    let b : Record × Bool = slot_at bs t.base n in
    let l : Record × Bool = slot_at ls t.left n in
    let r : Record × Bool = slot_at rs t.right n in
    let row : Record = c.read_row.new.into in
    let with_base : row ≡ b.0 = c.read_row.ensures ∙ same_record (part_at ls t.left) (part_at bs t.base) n (c.requires.agree.of_base t.left t.base one.in_left.within one.in_base.within one.base_id one.base_slots) one.base_slots c.requires.slot in
    let with_right : row ≡ r.0 = c.read_row.ensures ∙ same_record (part_at ls t.left) (part_at rs t.right) n (c.requires.agree.of_right t.left t.right one.in_left.within one.in_right.within one.right_id one.right_slots) one.right_slots c.requires.slot in
    taken_as c.put_live.result (live_row c.live-in_base.result row) (live_row c.live-in_left.result row) (live_row c.live-in_right.result row)
    (live_rows (b ∷ [])) (live_rows (l ∷ [])) (live_rows (r ∷ [])) c.args.sides.now c.put_live.new.self
    (λ i. live_row (c.live-in_base.ensures i) (with_base i)) (λ i. live_row (c.live-in_left.ensures i) (c.read_row.ensures i)) (λ i. live_row (c.live-in_right.ensures i) (with_right i)) c.put_live.ensures
