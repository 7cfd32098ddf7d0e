use Rattle.std.proofs.Common.{rules, ◌≡◌, ◌+◌, ℕ, get_or, refl, ap, arith, nat_lt}
use Rattle.image_parts.proofs.Turns.{added, count_at, count_room, weigh_few}
use Rattle.image_parts.proofs.keys.Walk.add.Goals as goal

pub overflow_add-count : goal.overflow_add-count
overflow_add-count c =
    let is : c.index-count.result.now ≡ get_or c.args.self.now.counts.items (get_or c.args.numbers.now c.args.place 0) 0 = count_at c.args.numbers.now c.args.self.now c.args.place c.index-count.result.now c.requires.within c.requires.agrees (search rules) in
    let room = count_room c.args.numbers.now c.args.self.now c.args.place c.index-count.result.now c.requires.within c.requires.agrees c.requires.clear is in
    record { fits = omega (arith, room.0, c.requires.agrees.len, c.args.self.now.bits.small) }

pub overflow_add-self : goal.overflow_add-self
overflow_add-self c =
    let is : c.index-count.result.now ≡ get_or c.args.self.now.counts.items (get_or c.args.numbers.now c.args.place 0) 0 = count_at c.args.numbers.now c.args.self.now c.args.place c.index-count.result.now c.requires.within c.requires.agrees (search rules) in
    let room = count_room c.args.numbers.now c.args.self.now c.args.place c.index-count.result.now c.requires.within c.requires.agrees c.requires.clear is in
    record { fits = omega (arith, room.2, weigh_few (nat_lt 0 c.index-count.result.now), c.weigh.ensures, c.requires.agrees.len, c.args.self.now.bits.small) }

pub overflow_add-self-2 : goal.overflow_add-self-2
overflow_add-self-2 c =
    let is : c.index-count.result.now ≡ get_or c.args.self.now.counts.items (get_or c.args.numbers.now c.args.place 0) 0 = count_at c.args.numbers.now c.args.self.now c.args.place c.index-count.result.now c.requires.within c.requires.agrees (search rules) in
    let room = count_room c.args.numbers.now c.args.self.now c.args.place c.index-count.result.now c.requires.within c.requires.agrees c.requires.clear is in
    record { fits = omega (arith, room.1, c.requires.agrees.len, c.args.self.now.bits.small) }

pub returns-clause-agrees : goal.returns-clause-agrees
returns-clause-agrees c =
    let is : c.index-count.result.now ≡ get_or c.args.self.now.counts.items (get_or c.args.numbers.now c.args.place 0) 0 = count_at c.args.numbers.now c.args.self.now c.args.place c.index-count.result.now c.requires.within c.requires.agrees (search rules) in
    added c.args.numbers.now c.args.self.now _ c.args.place c.index-count.result.now c.requires.within c.requires.agrees c.requires.clear refl is refl refl (ap (λ (n : ℕ). c.args.self.now.again + n) c.weigh.ensures)
