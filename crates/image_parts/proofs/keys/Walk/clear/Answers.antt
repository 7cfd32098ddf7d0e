use Rattle.std.proofs.Common.{rules, ◌≡◌, ◌-◌, ℕ, get_or, refl, ap, arith}
use Rattle.image_parts.proofs.Turns.{cleared, count_at, some_count}
use Rattle.image_parts.proofs.keys.Walk.clear.Goals as goal

pub overflow_sub-count : goal.overflow_sub-count
overflow_sub-count c =
    let is : c.index-count.result.now ≡ get_or c.args.self.now.counts.items (get_or c.args.numbers.now c.args.place 0) 0 = count_at c.args.numbers.now c.args.self.now c.args.place c.index-count.result.now c.requires.within c.requires.agrees (search rules) in
    (some_count c.args.numbers.now c.args.self.now c.args.place c.index-count.result.now c.requires.within c.requires.agrees c.requires.set_one is).0

pub overflow_sub-self : goal.overflow_sub-self
overflow_sub-self c =
    let is : c.index-count.result.now ≡ get_or c.args.self.now.counts.items (get_or c.args.numbers.now c.args.place 0) 0 = count_at c.args.numbers.now c.args.self.now c.args.place c.index-count.result.now c.requires.within c.requires.agrees (search rules) in
    let some = some_count c.args.numbers.now c.args.self.now c.args.place c.index-count.result.now c.requires.within c.requires.agrees c.requires.set_one is in
    omega (arith, some.2, c.weigh.ensures)

pub overflow_sub-self-2 : goal.overflow_sub-self-2
overflow_sub-self-2 c =
    let is : c.index-count.result.now ≡ get_or c.args.self.now.counts.items (get_or c.args.numbers.now c.args.place 0) 0 = count_at c.args.numbers.now c.args.self.now c.args.place c.index-count.result.now c.requires.within c.requires.agrees (search rules) in
    (some_count c.args.numbers.now c.args.self.now c.args.place c.index-count.result.now c.requires.within c.requires.agrees c.requires.set_one is).1

pub returns-clause-agrees : goal.returns-clause-agrees
returns-clause-agrees c =
    let is : c.index-count.result.now ≡ get_or c.args.self.now.counts.items (get_or c.args.numbers.now c.args.place 0) 0 = count_at c.args.numbers.now c.args.self.now c.args.place c.index-count.result.now c.requires.within c.requires.agrees (search rules) in
    cleared c.args.numbers.now c.args.self.now _ c.args.place c.index-count.result.now c.requires.within c.requires.agrees c.requires.set_one refl is refl refl (ap (λ (n : ℕ). c.args.self.now.again - n) c.weigh.ensures)
