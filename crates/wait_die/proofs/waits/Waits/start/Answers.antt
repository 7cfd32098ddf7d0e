use Rattle.std.proofs.Common.{◌≡◌, ◌<◌, false, length, sym, subst, arith}
use Rattle.std.specs.Prelude.{vec_capacity}
use Rattle.lock_table.specs.Grants.{Has}
use Rattle.wait_die.specs.Waiting.{WaitTable, is_open}
use Rattle.wait_die.proofs.Keeping.{room_left, room_started}
use Rattle.wait_die.proofs.waits.Waits.start.Goals as goal

pub push_reserved-requires : goal.push_reserved-requires
push_reserved-requires c =
    let t : WaitTable = record { begun = c.self.inside.begun.items; grants = c.self.inside.grants.items; waits = c.self.inside.waits.items; admitted = c.self.inside.admitted.items } in
    let s = c.args.session in
    let less : length c.self.inside.begun.items < vec_capacity c.self.inside.begun = room_left t s (vec_capacity c.self.inside.begun) c.self.invariant
    (subst (λ (u : WaitTable). Has u.admitted s) (sym c.self.view_is) c.requires.admitted)
    (subst (λ (u : WaitTable). is_open u s ≡ false) (sym c.self.view_is) c.requires.none) in
    let len = c.self.inside.begun.ok.0 in
    omega (arith, less, len)

pub invariant_of-self : goal.invariant_of-self
invariant_of-self c =
    let t : WaitTable = record { begun = c.self.inside.begun.items; grants = c.self.inside.grants.items; waits = c.self.inside.waits.items; admitted = c.self.inside.admitted.items } in
    let s = c.args.session in
    rw (c.push_reserved.ensures.items, c.push_reserved.ensures.capacity) (room_started t s (vec_capacity c.self.inside.begun) c.self.invariant
    (subst (λ (u : WaitTable). Has u.admitted s) (sym c.self.view_is) c.requires.admitted)
    (subst (λ (u : WaitTable). is_open u s ≡ false) (sym c.self.view_is) c.requires.none))
