use Rattle.std.proofs.Common.{◌≡◌, ◌==◌, true, ap, ◌∙◌, sym}
use Rattle.std.specs.Prelude.{vec_capacity}
use Rattle.std.specs.List.{list_any}
use Rattle.wait_die.specs.Waiting.{WaitTable, is_open}
use Rattle.wait_die.proofs.Keeping.{room_granted}
use Rattle.wait_die.proofs.waits.Waits.grant.Goals as goal

pub invariant_of-self-then-contains : goal.invariant_of-self-then-contains
invariant_of-self-then-contains c =
    let t : WaitTable = record { begun = c.self.inside.begun.items; grants = c.self.inside.grants.items; waits = c.self.inside.waits.items; admitted = c.self.inside.admitted.items } in
    let s = c.args.session in
    let there : is_open t s ≡ true = ap (list_any (λ x. x == s)) (sym c.deref.ensures.value) ∙ sym c.contains.ensures.value ∙ c.if-contains.true in
    rw (c.add_wants.ensures.added, c.in_ok-reserve.ensures.items) (room_granted t s (vec_capacity c.self.inside.begun) c.as_slice-asked.result.now c.self.invariant there)
