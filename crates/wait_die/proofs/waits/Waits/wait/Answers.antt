use Rattle.std.proofs.Common.{◌≡◌, sym, subst}
use Rattle.std.specs.Prelude.{vec_capacity}
use Rattle.wait_die.specs.declared.waits.Turn.TheVariants.{Wait}
use Rattle.wait_die.specs.Waiting.{WaitTable}
use Rattle.wait_die.specs.Turns.{turn_of}
use Rattle.wait_die.proofs.Keeping.{room_waited}
use Rattle.wait_die.proofs.waits.Waits.wait.Goals as goal

pub invariant_of-self-2 : goal.invariant_of-self-2
invariant_of-self-2 c =
    let t : WaitTable = record { begun = c.self.inside.begun.items; grants = c.self.inside.grants.items; waits = c.self.inside.waits.items; admitted = c.self.inside.admitted.items } in
    rw (c.in_ok-push.ensures.items, c.in_ok-duplicate.ensures)
    (room_waited t c.args.session (vec_capacity c.self.inside.begun) c.args.wants.now c.args.on c.self.invariant
    (subst (λ (u : WaitTable). turn_of u c.args.session c.args.wants.now ≡ Wait c.args.on) (sym c.self.view_is) c.requires))
