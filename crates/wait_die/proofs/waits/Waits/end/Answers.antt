use Rattle.std.specs.Prelude.{vec_capacity}
use Rattle.wait_die.specs.Waiting.{WaitTable}
use Rattle.wait_die.proofs.Keeping.{room_ended}
use Rattle.wait_die.proofs.waits.Waits.end.Goals as goal

pub invariant_of-self : goal.invariant_of-self
invariant_of-self c =
    let t : WaitTable = record { begun = c.self.inside.begun.items; grants = c.self.inside.grants.items; waits = c.self.inside.waits.items; admitted = c.self.inside.admitted.items } in
    rw (c.drop_session.ensures.items, c.drop_session.ensures.room, c.drop_wants.ensures, c.drop_waits.ensures) (room_ended t c.args.session (vec_capacity c.self.inside.begun) c.self.invariant)
