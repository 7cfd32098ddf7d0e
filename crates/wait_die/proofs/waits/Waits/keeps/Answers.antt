use Rattle.std.proofs.Common.{subst}
use Rattle.wait_die.specs.Waiting.{WaitTable}
use Rattle.wait_die.specs.Kept.{HasNoCircle}
use Rattle.wait_die.proofs.Circles.{no_circle}
use Rattle.wait_die.proofs.waits.Waits.keeps.Goals as goal

pub returns-clause-no_circle : goal.returns-clause-no_circle
returns-clause-no_circle c =
    let t : WaitTable = record { begun = c.self.inside.begun.items; grants = c.self.inside.grants.items; waits = c.self.inside.waits.items; admitted = c.self.inside.admitted.items } in
    subst (λ (u : WaitTable). HasNoCircle u) c.self.view_is (no_circle t c.self.invariant.kept)
