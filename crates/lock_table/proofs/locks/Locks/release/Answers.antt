use Rattle.std.proofs.Common.{ap, ◌∙◌, sym, subst}
use Rattle.std.proofs.lemmas.List.{length-map}
use Rattle.std.proofs.lemmas.List.Elements.{All-map, All-weaker}
use Rattle.lock_table.specs.Kept.{LockGrants, without_grants, HasRoom, IsKept, rows_from}
use Rattle.lock_table.proofs.Kept.{without_rows}
use Rattle.lock_table.proofs.Rooms.{room_without}
use Rattle.lock_table.proofs.locks.Locks.release.Goals as goal

pub invariant_of-self : goal.invariant_of-self
invariant_of-self c =
    let old = c.self.inside.locks in
    let change = without_grants c.args.session in
    let room = HasRoom c.self.inside.admitted.items in
    subst (IsKept c.self.inside.admitted.items) (sym c.release.ensures) (record {
      count = length-map old change ∙ c.self.invariant.count;
      roomy = All-map room change old (All-weaker room (λ (k : LockGrants). room (change k)) (λ k h. room_without c.self.inside.admitted.items c.args.session k h) old c.self.invariant.roomy);
    })

pub returns : goal.returns
returns c =
    let rows = ap (rows_from 0) c.release.ensures ∙ without_rows c.args.session 0 c.self.inside.locks in
    rw (← c.self.view_is) (λ i. record { rows = rows i; admitted = c.self.inside.admitted.items })
