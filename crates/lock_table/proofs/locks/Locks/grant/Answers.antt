use Rattle.std.proofs.Common.{◌<◌, [], length, get_or, ap, ◌∙◌, sym, subst, arith}
use Rattle.std.proofs.lemmas.List.{length-set}
use Rattle.std.proofs.lemmas.List.Elements.{All-set}
use Rattle.lock_table.specs.Grants.{Has}
use Rattle.lock_table.specs.Rows.{Table}
use Rattle.lock_table.specs.Kept.{LockGrants, HasRoom, IsKept, with_grant, rows_from}
use Rattle.lock_table.proofs.Kept.{grant_of, granted_at}
use Rattle.lock_table.proofs.Rooms.{room_left, room_with}
use Rattle.lock_table.proofs.locks.Locks.grant.Goals as goal

pub grant-requires-clause-room : goal.grant-requires-clause-room
grant-requires-clause-room c d none =
    let inside = c.self.inside in
    let within : c.args.need.lock < length inside.locks = let n = c.self.invariant.count in omega (arith, n, c.requires.lock) in
    let admitted : Has inside.admitted.items c.args.session = subst (λ (t : Table). Has t.admitted c.args.session) (sym c.self.view_is) c.requires.admitted in
    room_left inside.admitted.items (get_or inside.locks c.args.need.lock d) (grant_of c.args.session c.args.need) (c.self.invariant.roomy c.args.need.lock d within) admitted none

pub invariant_of-self : goal.invariant_of-self
invariant_of-self c =
    let inside = c.self.inside in
    let d : LockGrants = record { grants = []; room = 0 } in
    let within : c.args.need.lock < length inside.locks = let n = c.self.invariant.count in omega (arith, n, c.requires.lock) in
    let admitted : Has inside.admitted.items c.args.session = subst (λ (t : Table). Has t.admitted c.args.session) (sym c.self.view_is) c.requires.admitted in
    let changed = with_grant (grant_of c.args.session c.args.need) (get_or inside.locks c.args.need.lock d) in
    subst (IsKept inside.admitted.items) (sym (c.grant.ensures d)) (record {
      count = length-set inside.locks c.args.need.lock changed ∙ c.self.invariant.count;
      roomy = All-set (HasRoom inside.admitted.items) inside.locks c.args.need.lock changed
          (room_with inside.admitted.items (get_or inside.locks c.args.need.lock d) (grant_of c.args.session c.args.need) (c.self.invariant.roomy c.args.need.lock d within) admitted)
          c.self.invariant.roomy;
    })

pub returns : goal.returns
returns c =
    let inside = c.self.inside in
    let d : LockGrants = record { grants = []; room = 0 } in
    let within : c.args.need.lock < length inside.locks = let n = c.self.invariant.count in omega (arith, n, c.requires.lock) in
    let same = ap (rows_from 0) (c.grant.ensures d)
    ∙ sym (granted_at c.args.session c.args.need inside.locks c.args.need.lock 0 d (omega arith) within) in
    rw (← c.self.view_is) (λ i. record { rows = same i; admitted = inside.admitted.items })
