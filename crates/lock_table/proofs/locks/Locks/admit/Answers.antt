use Rattle.std.proofs.Common.{◌≡◌, ℕ, ◌==◌, ◌+◌, ◌^◌, ◌<◌, Option, arith, ◌*◌, ◌≤◌, true, false, List, [], ◌∷◌, ◌++◌, length, ap, ◌∙◌, sym, subst}
use Rattle.std.specs.List.{All, list_any}
use Rattle.std.specs.Option.{SomeIff}
use Rattle.std.proofs.lemmas.Bool.{cond-true, cond-false}
use Rattle.std.proofs.lemmas.Result.{err_from_is_err_and}
use Rattle.lock_table.specs.Rows.{Table}
use Rattle.lock_table.specs.Grants.{Has, joined}
use Rattle.lock_table.specs.Kept.{LockGrants}
use Rattle.lock_table.proofs.Kept.{grown_rows}
use Rattle.lock_table.proofs.Rooms.{joined_new, joined_old, kept_grown, kept_joined}
use Rattle.lock_table.proofs.locks.Locks.admit.Goals as goal

pub returns-then-contains-clause-admitted : goal.returns-then-contains-clause-admitted
returns-then-contains-clause-admitted c =
    let sessions = c.self.inside.admitted.items in
    let s = c.args.session in
    let any : list_any (λ x. x == s) sessions ≡ true = ap (list_any (λ x. x == s)) (sym c.deref.ensures.value) ∙ sym c.contains.ensures.value ∙ c.if-contains.true in
    let same : joined s sessions ≡ sessions = cond-true (list_any (λ x. x == s) sessions) sessions (sessions ++ s ∷ []) any in
    subst (λ (t : Table). Has t.admitted s) c.self.view_is (subst (λ (xs : List ℕ). Has xs s) same (joined_new s sessions))

pub invariant_of-self : goal.invariant_of-self
invariant_of-self c =
    let old = c.self.inside.locks in
    let new = c.reserve.new.self in
    kept_grown c.self.inside.admitted.items old new c.self.invariant c.reserve.ensures.grows

pub returns-in_err-reserve-clause-err : goal.returns-in_err-reserve-clause-err
returns-in_err-reserve-clause-err c =
    let old = c.self.inside.locks in
    let new = c.reserve.new.self in
    let rows = grown_rows 0 old new c.reserve.ensures.grows in
    let p = err_from_is_err_and c.from_residual-in_err-reserve.result c.from_residual-in_err-reserve.ensures.1 in
    rw (p.1, ← c.self.view_is) (λ i. record { rows = rows i; admitted = c.self.inside.admitted.items })

pub invariant_of-self-in_err-push : goal.invariant_of-self-in_err-push
invariant_of-self-in_err-push c =
    let old = c.self.inside.locks in
    let new = c.reserve.new.self in
    let items = c.in_err-push.ensures.items in
    rw items (kept_grown c.self.inside.admitted.items old new c.self.invariant c.reserve.ensures.grows)

pub returns-in_err-push-clause-err : goal.returns-in_err-push-clause-err
returns-in_err-push-clause-err c =
    let old = c.self.inside.locks in
    let new = c.reserve.new.self in
    let rows = grown_rows 0 old new c.reserve.ensures.grows in
    let items = c.in_err-push.ensures.items in
    let p = err_from_is_err_and c.from_residual-in_err-push.result c.from_residual-in_err-push.ensures.1 in
    rw (p.1, ← c.self.view_is) (λ i. record { rows = rows i; admitted = items i })

pub invariant_of-self-2 : goal.invariant_of-self-2
invariant_of-self-2 c =
    let old = c.self.inside.locks in
    let new = c.reserve.new.self in
    let items = c.in_ok-push.ensures.items in
    let twice = (c.len-sessions.result + 1) * 2 in
    let room = subst (λ (o : Option ℕ). SomeIff o (twice < 2 ^ 64) twice) c.in_ok-room.ensures.ok_part c.checked_mul.ensures in
    let wide : All (λ (k : LockGrants). (length c.self.inside.admitted.items + 1) * 2 ≤ k.room) new =
    λ k d lt. let le = c.in_ok-reserve.ensures.room k d lt in let is = room.1 in let n = c.len-sessions.ensures in let len = c.self.inside.admitted.ok.0 in omega (arith, le, is, n, len) in
    rw items (kept_joined c.self.inside.admitted.items c.args.session old new c.self.invariant c.reserve.ensures.grows wide)

pub returns-clause-ok : goal.returns-clause-ok
returns-clause-ok c =
    let old = c.self.inside.locks in
    let new = c.reserve.new.self in
    let rows = grown_rows 0 old new c.reserve.ensures.grows in
    let sessions = c.self.inside.admitted.items in
    let s = c.args.session in
    let none : list_any (λ x. x == s) sessions ≡ false = ap (list_any (λ x. x == s)) (sym c.deref.ensures.value) ∙ sym c.contains.ensures.value ∙ c.if-contains.false in
    let more : joined s sessions ≡ sessions ++ s ∷ [] = cond-false (list_any (λ x. x == s) sessions) sessions (sessions ++ s ∷ []) none in
    let items = c.in_ok-push.ensures.items ∙ sym more in
    rw (← c.self.view_is) (λ i. record { rows = rows i; admitted = items i })

pub returns-clause-admitted : goal.returns-clause-admitted
returns-clause-admitted c =
    let sessions = c.self.inside.admitted.items in
    let s = c.args.session in
    let none : list_any (λ x. x == s) sessions ≡ false = ap (list_any (λ x. x == s)) (sym c.deref.ensures.value) ∙ sym c.contains.ensures.value ∙ c.if-contains.false in
    let more : joined s sessions ≡ sessions ++ s ∷ [] = cond-false (list_any (λ x. x == s) sessions) sessions (sessions ++ s ∷ []) none in
    subst (λ (xs : List ℕ). Has xs s) (more ∙ sym c.in_ok-push.ensures.items) (joined_new s sessions)

pub returns-clause-others : goal.returns-clause-others
returns-clause-others c other h =
    let sessions = c.self.inside.admitted.items in
    let s = c.args.session in
    let none : list_any (λ x. x == s) sessions ≡ false = ap (list_any (λ x. x == s)) (sym c.deref.ensures.value) ∙ sym c.contains.ensures.value ∙ c.if-contains.false in
    let more : joined s sessions ≡ sessions ++ s ∷ [] = cond-false (list_any (λ x. x == s) sessions) sessions (sessions ++ s ∷ []) none in
    subst (λ (xs : List ℕ). Has xs other) (more ∙ sym c.in_ok-push.ensures.items) (joined_old s sessions other (subst (λ (t : Table). Has t.admitted other) (sym c.self.view_is) h))
