use Rattle.std.proofs.Common.{◌≡◌, inl, refl, ◌+◌, ◌≤◌, ℕ, ◌==◌, ◌∷◌, [], true, List, length, ap, ◌∙◌, sym, subst, arith}
use Rattle.std.specs.Prelude.{vec_capacity}
use Rattle.std.specs.List.{list_any}
use Rattle.lock_table.specs.Grants.{Has}
use Rattle.lock_table.proofs.Kept.{has_left, has_right}
use Rattle.wait_die.specs.Waiting.{WaitTable, is_among}
use Rattle.wait_die.proofs.Lists.{among_has}
use Rattle.wait_die.proofs.Keeping.{room_admitting}
use Rattle.wait_die.proofs.waits.Waits.admit.Goals as goal

pub returns-then-contains-clause-admitted : goal.returns-then-contains-clause-admitted
returns-then-contains-clause-admitted c =
    let s = c.args.session in
    let there : is_among s c.self.inside.admitted.items ≡ true = ap (list_any (λ x. x == s)) (sym c.deref.ensures.value) ∙ sym c.contains.ensures.value ∙ c.if-contains.true in
    subst (λ (t : WaitTable). Has t.admitted s) c.self.view_is (among_has s c.self.inside.admitted.items there)

pub invariant_of-self-2 : goal.invariant_of-self-2
invariant_of-self-2 c =
    let t : WaitTable = record { begun = c.self.inside.begun.items; grants = c.self.inside.grants.items; waits = c.self.inside.waits.items; admitted = c.self.inside.admitted.items } in
    let wide : length c.self.inside.admitted.items + 1 ≤ vec_capacity c.reserve_for.new.sessions = let le = c.in_ok-reserve_for.ensures.room in let n = c.len.ensures in let len = c.self.inside.admitted.ok.0 in omega (arith, le, n, len) in
    rw (c.in_ok-reserve_for.ensures.items, c.in_ok-push.ensures.items) (room_admitting t c.args.session (vec_capacity c.self.inside.begun) (vec_capacity c.reserve_for.new.sessions) c.self.invariant wide)

pub returns-clause-admitted : goal.returns-clause-admitted
returns-clause-admitted c =
    subst (λ (xs : List ℕ). Has xs c.args.session) (sym c.in_ok-push.ensures.items) (has_right c.self.inside.admitted.items (c.args.session ∷ []) c.args.session (inl refl))

pub returns-clause-others : goal.returns-clause-others
returns-clause-others c other h =
    subst (λ (xs : List ℕ). Has xs other) (sym c.in_ok-push.ensures.items)
    (has_left c.self.inside.admitted.items (c.args.session ∷ []) other (subst (λ (t : WaitTable). Has t.admitted other) (sym c.self.view_is) h))
