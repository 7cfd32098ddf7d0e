-- The room of a list by the number of pushes.
use Rattle.std.proofs.Common.{◌≡◌, ℕ, zero, suc, ◌+◌, ◌*◌, ◌<◌, ◌≤◌, ◌==◌, Bool, true, false, cond, refl, sym, ap, ◌∙◌, ⊎_elim, ◌⊎◌, inl, inr, arith}
use Rattle.std.proofs.lemmas.Bool.{cases_eq, cases_lt, eq-eqb, ne_eqb}
use Rattle.commit_history.specs.Runs.{room_of}

pub room_full : (n : ℕ) → n ≡ room_of n → room_of (n + 1) ≡ 2 * n + 4
room_full n full =
    let e : n + 1 ≡ suc n = omega arith in ap room_of e ∙ ap (λ (b : Bool). cond b (2 * n + 4) (room_of n)) (eq-eqb n (room_of n) full)

pub room_left : (n : ℕ) → (n ≡ room_of n → ⊥) → room_of (n + 1) ≡ room_of n
room_left n left =
    let e : n + 1 ≡ suc n = omega arith in ap room_of e ∙ ap (λ (b : Bool). cond b (2 * n + 4) (room_of n)) (ne_eqb n (room_of n) left)

pub room_enough : (n : ℕ) → n ≤ room_of n
room_enough zero = omega arith
room_enough (suc n) =
    let rest = room_enough n in
    let e : n + 1 ≡ suc n = omega arith in
    ⊎_elim (λ (full : n ≡ room_of n). let k = ap room_of (sym e) ∙ room_full n full in omega (arith, k))
    (λ (left : n ≡ room_of n → ⊥). let k = ap room_of (sym e) ∙ room_left n left in by k rest left)
    (cases_eq n (room_of n))
  where
    by : room_of (suc n) ≡ room_of n → n ≤ room_of n → (n ≡ room_of n → ⊥) → suc n ≤ room_of (suc n)
    by k rest left = below k (cases_lt n (room_of n)) rest left
      where
        below : room_of (suc n) ≡ room_of n → (n < room_of n) ⊎ (room_of n ≤ n) → n ≤ room_of n → (n ≡ room_of n → ⊥) → suc n ≤ room_of (suc n)
        below k (inl lt) rest left = omega (arith, k, lt)
        below k (inr ge) rest left = absurd (left (omega (arith, ge, rest)))
