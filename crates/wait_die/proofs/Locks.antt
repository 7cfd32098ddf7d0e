-- Locks that are one, and the order of locks and of losses.
use Rattle.std.proofs.Common.{◌≡◌, ◌⊎◌, inl, inr, ⊎_elim, ℕ, ◌<◌, ◌≤◌, nat_lt, ◌&&◌, ◌||◌, Bool, true, false, List, refl, sym, ap, ◌∙◌, subst, arith}
use Rattle.std.specs.Ordering.{is_lt, nat_cmp, ordering_reverse}
use Rattle.std.specs.declared.cmp.Ordering.{Ordering}
use Rattle.std.specs.declared.cmp.Ordering.TheVariants.{Less, Equal, Greater}
use Rattle.std.specs.Cmp.Lexicographic.{slice_cmp}
use Rattle.std.specs.FinMap.{nat_cmp-IsAntisymmetric, slice_cmp-IsAntisymmetric}
use Rattle.std.proofs.lemmas.Bool.{true≢false, false≢true, and_from, and_parts, or_left, or_right, or_cases, or_parts, cases_lt, ltb-true, lt-ltb}
use Rattle.std.proofs.lemmas.Cmp.{nat_list_cmp_total, tied_itself}
use Rattle.db_value.proofs.Same.{bytes_is, bytes_same}
use Rattle.wait_die.specs.declared.want.WaitLock.{WaitLock}
use Rattle.wait_die.specs.declared.want.WaitLock.TheVariants.{Catalogue, Heads, Branch}
use Rattle.wait_die.specs.declared.loss.Loss.{Loss}
use Rattle.wait_die.specs.Conflict.{same_lock, is_below}

pub same_is : (a b : WaitLock) → same_lock a b ≡ true → a ≡ b
same_is Catalogue Catalogue e = refl
same_is Catalogue Heads e = absurd (false≢true e)
same_is Catalogue (Branch m) e = absurd (false≢true e)
same_is Heads Catalogue e = absurd (false≢true e)
same_is Heads Heads e = refl
same_is Heads (Branch m) e = absurd (false≢true e)
same_is (Branch n) Catalogue e = absurd (false≢true e)
same_is (Branch n) Heads e = absurd (false≢true e)
same_is (Branch n) (Branch m) e = ap (λ (x : List ℕ). Branch x) (bytes_is n m e)

pub is_same : (a : WaitLock) → same_lock a a ≡ true
is_same Catalogue = refl
is_same Heads = refl
is_same (Branch n) = bytes_same n

abbrev names : List ℕ → List ℕ → Ordering
names = slice_cmp nat_cmp

less : (o : Ordering) → is_lt o ≡ true → o ≡ Less
less Less e = refl
less Equal e = absurd (false≢true e)
less Greater e = absurd (false≢true e)

name_cases : (n m : List ℕ) → is_lt (names n m) ≡ false → (is_lt (names m n) ≡ true) ⊎ (n ≡ m)
name_cases n m e = at (names n m) refl e
  where
    at : (o : Ordering) → names n m ≡ o → is_lt o ≡ false → (is_lt (names m n) ≡ true) ⊎ (n ≡ m)
    at Less p e = absurd (true≢false e)
    at Equal p e = inr (slice_cmp-IsAntisymmetric nat_cmp-IsAntisymmetric n m p)
    at Greater p e = inl (ap is_lt (nat_list_cmp_total.antisymm m n ∙ ap ordering_reverse p))

-- no lock comes before itself
pub not_below : (a : WaitLock) → is_below a a ≡ false
not_below Catalogue = refl
not_below Heads = refl
not_below (Branch n) = ap is_lt (tied_itself nat_list_cmp_total n)

below_below : (a b c : WaitLock) → is_below a b ≡ true → is_below b c ≡ true → is_below a c ≡ true
below_below Catalogue b Catalogue e f = absurd (false≢true (sym (none b) ∙ f))
  where
    none : (x : WaitLock) → is_below x Catalogue ≡ false
    none Catalogue = refl
    none Heads = refl
    none (Branch n) = refl
below_below Catalogue b Heads e f = refl
below_below Catalogue b (Branch k) e f = refl
below_below Heads Catalogue c e f = absurd (false≢true e)
below_below Heads Heads c e f = absurd (false≢true e)
below_below Heads (Branch m) Catalogue e f = absurd (false≢true f)
below_below Heads (Branch m) Heads e f = absurd (false≢true f)
below_below Heads (Branch m) (Branch k) e f = refl
below_below (Branch n) Catalogue c e f = absurd (false≢true e)
below_below (Branch n) Heads c e f = absurd (false≢true e)
below_below (Branch n) (Branch m) Catalogue e f = absurd (false≢true f)
below_below (Branch n) (Branch m) Heads e f = absurd (false≢true f)
below_below (Branch n) (Branch m) (Branch k) e f = ap is_lt (nat_list_cmp_total.trans n m k (less (names n m) e) (less (names m k) f))

lock_cases : (a b : WaitLock) → is_below a b ≡ false → (is_below b a ≡ true) ⊎ (a ≡ b)
lock_cases Catalogue Catalogue e = inr refl
lock_cases Catalogue Heads e = absurd (true≢false e)
lock_cases Catalogue (Branch m) e = absurd (true≢false e)
lock_cases Heads Catalogue e = inl refl
lock_cases Heads Heads e = inr refl
lock_cases Heads (Branch m) e = absurd (true≢false e)
lock_cases (Branch n) Catalogue e = inl refl
lock_cases (Branch n) Heads e = inl refl
lock_cases (Branch n) (Branch m) e = ⊎_elim
    (λ (a : is_lt (names m n) ≡ true). inl a)
    (λ (a : n ≡ m). inr (ap (λ (x : List ℕ). Branch x) a))
    (name_cases n m e)

-- the first loss is on a lower lock, or on one lock by a lower session
abbrev pub is_first : Loss → Loss → Bool
is_first p q = is_below p.lock q.lock || (same_lock p.lock q.lock && nat_lt p.by q.by)

by_lock : (p q : Loss) → is_below p.lock q.lock ≡ true → is_first p q ≡ true
by_lock p q e = or_left (is_below p.lock q.lock) (same_lock p.lock q.lock && nat_lt p.by q.by) e

by_session : (p q : Loss) → p.lock ≡ q.lock → p.by < q.by → is_first p q ≡ true
by_session p q e l = or_right (is_below p.lock q.lock) (same_lock p.lock q.lock && nat_lt p.by q.by)
    (and_from (same_lock p.lock q.lock) (nat_lt p.by q.by) (subst (λ (x : WaitLock). same_lock p.lock x ≡ true) e (is_same p.lock)) (lt-ltb p.by q.by l))

first_parts : (p q : Loss) → is_first p q ≡ true → (is_below p.lock q.lock ≡ true) ⊎ ((p.lock ≡ q.lock) × (p.by < q.by))
first_parts p q e = ⊎_elim
    (λ (a : is_below p.lock q.lock ≡ true). inl a)
    (λ (a : (same_lock p.lock q.lock && nat_lt p.by q.by) ≡ true). let two = and_parts (same_lock p.lock q.lock) (nat_lt p.by q.by) a in inr (same_is p.lock q.lock two.0, ltb-true p.by q.by two.1))
    (or_cases (is_below p.lock q.lock) (same_lock p.lock q.lock && nat_lt p.by q.by) e)

first_first : (p q r : Loss) → is_first p q ≡ true → is_first q r ≡ true → is_first p r ≡ true
first_first p q r e f = ⊎_elim
    (λ (a : is_below p.lock q.lock ≡ true). ⊎_elim
    (λ (b : is_below q.lock r.lock ≡ true). by_lock p r (below_below p.lock q.lock r.lock a b))
    (λ (b : (q.lock ≡ r.lock) × (q.by < r.by)). by_lock p r (subst (λ (x : WaitLock). is_below p.lock x ≡ true) b.0 a))
    (first_parts q r f))
    (λ (a : (p.lock ≡ q.lock) × (p.by < q.by)). ⊎_elim
    (λ (b : is_below q.lock r.lock ≡ true). by_lock p r (subst (λ (x : WaitLock). is_below x r.lock ≡ true) (sym a.0) b))
    (λ (b : (q.lock ≡ r.lock) × (q.by < r.by)). by_session p r (a.0 ∙ b.0) (let x = a.1 in let y = b.1 in omega (arith, x, y)))
    (first_parts q r f))
    (first_parts p q e)

first_cases : (p q : Loss) → is_first p q ≡ false → (is_first q p ≡ true) ⊎ (p ≡ q)
first_cases p q e =
    let two = or_parts (is_below p.lock q.lock) (same_lock p.lock q.lock && nat_lt p.by q.by) e in
    ⊎_elim
    (λ (a : is_below q.lock p.lock ≡ true). inl (by_lock q p a))
    (λ (a : p.lock ≡ q.lock). ⊎_elim
    (λ (b : q.by < p.by). inl (by_session q p (sym a) b))
    (λ (b : p.by ≤ q.by). inr (let le : q.by ≤ p.by = least_by p q a e in let is : p.by ≡ q.by = omega (arith, b, le) in λ i. record { lock = a i; by = is i }))
    (cases_lt q.by p.by))
    (lock_cases p.lock q.lock two.0)
  where
    least_by : (p q : Loss) → p.lock ≡ q.lock → is_first p q ≡ false → q.by ≤ p.by
    least_by p q a e = ⊎_elim
        (λ (b : p.by < q.by). absurd (true≢false (sym (by_session p q a b) ∙ e)))
        (λ (b : q.by ≤ p.by). b)
        (cases_lt p.by q.by)

-- what isn't before the later one isn't before the first one
pub not_before : (r p q : Loss) → is_first p q ≡ true → is_first r q ≡ false → is_first r p ≡ false
not_before r p q e f = at (is_first r p) refl
  where
    at : (b : Bool) → is_first r p ≡ b → b ≡ false
    at true g = absurd (true≢false (sym (first_first r p q g e) ∙ f))
    at false g = refl

-- what isn't before one isn't before an earlier one
pub not_earlier : (r p q : Loss) → is_first p q ≡ false → is_first r p ≡ false → is_first r q ≡ false
not_earlier r p q e f = at (is_first r q) refl
  where
    at : (b : Bool) → is_first r q ≡ b → b ≡ false
    at true g = ⊎_elim
        (λ (a : is_first p r ≡ true). absurd (true≢false (sym (first_first p r q a g) ∙ e)))
        (λ (a : r ≡ p). absurd (true≢false (sym g ∙ subst (λ (x : Loss). is_first x q ≡ false) (sym a) e)))
        (first_cases r p f)
    at false g = refl

-- where the other isn't before it, it is on no higher lock, and there by no higher session
pub lock_least : (p q : Loss) → is_first q p ≡ false → is_below q.lock p.lock ≡ false
lock_least p q e = (or_parts (is_below q.lock p.lock) (same_lock q.lock p.lock && nat_lt q.by p.by) e).0

pub session_least : (p q : Loss) → q.lock ≡ p.lock → is_first q p ≡ false → p.by ≤ q.by
session_least p q a e = ⊎_elim
    (λ (b : q.by < p.by). absurd (true≢false (sym (by_session q p a b) ∙ e)))
    (λ (b : p.by ≤ q.by). b)
    (cases_lt q.by p.by)

pub not_first_by : (p q : Loss) → q.lock ≡ p.lock → p.by ≤ q.by → is_first q p ≡ false
not_first_by p q a l = at (is_first q p) refl
  where
    at : (b : Bool) → is_first q p ≡ b → b ≡ false
    at true e = ⊎_elim
        (λ (h : is_below q.lock p.lock ≡ true). absurd (true≢false (sym h ∙ subst (λ (x : WaitLock). is_below q.lock x ≡ false) a (not_below q.lock))))
        (λ (h : (q.lock ≡ p.lock) × (q.by < p.by)). let m = h.1 in absurd (omega (arith, l, m)))
        (first_parts q p e)
    at false e = refl
