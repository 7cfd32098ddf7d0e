-- Losses and holders are found where there are any, and are the least ones.
use Rattle.std.proofs.Common.{◌≡◌, ◌⊎◌, inl, inr, ⊎_elim, ℕ, ◌<◌, ◌≤◌, nat_lt, Bool, true, false, cond, List, [], ◌∷◌, Option, Some, None, refl, sym, ap, ◌∙◌, subst, arith}
use Rattle.std.specs.Prelude.{MatchOption}
use Rattle.std.proofs.lemmas.Bool.{false≢true, and_from, and_parts, or_cases, ltb-true, ltb-false}
use Rattle.lock_table.specs.Grants.{Has}
use Rattle.wait_die.specs.declared.want.Want.{Want}
use Rattle.wait_die.specs.declared.grant.Grant.{Grant}
use Rattle.wait_die.specs.declared.loss.Loss.{Loss}
use Rattle.wait_die.specs.Conflict.{conflict, conflicts}
use Rattle.wait_die.specs.Waiting.{is_older, is_of_other}
use Rattle.wait_die.specs.Turns.{lesser, least_session, is_ahead, is_against, lesser_loss, with_loss, loss_of, holder_of, turn_by}
use Rattle.wait_die.specs.Laws.{IsAhead, NoneIsAhead, IsLoss, IsAgainst, NoneIsAgainst, IsHolder, Says, TurnLaw}
use Rattle.wait_die.proofs.Lists.{other_is, is_other_not}
use Rattle.wait_die.proofs.Locks.{is_first, not_before, not_earlier, lock_least, session_least, not_first_by}

-- o is the least session with a grant that meets the test, if there is one
abbrev pub IsLeast : (Grant → Bool) → List Grant → Option ℕ → Type 0
IsLeast test gs None = (g : Grant) → Has gs g → test g ≡ true → ⊥
IsLeast test gs (Some s) = ((g : Grant) × Has gs g × (test g ≡ true) × (g.session ≡ s)) × ((g : Grant) → Has gs g → test g ≡ true → s ≤ g.session)

lesser_is : (test : Grant → Bool) (g : Grant) (gs : List Grant) (s : ℕ) → test g ≡ true → IsLeast test gs (Some s) → (b : Bool) → nat_lt g.session s ≡ b → IsLeast test (g ∷ gs) (Some (cond b g.session s))
lesser_is test g gs s e h true l = (
  (g, inl refl, e, refl),
  λ x i t. ⊎_elim
      (λ (j : g ≡ x). let k : g.session ≡ x.session = ap (λ (y : Grant). y.session) j in omega (arith, k))
      (λ (j : Has gs x). let m = h.1 x j t in let n : g.session < s = ltb-true g.session s l in omega (arith, m, n))
      i,
)
lesser_is test g gs s e h false l = (
  (h.0.0, inr h.0.1, h.0.2, h.0.3),
  λ x i t. ⊎_elim
      (λ (j : g ≡ x). let k : g.session ≡ x.session = ap (λ (y : Grant). y.session) j in let n : s ≤ g.session = ltb-false g.session s l in omega (arith, k, n))
      (λ (j : Has gs x). h.1 x j t)
      i,
)

least_at : (test : Grant → Bool) (g : Grant) (gs : List Grant) (b : Bool) → test g ≡ b → (o : Option ℕ) → IsLeast test gs o → IsLeast test (g ∷ gs) (cond b (Some (lesser g.session o)) o)
least_at test g gs true e None h = (
  (g, inl refl, e, refl),
  λ x i t. ⊎_elim
      (λ (j : g ≡ x). let k : g.session ≡ x.session = ap (λ (y : Grant). y.session) j in omega (arith, k))
      (λ (j : Has gs x). absurd (h x j t))
      i,
)
least_at test g gs true e (Some s) h = lesser_is test g gs s e h (nat_lt g.session s) refl
least_at test g gs false e None h = λ x i t. ⊎_elim
    (λ (j : g ≡ x). false≢true (sym e ∙ ap test j ∙ t))
    (λ (j : Has gs x). h x j t)
    i
least_at test g gs false e (Some s) h = (
  (h.0.0, inr h.0.1, h.0.2, h.0.3),
  λ x i t. ⊎_elim
      (λ (j : g ≡ x). absurd (false≢true (sym e ∙ ap test j ∙ t)))
      (λ (j : Has gs x). h.1 x j t)
      i,
)

pub least_is : (test : Grant → Bool) (gs : List Grant) → IsLeast test gs (least_session test gs)
least_is test [] = λ g h e. h
least_is test (g ∷ gs) = least_at test g gs (test g) refl (least_session test gs) (least_is test gs)

pub against_test : (s : ℕ) (ws : List Want) (gs : List Grant) (g : Grant) → IsAgainst s ws gs g → is_against s ws g ≡ true
against_test s ws gs g a = and_from (is_of_other s g) (conflicts ws g.want) (other_is s g.session a.other) a.conflicting

pub is_against_from : (s : ℕ) (ws : List Want) (gs : List Grant) (g : Grant) → Has gs g → is_against s ws g ≡ true → IsAgainst s ws gs g
is_against_from s ws gs g h e =
    let two = and_parts (is_of_other s g) (conflicts ws g.want) e in
    record { granted = h; other = is_other_not s g.session two.0; conflicting = two.1 }

pub holder_law : (s : ℕ) (ws : List Want) (gs : List Grant) → MatchOption (holder_of s ws gs) (NoneIsAgainst s ws gs) (λ by. IsHolder s ws gs by)
holder_law s ws gs = at (holder_of s ws gs) (least_is (is_against s ws) gs)
  where
    at : (o : Option ℕ) → IsLeast (is_against s ws) gs o → MatchOption o (NoneIsAgainst s ws gs) (λ by. IsHolder s ws gs by)
    at None h = λ g a. h g a.granted (against_test s ws gs g a)
    at (Some by) h = record {
      found = (h.0.0, is_against_from s ws gs h.0.0 h.0.1 h.0.2, h.0.3);
      least = λ g a. h.1 g a.granted (against_test s ws gs g a);
    }

-- u is the first of the losses that meet P, if there are any
abbrev pub IsFirst : (Loss → Type 0) → Option Loss → Type 0
IsFirst P None = (q : Loss) → P q → ⊥
IsFirst P (Some p) = P p × ((q : Loss) → P q → is_first q p ≡ false)

extend : (P Q : Loss → Type 0) → ((q : Loss) → P q → Q q) → ((q : Loss) → Q q → P q) → (u : Option Loss) → IsFirst P u → IsFirst Q u
extend P Q f g None h = λ q k. h q (g q k)
extend P Q f g (Some p) h = (f p h.0, λ q k. h.1 q (g q k))

first_at : (P Q : Loss → Type 0) (p q : Loss) → IsFirst Q (Some p) → IsFirst P (Some q) → (b : Bool) → is_first p q ≡ b → IsFirst (λ r. Q r ⊎ P r) (Some (cond b p q))
first_at P Q p q h k true e = (
  inl h.0,
  λ r i. ⊎_elim (λ (a : Q r). h.1 r a) (λ (a : P r). not_before r p q e (k.1 r a)) i,
)
first_at P Q p q h k false e = (
  inr k.0,
  λ r i. ⊎_elim (λ (a : Q r). not_earlier r p q e (h.1 r a)) (λ (a : P r). k.1 r a) i,
)

first_of : (P Q : Loss → Type 0) (p : Loss) (u : Option Loss) → IsFirst Q (Some p) → IsFirst P u → IsFirst (λ r. Q r ⊎ P r) (Some (lesser_loss p u))
first_of P Q p None h k = (inl h.0, λ r i. ⊎_elim (λ (a : Q r). h.1 r a) (λ (a : P r). absurd (k r a)) i)
first_of P Q p (Some q) h k = first_at P Q p q h k (is_first p q) refl

-- a loss to an older session that has a conflicting want
abbrev pub Ahead : List ℕ → ℕ → List Want → List Grant → Loss → Type 0
Ahead begun s ws gs p = (w : Want) × (g : Grant) × IsAhead begun s ws gs w g × (w.lock ≡ p.lock) × (g.session ≡ p.by)

-- one that is so by this want
abbrev By : List ℕ → ℕ → Want → List Grant → Loss → Type 0
By begun s w gs p = (g : Grant) × Has gs g × (is_ahead begun s w g ≡ true) × (w.lock ≡ p.lock) × (g.session ≡ p.by)

module _ (begun : List ℕ) (s : ℕ) (w : Want) (ws : List Want) (gs : List Grant) where
  more : (v : Want) (g : Grant) → IsAhead begun s ws gs v g → IsAhead begun s (w ∷ ws) gs v g
  more v g a = record { wanted = inr a.wanted; granted = a.granted; conflicting = a.conflicting; older = a.older }

  -- one want's losses and those of the others are all
  into : (q : Loss) → By begun s w gs q ⊎ Ahead begun s ws gs q → Ahead begun s (w ∷ ws) gs q
  into q k = ⊎_elim
      (λ (a : By begun s w gs q).
      let two = and_parts (conflict w a.0.want) (is_older begun a.0.session s) a.2 in
      (w, a.0, record { wanted = inl refl; granted = a.1; conflicting = two.0; older = two.1 }, a.3, a.4))
      (λ (a : Ahead begun s ws gs q). (a.0, a.1, more a.0 a.1 a.2, a.3, a.4))
      k

  from : (q : Loss) → Ahead begun s (w ∷ ws) gs q → By begun s w gs q ⊎ Ahead begun s ws gs q
  from q a = ⊎_elim
      (λ (i : w ≡ a.0). inl (
        a.1,
        a.2.granted,
        and_from (conflict w a.1.want) (is_older begun a.1.session s) (subst (λ (v : Want). conflict v a.1.want ≡ true) (sym i) a.2.conflicting) a.2.older,
        ap (λ (v : Want). v.lock) i ∙ a.3,
        a.4,
      ))
      (λ (i : Has ws a.0). inr (a.0, a.1, record { wanted = i; granted = a.2.granted; conflicting = a.2.conflicting; older = a.2.older }, a.3, a.4))
      a.2.wanted

  loss_at : (o : Option ℕ) → IsLeast (is_ahead begun s w) gs o → (u : Option Loss) → IsFirst (Ahead begun s ws gs) u → IsFirst (Ahead begun s (w ∷ ws) gs) (with_loss w.lock o u)
  loss_at None h u k = extend (Ahead begun s ws gs) (Ahead begun s (w ∷ ws) gs)
      (λ q a. into q (inr a))
      (λ q a. ⊎_elim (λ (b : By begun s w gs q). absurd (h b.0 b.1 b.2)) (λ (b : Ahead begun s ws gs q). b) (from q a))
      u
      k
  loss_at (Some by) h u k =
      let p : Loss = record { lock = w.lock; by = by } in
      let one : IsFirst (By begun s w gs) (Some p) = (
        (h.0.0, h.0.1, h.0.2, refl, h.0.3),
        λ q b. not_first_by p q (sym b.3) (subst (λ (n : ℕ). by ≤ n) b.4 (h.1 b.0 b.1 b.2)),
      ) in
      extend (λ r. By begun s w gs r ⊎ Ahead begun s ws gs r) (Ahead begun s (w ∷ ws) gs) into from
      (Some (lesser_loss p u))
      (first_of (Ahead begun s ws gs) (By begun s w gs) p u one k)

loss_first : (begun : List ℕ) (s : ℕ) (ws : List Want) (gs : List Grant) → IsFirst (Ahead begun s ws gs) (loss_of begun s ws gs)
loss_first begun s [] gs = λ q a. a.2.wanted
loss_first begun s (w ∷ ws) gs = loss_at begun s w ws gs (least_session (is_ahead begun s w) gs) (least_is (is_ahead begun s w) gs) (loss_of begun s ws gs) (loss_first begun s ws gs)

pub loss_law : (begun : List ℕ) (s : ℕ) (ws : List Want) (gs : List Grant) → MatchOption (loss_of begun s ws gs) (NoneIsAhead begun s ws gs) (λ loss. IsLoss begun s ws gs loss)
loss_law begun s ws gs = at (loss_of begun s ws gs) (loss_first begun s ws gs)
  where
    at : (u : Option Loss) → IsFirst (Ahead begun s ws gs) u → MatchOption u (NoneIsAhead begun s ws gs) (λ loss. IsLoss begun s ws gs loss)
    at None h = λ w g a. h (record { lock = w.lock; by = g.session }) (w, g, a, refl, refl)
    at (Some p) h = record {
      found = h.0;
      least_lock = λ w g a. lock_least p (record { lock = w.lock; by = g.session }) (h.1 (record { lock = w.lock; by = g.session }) (w, g, a, refl, refl));
      least_session = λ w g a e. session_least p (record { lock = w.lock; by = g.session }) e (h.1 (record { lock = w.lock; by = g.session }) (w, g, a, refl, refl));
    }

-- one of the wants conflicts with it
pub conflicts_has : (ws : List Want) (v : Want) → conflicts ws v ≡ true → (w : Want) × Has ws w × (conflict w v ≡ true)
conflicts_has [] v e = absurd (false≢true e)
conflicts_has (w ∷ ws) v e = ⊎_elim
    (λ (a : conflict w v ≡ true). (w, inl refl, a))
    (λ (a : conflicts ws v ≡ true). let r = conflicts_has ws v a in (r.0, inr r.1, r.2))
    (or_cases (conflict w v) (conflicts ws v) e)

-- the answer is by the loss, or else by the holder
pub turn_law : TurnLaw
turn_law t s ws = at (loss_of t.begun s ws t.grants) (loss_law t.begun s ws t.grants) (holder_of s ws t.grants) (holder_law s ws t.grants)
  where
    at : (u : Option Loss) → MatchOption u (NoneIsAhead t.begun s ws t.grants) (λ loss. IsLoss t.begun s ws t.grants loss)
        → (o : Option ℕ) → MatchOption o (NoneIsAgainst s ws t.grants) (λ by. IsHolder s ws t.grants by)
        → Says t s ws (turn_by u o)
    at (Some loss) h o k = h
    at None h (Some on) k = (h, k)
    at None h None k = (h, k)
