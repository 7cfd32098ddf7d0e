-- The holder of a lock is the least of the rows that block a request, and depends on the set of rows alone.
use Rattle.std.proofs.Common.{◌≡◌, ◌⊎◌, inl, inr, ⊎_elim, ℕ, ◌<◌, ◌≤◌, ◌==◌, nat_lt, Bool, true, false, cond, not, ◌&&◌, ◌||◌, List, [], ◌∷◌, ◌++◌, Option, Some, None, refl, sym, ap, ◌∙◌, subst, arith}
use Rattle.std.specs.Prelude.{MatchOption}
use Rattle.std.proofs.lemmas.Bool.{eqb-true, eqb-false, ltb-true, ltb-false, false≢true, and_from, and_parts, or_left, or_right, or_cases, or_parts, and_cases, cases_lt, false_from_ne_true}
use Rattle.lock_table.specs.declared.need.Need.{Need}
use Rattle.lock_table.specs.Rows.{Row, conflict, conflicts, blocks, lesser, holder}
use Rattle.lock_table.specs.Grants.{Has, row}
use Rattle.lock_table.specs.Laws.{NoneBlocks, IsHolder, HolderLaw, Covers, CoverLaw}

-- p comes before q, or is q
abbrev pub Before : ℕ × ℕ → ℕ × ℕ → Type 0
Before p q = (p.0 < q.0) ⊎ ((p.0 ≡ q.0) × (p.1 ≤ q.1))

both : (p q : ℕ × ℕ) → Before p q → Before q p → p ≡ q
both p q h k =
    let first : p.0 ≡ q.0 = ⊎_elim (λ (a : p.0 < q.0). ⊎_elim (λ (b : q.0 < p.0). omega (arith, a, b)) (λ (b : (q.0 ≡ p.0) × (q.1 ≤ p.1)). sym b.0) k) (λ (a : (p.0 ≡ q.0) × (p.1 ≤ q.1)). a.0) h in
    let second : p.1 ≡ q.1 = ⊎_elim (λ (a : p.0 < q.0). absurd (omega (arith, a, first))) (λ (a : (p.0 ≡ q.0) × (p.1 ≤ q.1)). ⊎_elim (λ (b : q.0 < p.0). absurd (omega (arith, b, first))) (λ (b : (q.0 ≡ p.0) × (q.1 ≤ p.1)). let x = a.1 in let y = b.1 in omega (arith, x, y)) k) h in
    λ i. (first i, second i)

steps : (p q r : ℕ × ℕ) → Before p q → Before q r → Before p r
steps p q r h k = ⊎_elim
    (λ (a : p.0 < q.0). ⊎_elim (λ (b : q.0 < r.0). inl (omega (arith, a, b))) (λ (b : (q.0 ≡ r.0) × (q.1 ≤ r.1)). let e = b.0 in inl (omega (arith, a, e))) k)
    (λ (a : (p.0 ≡ q.0) × (p.1 ≤ q.1)). ⊎_elim (λ (b : q.0 < r.0). let e = a.0 in inl (omega (arith, e, b))) (λ (b : (q.0 ≡ r.0) × (q.1 ≤ r.1)). let x = a.1 in let y = b.1 in inr (a.0 ∙ b.0, omega (arith, x, y))) k)
    h

itself : (p : ℕ × ℕ) → Before p p
itself p = inr (refl, omega arith)

abbrev is_lesser : ℕ × ℕ → ℕ × ℕ → Bool
is_lesser p q = nat_lt p.0 q.0 || (p.0 == q.0 && nat_lt p.1 q.1)

first_is : (p q : ℕ × ℕ) → is_lesser p q ≡ true → Before p q
first_is p q e = ⊎_elim
    (λ (a : nat_lt p.0 q.0 ≡ true). inl (ltb-true _ _ a))
    (λ (a : (p.0 == q.0 && nat_lt p.1 q.1) ≡ true). let two = and_parts _ _ a in let l : p.1 < q.1 = ltb-true _ _ two.1 in inr (eqb-true _ _ two.0, omega (arith, l)))
    (or_cases _ _ e)

second_is : (p q : ℕ × ℕ) → is_lesser p q ≡ false → Before q p
second_is p q e =
    let two = or_parts _ _ e in
    let low : q.0 ≤ p.0 = ltb-false _ _ two.0 in
    ⊎_elim
    (λ (a : (p.0 == q.0) ≡ false). let d : p.0 ≡ q.0 → ⊥ = eqb-false _ _ a in ⊎_elim (λ (l : q.0 < p.0). inl l) (λ (g : p.0 ≤ q.0). absurd (d (omega (arith, low, g)))) (cases_lt q.0 p.0))
    (λ (a : nat_lt p.1 q.1 ≡ false). let l : q.1 ≤ p.1 = ltb-false _ _ a in ⊎_elim (λ (m : q.0 < p.0). inl m) (λ (g : p.0 ≤ q.0). inr (omega (arith, low, g), l)) (cases_lt q.0 p.0))
    (and_cases _ _ two.1)

-- o is the least of the pairs that meet P, if there are any
abbrev pub IsLeast : (ℕ × ℕ → Type 0) → Option (ℕ × ℕ) → Type 0
IsLeast P None = (q : ℕ × ℕ) → P q → ⊥
IsLeast P (Some p) = P p × ((q : ℕ × ℕ) → P q → Before p q)

-- facts that say the same have the same least pair
pub same_least : (P Q : ℕ × ℕ → Type 0) → ((q : ℕ × ℕ) → P q → Q q) → ((q : ℕ × ℕ) → Q q → P q) → (o u : Option (ℕ × ℕ)) → IsLeast P o → IsLeast Q u → o ≡ u
same_least P Q f g None None h k = refl
same_least P Q f g None (Some q) h k = absurd (h q (g q k.0))
same_least P Q f g (Some p) None h k = absurd (k p (f p h.0))
same_least P Q f g (Some p) (Some q) h k = ap (λ (x : ℕ × ℕ). Some x) (both p q (h.1 q (g q k.0)) (k.1 p (f p h.0)))

lesser_at : (P : ℕ × ℕ → Type 0) (p q : ℕ × ℕ) (b : Bool) → is_lesser p q ≡ b → IsLeast P (Some q) → IsLeast (λ r. (p ≡ r) ⊎ P r) (Some (cond b p q))
lesser_at P p q true e h = (inl refl, λ r k. ⊎_elim (λ (a : p ≡ r). subst (λ (x : ℕ × ℕ). Before p x) a (itself p)) (λ (a : P r). steps p q r (first_is p q e) (h.1 r a)) k)
lesser_at P p q false e h = (inr h.0, λ r k. ⊎_elim (λ (a : p ≡ r). subst (λ (x : ℕ × ℕ). Before q x) a (second_is p q e)) (λ (a : P r). h.1 r a) k)

-- one pair more
pub lesser_least : (P : ℕ × ℕ → Type 0) (p : ℕ × ℕ) (o : Option (ℕ × ℕ)) → IsLeast P o → IsLeast (λ r. (p ≡ r) ⊎ P r) (Some (lesser p o))
lesser_least P p None h = (inl refl, λ r k. ⊎_elim (λ (a : p ≡ r). subst (λ (x : ℕ × ℕ). Before p x) a (itself p)) (λ (a : P r). absurd (h r a)) k)
lesser_least P p (Some q) h = lesser_at P p q (is_lesser p q) refl h

-- where the least of some meets P, and each of them that meets Q comes behind it
pub least_of_both : (P Q : ℕ × ℕ → Type 0) (p : ℕ × ℕ) (o : Option (ℕ × ℕ)) → IsLeast P (Some p) → IsLeast Q o → IsLeast (λ r. P r ⊎ Q r) (Some (lesser p o))
least_of_both P Q p o h k =
    let m = lesser_least Q p o k in (
      ⊎_elim (λ (a : p ≡ lesser p o). inl (subst P a h.0)) (λ (a : Q (lesser p o)). inr a) m.0,
      λ r i. ⊎_elim (λ (a : P r). steps (lesser p o) p r (m.1 p (inl refl)) (h.1 r a)) (λ (a : Q r). m.1 r (inr a)) i,
    )

pub least_of_one : (P Q : ℕ × ℕ → Type 0) (o : Option (ℕ × ℕ)) → IsLeast P None → IsLeast Q o → IsLeast (λ r. P r ⊎ Q r) o
least_of_one P Q None h k = λ r i. ⊎_elim (λ (a : P r). h r a) (λ (a : Q r). k r a) i
least_of_one P Q (Some q) h k = (inr k.0, λ r i. ⊎_elim (λ (a : P r). absurd (h r a)) (λ (a : Q r). k.1 r a) i)

abbrev pub key_of : Row → ℕ × ℕ
key_of r = (r.need.lock, r.session)

-- the lock and session of a row that blocks the needs
abbrev pub Blocking : ℕ → List Need → List Row → ℕ × ℕ → Type 0
Blocking s ns rows p = (r : Row) × Has rows r × (blocks s ns r ≡ true) × (key_of r ≡ p)

extend : (P Q : ℕ × ℕ → Type 0) → ((q : ℕ × ℕ) → P q → Q q) → ((q : ℕ × ℕ) → Q q → P q) → (o : Option (ℕ × ℕ)) → IsLeast P o → IsLeast Q o
extend P Q f g None h = λ q k. h q (g q k)
extend P Q f g (Some p) h = (f p h.0, λ q k. h.1 q (g q k))

holder_at : (s : ℕ) (ns : List Need) (r : Row) (rs : List Row) (b : Bool) → blocks s ns r ≡ b → IsLeast (Blocking s ns rs) (holder s ns rs)
    → IsLeast (Blocking s ns (r ∷ rs)) (cond b (Some (lesser (key_of r) (holder s ns rs))) (holder s ns rs))
holder_at s ns r rs true e h = extend (λ q. (key_of r ≡ q) ⊎ Blocking s ns rs q) (Blocking s ns (r ∷ rs))
    (λ q k. ⊎_elim (λ (a : key_of r ≡ q). (r, inl refl, e, a)) (λ (a : Blocking s ns rs q). (a.0, inr a.1, a.2, a.3)) k)
    (λ q k. ⊎_elim (λ (a : r ≡ k.0). inl (ap key_of a ∙ k.3)) (λ (a : Has rs k.0). inr (k.0, a, k.2, k.3)) k.1)
    (Some (lesser (key_of r) (holder s ns rs)))
    (lesser_least (Blocking s ns rs) (key_of r) (holder s ns rs) h)
holder_at s ns r rs false e h = extend (Blocking s ns rs) (Blocking s ns (r ∷ rs))
    (λ q k. (k.0, inr k.1, k.2, k.3))
    (λ q k. ⊎_elim (λ (a : r ≡ k.0). absurd (false≢true (sym e ∙ ap (blocks s ns) a ∙ k.2))) (λ (a : Has rs k.0). (k.0, a, k.2, k.3)) k.1)
    (holder s ns rs)
    h

pub holder_least : (s : ℕ) (ns : List Need) (rows : List Row) → IsLeast (Blocking s ns rows) (holder s ns rows)
holder_least s ns [] = λ q k. k.1
holder_least s ns (r ∷ rs) = holder_at s ns r rs (blocks s ns r) refl (holder_least s ns rs)

conflicts_left : (ns ms : List Need) (m : Need) → conflicts ns m ≡ true → conflicts (ns ++ ms) m ≡ true
conflicts_left [] ms m e = absurd (false≢true e)
conflicts_left (n ∷ ns) ms m e = ⊎_elim
    (λ (a : conflict n m ≡ true). or_left (conflict n m) (conflicts (ns ++ ms) m) a)
    (λ (a : conflicts ns m ≡ true). or_right (conflict n m) (conflicts (ns ++ ms) m) (conflicts_left ns ms m a))
    (or_cases (conflict n m) (conflicts ns m) e)

conflicts_right : (ns ms : List Need) (m : Need) → conflicts ms m ≡ true → conflicts (ns ++ ms) m ≡ true
conflicts_right [] ms m e = e
conflicts_right (n ∷ ns) ms m e = or_right (conflict n m) (conflicts (ns ++ ms) m) (conflicts_right ns ms m e)

conflicts_parts : (ns ms : List Need) (m : Need) → conflicts (ns ++ ms) m ≡ true → (conflicts ns m ≡ true) ⊎ (conflicts ms m ≡ true)
conflicts_parts [] ms m e = inr e
conflicts_parts (n ∷ ns) ms m e = ⊎_elim
    (λ (a : conflict n m ≡ true). inl (or_left (conflict n m) (conflicts ns m) a))
    (λ (a : conflicts (ns ++ ms) m ≡ true). ⊎_elim (λ (b : conflicts ns m ≡ true). inl (or_right (conflict n m) (conflicts ns m) b)) (λ (b : conflicts ms m ≡ true). inr b) (conflicts_parts ns ms m a))
    (or_cases (conflict n m) (conflicts (ns ++ ms) m) e)

-- the rows that block one need more
into_more : (s : ℕ) (ns : List Need) (n : Need) (rows : List Row) (q : ℕ × ℕ) → Blocking s (n ∷ []) rows q ⊎ Blocking s ns rows q → Blocking s (ns ++ n ∷ []) rows q
into_more s ns n rows q k = ⊎_elim
    (λ (a : Blocking s (n ∷ []) rows q). let two = and_parts _ _ a.2 in (a.0, a.1, and_from (not (a.0.session == s)) (conflicts (ns ++ n ∷ []) a.0.need) two.0 (conflicts_right ns (n ∷ []) a.0.need two.1), a.3))
    (λ (a : Blocking s ns rows q). let two = and_parts _ _ a.2 in (a.0, a.1, and_from (not (a.0.session == s)) (conflicts (ns ++ n ∷ []) a.0.need) two.0 (conflicts_left ns (n ∷ []) a.0.need two.1), a.3))
    k

from_more : (s : ℕ) (ns : List Need) (n : Need) (rows : List Row) (q : ℕ × ℕ) → Blocking s (ns ++ n ∷ []) rows q → Blocking s (n ∷ []) rows q ⊎ Blocking s ns rows q
from_more s ns n rows q k = let two = and_parts (not (k.0.session == s)) (conflicts (ns ++ n ∷ []) k.0.need) k.2 in ⊎_elim
    (λ (a : conflicts ns k.0.need ≡ true). inr (k.0, k.1, and_from (not (k.0.session == s)) (conflicts ns k.0.need) two.0 a, k.3))
    (λ (a : conflicts (n ∷ []) k.0.need ≡ true). inl (k.0, k.1, and_from (not (k.0.session == s)) (conflicts (n ∷ []) k.0.need) two.0 a, k.3))
    (conflicts_parts ns (n ∷ []) k.0.need two.1)

-- with one need more, the least is the lesser of what it and the others are held by
pub least_more : (s : ℕ) (ns : List Need) (n : Need) (rows : List Row) (p : ℕ × ℕ) (o : Option (ℕ × ℕ)) → holder s (n ∷ []) rows ≡ Some p → IsLeast (Blocking s ns rows) o → IsLeast (Blocking s (ns ++ n ∷ []) rows) (Some (lesser p o))
least_more s ns n rows p o e h = extend (λ q. Blocking s (n ∷ []) rows q ⊎ Blocking s ns rows q) (Blocking s (ns ++ n ∷ []) rows) (into_more s ns n rows) (from_more s ns n rows) (Some (lesser p o))
    (least_of_both (Blocking s (n ∷ []) rows) (Blocking s ns rows) p o (subst (λ (u : Option (ℕ × ℕ)). IsLeast (Blocking s (n ∷ []) rows) u) e (holder_least s (n ∷ []) rows)) h)

pub least_same : (s : ℕ) (ns : List Need) (n : Need) (rows : List Row) (o : Option (ℕ × ℕ)) → holder s (n ∷ []) rows ≡ None → IsLeast (Blocking s ns rows) o → IsLeast (Blocking s (ns ++ n ∷ []) rows) o
least_same s ns n rows o e h = extend (λ q. Blocking s (n ∷ []) rows q ⊎ Blocking s ns rows q) (Blocking s (ns ++ n ∷ []) rows) (into_more s ns n rows) (from_more s ns n rows) o
    (least_of_one (Blocking s (n ∷ []) rows) (Blocking s ns rows) o (subst (λ (u : Option (ℕ × ℕ)). IsLeast (Blocking s (n ∷ []) rows) u) e (holder_least s (n ∷ []) rows)) h)

-- with no need there is none
pub least_none : (s : ℕ) (rows : List Row) → IsLeast (Blocking s [] rows) None
least_none s rows = λ q k. false≢true (and_parts (not (k.0.session == s)) false k.2).1

-- the law of the holder, by the answer
law_at : (s : ℕ) (ns : List Need) (rows : List Row) (o : Option (ℕ × ℕ)) → IsLeast (Blocking s ns rows) o → MatchOption o (NoneBlocks s ns rows) (λ p. IsHolder s ns rows p.0 p.1)
law_at s ns rows None h = λ r has. false_from_ne_true (blocks s ns r) (λ e. h (key_of r) (r, has, e, refl))
law_at s ns rows (Some p) h = record {
  found = (h.0.0, h.0.1, h.0.2, ap (λ (x : ℕ × ℕ). x.0) h.0.3, ap (λ (x : ℕ × ℕ). x.1) h.0.3);
  least_lock = λ r has e. ⊎_elim (λ (a : p.0 < r.need.lock). omega (arith, a)) (λ (a : (p.0 ≡ r.need.lock) × (p.1 ≤ r.session)). let x = a.0 in omega (arith, x)) (h.1 (key_of r) (r, has, e, refl));
  least_session = λ r has e same. ⊎_elim (λ (a : p.0 < r.need.lock). absurd (omega (arith, a, same))) (λ (a : (p.0 ≡ r.need.lock) × (p.1 ≤ r.session)). a.1) (h.1 (key_of r) (r, has, e, refl));
}

pub holder_law : HolderLaw
holder_law s ns rows = law_at s ns rows (holder s ns rows) (holder_least s ns rows)

or_true : (a : Bool) → (a || true) ≡ true
or_true true = refl
or_true false = refl

conflicts_more : (ns : List Need) (n : Need) → conflicts ns n ≡ true → conflicts ns (record { lock = n.lock; exclusive = true }) ≡ true
conflicts_more [] n e = e
conflicts_more (k ∷ ks) n e = ⊎_elim
    (λ (a : conflict k n ≡ true). or_left (conflict k (record { lock = n.lock; exclusive = true })) (conflicts ks (record { lock = n.lock; exclusive = true })) (and_from (k.lock == n.lock) (k.exclusive || true) (and_parts (k.lock == n.lock) (k.exclusive || n.exclusive) a).0 (or_true k.exclusive)))
    (λ (a : conflicts ks n ≡ true). or_right (conflict k (record { lock = n.lock; exclusive = true })) (conflicts ks (record { lock = n.lock; exclusive = true })) (conflicts_more ks n a))
    (or_cases (conflict k n) (conflicts ks n) e)

covering : (s : ℕ) (ns : List Need) (some all : List Row) → Covers some all → (q : ℕ × ℕ) → Blocking s ns all q → Blocking s ns some q
covering s ns some all c q k = ⊎_elim
    (λ (a : Has some k.0). (k.0, a, k.2, k.3))
    (λ (a : Has some (row k.0.session (record { lock = k.0.need.lock; exclusive = true }))).
    let two = and_parts _ _ k.2 in
    (row k.0.session (record { lock = k.0.need.lock; exclusive = true }), a, and_from _ _ two.0 (conflicts_more ns k.0.need two.1), k.3))
    (c.covered k.0 k.1)

pub cover_law : CoverLaw
cover_law s ns some all c = same_least (Blocking s ns some) (Blocking s ns all)
    (λ q k. (k.0, c.among k.0 k.1, k.2, k.3))
    (covering s ns some all c)
    (holder s ns some)
    (holder s ns all)
    (holder_least s ns some)
    (holder_least s ns all)
