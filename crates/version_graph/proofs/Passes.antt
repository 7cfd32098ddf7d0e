-- One pass from the newest version down finds the last common ancestor.
use Rattle.std.proofs.Common.{◌≡◌, ◌⊎◌, inl, inr, ⊎_elim, ℕ, zero, suc, ◌==◌, ◌<◌, ◌≤◌, Bool, true, false, cond, ◌&&◌, ◌||◌, List, [], ◌∷◌, ◌++◌, length, refl, sym, ap, ◌∙◌, subst, arith}
use Rattle.std.specs.List.{Contains}
use Rattle.std.proofs.lemmas.Bool.{cases_lt, false≢true, eqb-true, eq-eqb, ne_eqb, and_from, and_parts, or_left, or_right, or_cases}
use Rattle.std.proofs.lemmas.List.Folds.{list_any-append}
use Rattle.std.proofs.lemmas.List.{length_push}
use Rattle.version_graph.specs.Ancestors.{parents_of, Reaches, Itself, Through, AllEarlier, IsLastCommon, NoneFrom}
use Rattle.version_graph.specs.LastCommon.{is_among, passed, last_below}
use Rattle.version_graph.specs.Laws.{LastLaw, StaysLaw}
use Rattle.version_graph.proofs.Reaching.{order_law, steps_law, by_parent, same_parents}
use Rattle.version_graph.proofs.OneSide.{contains_cases, contains_first, contains_rest}

-- ---- members

among_contains : (v : ℕ) (rs : List ℕ) → is_among v rs ≡ true → Contains rs v
among_contains v [] e = absurd (false≢true e)
among_contains v (r ∷ rs) e = ⊎_elim
    (λ (q : (v == r) ≡ true). contains_first r rs v (sym (eqb-true v r q)))
    (λ (q : is_among v rs ≡ true). contains_rest r rs v (among_contains v rs q))
    (or_cases (v == r) (is_among v rs) e)

contains_among : (v : ℕ) (rs : List ℕ) → Contains rs v → is_among v rs ≡ true
contains_among v [] h = let none = h.1 in absurd (omega (arith, none))
contains_among v (r ∷ rs) h = ⊎_elim
    (λ (e : r ≡ v). or_left (v == r) (is_among v rs) (eq-eqb v r (sym e)))
    (λ (k : Contains rs v). or_right (v == r) (is_among v rs) (contains_among v rs k))
    (contains_cases r rs v h)

module _ (vs : List (List ℕ)) where
  kept_at : (b : Bool) (x : ℕ) (ps rs : List ℕ) → is_among x rs ≡ true → is_among x (cond b (ps ++ rs) rs) ≡ true
  kept_at true x ps rs h = list_any-append (λ r. x == r) ps rs ∙ or_right (is_among x ps) (is_among x rs) h
  kept_at false x ps rs h = h

  -- what was reached stays
  kept : (v x : ℕ) (rs : List ℕ) → is_among x rs ≡ true → is_among x (passed vs v rs) ≡ true
  kept v x rs h = kept_at (is_among v rs) x (parents_of vs v) rs h

  -- and the parents of a reached version are
  parent : (v x : ℕ) (rs : List ℕ) → is_among v rs ≡ true → Contains (parents_of vs v) x → is_among x (passed vs v rs) ≡ true
  parent v x rs e h =
      ap (λ (b : Bool). is_among x (cond b (parents_of vs v ++ rs) rs)) e
      ∙ list_any-append (λ r. x == r) (parents_of vs v) rs
      ∙ or_left (is_among x (parents_of vs v)) (is_among x rs) (contains_among x (parents_of vs v) h)

  from_at : (b : Bool) (x : ℕ) (ps rs : List ℕ) → is_among x (cond b (ps ++ rs) rs) ≡ true → (is_among x rs ≡ true) ⊎ ((b ≡ true) × (is_among x ps ≡ true))
  from_at true x ps rs h = ⊎_elim
      (λ (p : is_among x ps ≡ true). inr (refl, p))
      (λ (r : is_among x rs ≡ true). inl r)
      (or_cases (is_among x ps) (is_among x rs) (sym (list_any-append (λ r. x == r) ps rs) ∙ h))
  from_at false x ps rs h = inl h

  -- ---- one side, which comes from the version `from`: the versions from `n` on were passed

  record Side (from n : ℕ) (rs : List ℕ) : Type 0 where
    pub sound : (x : ℕ) → is_among x rs ≡ true → Reaches vs from x
    pub whole : (x : ℕ) → x < n → Reaches vs from x → (q : ℕ) × (q < n) × (is_among q rs ≡ true) × Reaches vs q x

  begun : (from n : ℕ) → from < n → Side from n (from ∷ [])
  begun from n h = record {
    sound = λ x e. ⊎_elim (λ (q : (x == from) ≡ true). subst (Reaches vs from) (sym (eqb-true x from q)) (Itself from)) (λ (q : false ≡ true). absurd (false≢true q)) (or_cases (x == from) false e);
    whole = λ x l r. (from, h, or_left (from == from) false (eq-eqb from from refl), r);
  }

  module _ (earlier : AllEarlier vs) where
    next : (from v : ℕ) (rs : List ℕ) → Side from (suc v) rs → Side from v (passed vs v rs)
    next from v rs s = record {
      sound = λ x e. ⊎_elim
          (λ (r : is_among x rs ≡ true). s.sound x r)
          (λ (p : (is_among v rs ≡ true) × (is_among x (parents_of vs v) ≡ true)). steps_law vs from v x (s.sound v p.0) (Through v x x (among_contains x (parents_of vs v) p.1) (Itself x)))
          (from_at (is_among v rs) x (parents_of vs v) rs e);
      whole = λ x l r.
          let k = s.whole x (omega (arith, l)) r in
          ⊎_elim
          (λ (a : k.0 < v). (k.0, a, kept v k.0 rs k.2, k.3))
          (λ (a : v ≤ k.0).
          let below = k.1 in
          let same : k.0 ≡ v = omega (arith, a, below) in
          let up = by_parent vs v x l (subst (λ q. Reaches vs q x) same k.3) in
          (up.0, earlier v up.0 up.1, parent v up.0 rs (subst (λ q. is_among q rs ≡ true) same k.2) up.1, up.2))
          (cases_lt k.0 v);
    }

    -- a version that the side reaches is among those reached when it is passed
    reached : (from v : ℕ) (rs : List ℕ) → Side from (suc v) rs → Reaches vs from v → is_among v rs ≡ true
    reached from v rs s r =
        let k = s.whole v (omega arith) r in
        let down = order_law vs k.0 v earlier k.3 in
        let below = k.1 in
        let same : k.0 ≡ v = omega (arith, down, below) in
        subst (λ q. is_among q rs ≡ true) same k.2

    module _ (left right : ℕ) (left_root : Reaches vs left 0) (right_root : Reaches vs right 0) where
      found_at : (b : Bool) (v c : ℕ) (ls rs : List ℕ) → (is_among v ls && is_among v rs) ≡ b → Side left (suc v) ls → Side right (suc v) rs → NoneFrom vs left right (suc v)
          → (NoneFrom vs left right v → IsLastCommon vs left right c) → IsLastCommon vs left right (cond b v c)
      found_at true v c ls rs e l r none later =
          let two = and_parts (is_among v ls) (is_among v rs) e in
          record {
            of_left = l.sound v two.0;
            of_right = r.sound v two.1;
            last = λ x a b. ⊎_elim (λ (more : v < x). absurd (none x (omega (arith, more)) a b)) (λ (less : x ≤ v). less) (cases_lt v x);
          }
      found_at false v c ls rs e l r none later = later (λ x le a b. ⊎_elim
          (λ (more : v < x). none x (omega (arith, more)) a b)
          (λ (less : x ≤ v).
          let same : x ≡ v = omega (arith, le, less) in
          false≢true (sym e ∙ and_from (is_among v ls) (is_among v rs) (reached left v ls l (subst (Reaches vs left) same a)) (reached right v rs r (subst (Reaches vs right) same b))))
          (cases_lt v x))

      found : (n : ℕ) (ls rs : List ℕ) → Side left n ls → Side right n rs → NoneFrom vs left right n → IsLastCommon vs left right (last_below vs n ls rs)
      found zero ls rs l r none = absurd (none 0 (omega arith) left_root right_root)
      found (suc v) ls rs l r none =
          found_at (is_among v ls && is_among v rs) v (last_below vs v (passed vs v ls) (passed vs v rs)) ls rs refl l r none
          (λ later. found v (passed vs v ls) (passed vs v rs) (next left v ls l) (next right v rs r) later)

pub last_law : LastLaw
last_law vs left right earlier l r left_root right_root =
    found vs earlier left right left_root right_root (length vs) (left ∷ []) (right ∷ []) (begun vs left (length vs) l) (begun vs right (length vs) r)
    (λ x le a b. let down = order_law vs left x earlier a in absurd (omega (arith, down, l, le)))

-- ---- a new version is passed at once

same_passed : (vs : List (List ℕ)) (ps : List ℕ) (v : ℕ) (rs : List ℕ) → v < length vs → passed (vs ++ ps ∷ []) v rs ≡ passed vs v rs
same_passed vs ps v rs h = ap (λ (qs : List ℕ). cond (is_among v rs) (qs ++ rs) rs) (same_parents vs ps v h)

same_below : (vs : List (List ℕ)) (ps : List ℕ) (n : ℕ) (ls rs : List ℕ) → n ≤ length vs → last_below (vs ++ ps ∷ []) n ls rs ≡ last_below vs n ls rs
same_below vs ps zero ls rs h = refl
same_below vs ps (suc v) ls rs h = ap (λ c. cond (is_among v ls && is_among v rs) v c)
    ((λ i. last_below (vs ++ ps ∷ []) v (same_passed vs ps v ls (omega (arith, h)) i) (same_passed vs ps v rs (omega (arith, h)) i))
    ∙ same_below vs ps v (passed vs v ls) (passed vs v rs) (omega (arith, h)))

not_new : (v a : ℕ) → a < v → is_among v (a ∷ []) ≡ false
not_new v a h = ap (λ (b : Bool). b || false) (ne_eqb v a (λ e. omega (arith, e, h)))

skipped : (vs : List (List ℕ)) (v a b : ℕ) → a < v → b < v → last_below vs (suc v) (a ∷ []) (b ∷ []) ≡ last_below vs v (a ∷ []) (b ∷ [])
skipped vs v a b h k =
    ap (λ (q : Bool). cond (q && is_among v (b ∷ [])) v (last_below vs v (cond q (parents_of vs v ++ a ∷ []) (a ∷ [])) (passed vs v (b ∷ [])))) (not_new v a h)
    ∙ ap (λ (q : Bool). last_below vs v (a ∷ []) (cond q (parents_of vs v ++ b ∷ []) (b ∷ []))) (not_new v b k)

pub stays_law : StaysLaw
stays_law vs ps a b h k =
    let one : length (vs ++ ps ∷ []) ≡ suc (length vs) = let n = length_push vs ps in omega (arith, n) in
    ap (λ n. last_below (vs ++ ps ∷ []) n (a ∷ []) (b ∷ [])) one
    ∙ skipped (vs ++ ps ∷ []) (length vs) a b h k
    ∙ same_below vs ps (length vs) (a ∷ []) (b ∷ []) (omega arith)
