-- The versions in the order made, one after another: what is kept of them.
use Rattle.std.proofs.Common.{◌≡◌, ◌≢◌, ◌⊎◌, inl, inr, ℕ, zero, suc, ◌+◌, ◌<◌, ◌≤◌, ◌==◌, Bool, true, false, cond, List, [], ◌∷◌, ◌++◌, length, get_or, Option, Some, None, refl, sym, ap, subst, ◌∙◌, arith}
use Rattle.std.proofs.lemmas.Bool.{eqb-true, eqb-false, cases_eq, cases_lt}
use Rattle.std.proofs.lemmas.List.{length_push, get_or_push, get_or_append_left}
use Rattle.std.proofs.lemmas.List.Sums.{position_or_len_is}
use Rattle.db_value.specs.declared.version.VersionPlace.{VersionPlace}
use Rattle.db_store.specs.Dataset.{root, before}
use Rattle.db_store.specs.Order.{same_place, number_in, Stands, StandOnce}
use Rattle.db_store.proofs.OrderMade.{same_self, same_is, number_push, stands_push, stands_last}
use Rattle.hybrid_store.specs.Parts.{base_in}

-- ---- places

-- a place that stands for itself, and the version at position 0 of its branch otherwise
pub base_cases : (P : VersionPlace → Type 0) (bases : List VersionPlace) (p : VersionPlace) → (p.position ≡ 0 → P (get_or bases p.branch root)) → (0 < p.position → P p) → P (base_in bases p)
base_cases P bases p z s = at (p.position == 0) refl
  where
    at : (q : Bool) → (p.position == 0) ≡ q → P (cond q (get_or bases p.branch root) p)
    at true e = z (eqb-true p.position 0 e)
    at false e = s (let n = eqb-false p.position 0 e in some p.position n)
      where
        some : (k : ℕ) → (k ≡ 0 → ⊥) → 0 < k
        some zero n = absurd (n refl)
        some (suc k) n = omega arith

-- the root, or a version after position 0 of a branch
abbrev pub IsProper : VersionPlace → Type 0
IsProper at = (at ≡ root) ⊎ (0 < at.position)

-- the last position of its branch is as late
abbrev pub IsThere : (ℕ → ℕ) → VersionPlace → Type 0
IsThere last at = at.position ≤ last at.branch

-- the version that position 0 of a branch is was made
abbrev pub HasBegun : List VersionPlace → (ℕ → ℕ) → ℕ → Type 0
HasBegun bases last b = IsThere last (get_or bases b root)

not_same : (a b : VersionPlace) → (a ≡ b → ⊥) → same_place a b ≡ false
not_same a b n = at (same_place a b) refl
  where
    at : (q : Bool) → same_place a b ≡ q → q ≡ false
    at true e = absurd (n (same_is a b e))
    at false e = refl

-- the number of a version that isn't among them
number_new : (order : List VersionPlace) (x : VersionPlace) → ((k : ℕ) → k < length order → get_or order k root ≡ x → ⊥) → number_in (order ++ x ∷ []) x ≡ length order
number_new order x other =
    let l = length_push order x in
    position_or_len_is (λ v. same_place v x) (order ++ x ∷ []) (length order) root (omega (arith, l))
    (λ k h. ap (λ v. same_place v x) (get_or_append_left order (x ∷ []) root k h) ∙ not_same (get_or order k root) x (other k h))
    (λ _. ap (λ v. same_place v x) (get_or_push order x root (length order) refl) ∙ same_self x)

-- ---- what is kept

-- the parents of a version stand before it
pub record IsBehind (bases : List VersionPlace) (seconds : ℕ → List (Option VersionPlace)) (order : List VersionPlace) (i : ℕ) (at : VersionPlace) : Type 0 where
  pub first : number_in order (base_in bases (before at)) < i
  pub second : (p : VersionPlace) → get_or (seconds at.branch) at.position None ≡ Some p → number_in order (base_in bases p) < i

pub record IsGrown (bases : List VersionPlace) (last : ℕ → ℕ) (seconds : ℕ → List (Option VersionPlace)) (order : List VersionPlace) : Type 0 where
  pub some : 0 < length order
  pub first : get_or order 0 root ≡ root
  pub count : (c : ℕ) → length (seconds c) ≡ suc (last c)
  pub stands : (at : VersionPlace) → IsProper at → IsThere last at → Stands order at
  pub there : (i : ℕ) → i < length order → IsThere last (get_or order i root)
  pub later : (i : ℕ) → 0 < i → i < length order → 0 < (get_or order i root).position
  pub once : StandOnce order
  pub parents : (i : ℕ) → 0 < i → i < length order → IsBehind bases seconds order i (get_or order i root)
  pub made : (c k : ℕ) (p : VersionPlace) → get_or (seconds c) k None ≡ Some p → HasBegun bases last p.branch × IsThere last p

-- a made place stands for a version that stands in the order
pub stands_base : (bases : List VersionPlace) (last : ℕ → ℕ) (seconds : ℕ → List (Option VersionPlace)) (order : List VersionPlace) → ((b : ℕ) → IsProper (get_or bases b root)) → IsGrown bases last seconds order
    → (p : VersionPlace) → HasBegun bases last p.branch → IsThere last p → Stands order (base_in bases p)
stands_base bases last seconds order proper g p begun there = base_cases (Stands order) bases p (λ z. g.stands (get_or bases p.branch root) (proper p.branch) begun) (λ s. g.stands p (inr s) there)

-- what one version more on a branch changes
pub record GrowsBy (bases : List VersionPlace) (last newer : ℕ → ℕ) (seconds more : ℕ → List (Option VersionPlace)) (b : ℕ) (second : Option VersionPlace) : Type 0 where
  pub begun : HasBegun bases last b
  pub made : (p : VersionPlace) → second ≡ Some p → HasBegun bases last p.branch × IsThere last p
  pub own : newer b ≡ suc (last b)
  pub others : (c : ℕ) → c ≢ b → newer c ≡ last c
  pub own_seconds : more b ≡ seconds b ++ second ∷ []
  pub others_seconds : (c : ℕ) → c ≢ b → more c ≡ seconds c

module _ (bases : List VersionPlace) (last newer : ℕ → ℕ) (seconds more : ℕ → List (Option VersionPlace)) (order : List VersionPlace) (b : ℕ) (second : Option VersionPlace) (proper : (c : ℕ) → IsProper (get_or bases c root)) (g : IsGrown bases last seconds order) (h : GrowsBy bases last newer seconds more b second) where
  abbrev x : VersionPlace
  x = record { branch = b; position = suc (last b) }

  abbrev after : List VersionPlace
  after = order ++ x ∷ []

  rises : (c : ℕ) → last c ≤ newer c
  rises c = by (cases_eq c b)
    where
      by : (c ≡ b) ⊎ (c ≢ b) → last c ≤ newer c
      by (inl q) = subst (λ k. last k ≤ newer k) (sym q) (let o = h.own in omega (arith, o))
      by (inr q) = let o = h.others c q in omega (arith, o)

  there_still : (p : VersionPlace) → IsThere last p → IsThere newer p
  there_still p t = let r = rises p.branch in omega (arith, t, r)

  longer : length after ≡ length order + 1
  longer = length_push order x

  kept : (i : ℕ) → i < length after → i ≢ length order → i < length order
  kept i l q = let n = longer in omega (arith, n, l, q)

  old_at : (i : ℕ) → i < length order → get_or after i root ≡ get_or order i root
  old_at i k = get_or_append_left order (x ∷ []) root i k

  new_at : (i : ℕ) → i ≡ length order → get_or after i root ≡ x
  new_at i q = get_or_push order x root i (sym q)

  counts : (c : ℕ) → length (more c) ≡ suc (newer c)
  counts c = by (cases_eq c b)
    where
      by : (c ≡ b) ⊎ (c ≢ b) → length (more c) ≡ suc (newer c)
      by (inl q) = subst (λ k. length (more k) ≡ suc (newer k)) (sym q) (let o = h.own in let n = g.count b in let l = length_push (seconds b) second in ap length h.own_seconds ∙ omega (arith, o, n, l))
      by (inr q) = ap length (h.others_seconds c q) ∙ g.count c ∙ ap suc (sym (h.others c q))

  stands : (at : VersionPlace) → IsProper at → IsThere newer at → Stands after at
  stands at p t = by (cases_eq at.branch b)
    where
      old : IsThere last at → Stands after at
      old o = stands_push order x at (g.stands at p o)

      own : at.branch ≡ b → (at.position ≡ suc (last b)) ⊎ (at.position ≢ suc (last b)) → Stands after at
      own q (inl e) = subst (Stands after) (sym (λ i. record { branch = q i; position = e i })) (stands_last order x)
      own q (inr n) = old (let m : at.position ≤ newer b = subst (λ k. at.position ≤ newer k) q t in let o = h.own in subst (λ k. at.position ≤ last k) (sym q) (omega (arith, m, o, n)))

      by : (at.branch ≡ b) ⊎ (at.branch ≢ b) → Stands after at
      by (inl q) = own q (cases_eq at.position (suc (last b)))
      by (inr q) = old (subst (λ k. at.position ≤ k) (h.others at.branch q) t)

  there : (i : ℕ) → i < length after → (i ≡ length order) ⊎ (i ≢ length order) → IsThere newer (get_or after i root)
  there i l (inl q) = subst (IsThere newer) (sym (new_at i q)) (let o = h.own in omega (arith, o))
  there i l (inr q) = subst (IsThere newer) (sym (old_at i (kept i l q))) (there_still (get_or order i root) (g.there i (kept i l q)))

  later : (i : ℕ) → 0 < i → i < length after → (i ≡ length order) ⊎ (i ≢ length order) → 0 < (get_or after i root).position
  later i s l (inl q) = subst (λ (v : VersionPlace). 0 < v.position) (sym (new_at i q)) (omega arith)
  later i s l (inr q) = subst (λ (v : VersionPlace). 0 < v.position) (sym (old_at i (kept i l q))) (g.later i s (kept i l q))

  fresh : (k : ℕ) → k < length order → get_or order k root ≡ x → ⊥
  fresh k l e = let t : suc (last b) ≤ last b = subst (IsThere last) e (g.there k l) in omega (arith, t)

  once : (i : ℕ) → i < length after → (i ≡ length order) ⊎ (i ≢ length order) → number_in after (get_or after i root) ≡ i
  once i l (inl q) = ap (number_in after) (new_at i q) ∙ number_new order x fresh ∙ sym q
  once i l (inr q) =
      let k = kept i l q in
      ap (number_in after) (old_at i k)
      ∙ number_push order x (get_or order i root) (let n = g.once i k in omega (arith, n, k))
      ∙ g.once i k

  -- a made place has an older number
  older : (p : VersionPlace) → HasBegun bases last p.branch → IsThere last p → number_in after (base_in bases p) < length order
  older p begun t =
      let s : Stands order (base_in bases p) = stands_base bases last seconds order proper g p begun t in
      let n = number_push order x (base_in bases p) s in
      omega (arith, n, s)

  second_of : get_or (more b) (suc (last b)) None ≡ second
  second_of = ap (λ l. get_or l (suc (last b)) None) h.own_seconds ∙ get_or_push (seconds b) second None (suc (last b)) (g.count b)

  new_behind : IsBehind bases more after (length order) x
  new_behind = record {
    first = older (before x) h.begun (omega arith);
    second = λ p e. let m = h.made p (sym second_of ∙ e) in older p m.0 m.1;
  }

  seconds_kept : (c k : ℕ) → k < length (seconds c) → get_or (more c) k None ≡ get_or (seconds c) k None
  seconds_kept c k l = by (cases_eq c b)
    where
      by : (c ≡ b) ⊎ (c ≢ b) → get_or (more c) k None ≡ get_or (seconds c) k None
      by (inl q) = subst (λ d. get_or (more d) k None ≡ get_or (seconds d) k None) (sym q) (ap (λ l. get_or l k None) h.own_seconds ∙ get_or_append_left (seconds b) (second ∷ []) None k (subst (λ d. k < length (seconds d)) q l))
      by (inr q) = ap (λ l. get_or l k None) (h.others_seconds c q)

  same_number : (i : ℕ) (p : VersionPlace) → i < length order → number_in order p < i → number_in after p < i
  same_number i p l e = let n = number_push order x p (omega (arith, l, e)) in omega (arith, n, e)

  behind : (i : ℕ) → 0 < i → i < length after → (i ≡ length order) ⊎ (i ≢ length order) → IsBehind bases more after i (get_or after i root)
  behind i s l (inl q) = subst (λ v. IsBehind bases more after i v) (sym (new_at i q)) (subst (λ k. IsBehind bases more after k x) (sym q) new_behind)
  behind i s l (inr q) =
      let k = kept i l q in
      let at = get_or order i root in
      let o = g.parents i s k in
      let t = g.there i k in
      let n = g.count (get_or order i root).branch in
      subst (λ v. IsBehind bases more after i v) (sym (old_at i k)) (record {
        first = same_number i (base_in bases (before (get_or order i root))) k o.first;
        second = λ p e. same_number i (base_in bases p) k (o.second p (sym (seconds_kept (get_or order i root).branch (get_or order i root).position (omega (arith, t, n))) ∙ e));
      })

  seconds_made : (c k : ℕ) (p : VersionPlace) → get_or (more c) k None ≡ Some p → HasBegun bases newer p.branch × IsThere newer p
  seconds_made c k p e = still (by (cases_eq c b))
    where
      still : HasBegun bases last p.branch × IsThere last p → HasBegun bases newer p.branch × IsThere newer p
      still m = (there_still (get_or bases p.branch root) m.0, there_still p m.1)

      none_past : (l : List (Option VersionPlace)) (j : ℕ) → length l ≤ j → get_or l j None ≡ None
      none_past [] j le = refl
      none_past (y ∷ ys) zero le = absurd (omega (arith, le))
      none_past (y ∷ ys) (suc j) le = none_past ys j (omega (arith, le))

      own : get_or (seconds b ++ second ∷ []) k None ≡ Some p → HasBegun bases last p.branch × IsThere last p
      own f = at (cases_eq k (length (seconds b))) (cases_lt k (length (seconds b)))
        where
          at : (k ≡ length (seconds b)) ⊎ (k ≢ length (seconds b)) → (k < length (seconds b)) ⊎ (length (seconds b) ≤ k) → HasBegun bases last p.branch × IsThere last p
          at (inl j) w = h.made p (sym (get_or_push (seconds b) second None k (sym j)) ∙ f)
          at (inr j) (inl lt) = g.made b k p (sym (get_or_append_left (seconds b) (second ∷ []) None k lt) ∙ f)
          at (inr j) (inr le) = absurd (none_some (sym (none_past (seconds b ++ second ∷ []) k (let l = length_push (seconds b) second in omega (arith, le, j, l))) ∙ f))
            where
              none_some : None ≡ Some p → ⊥
              none_some z = cc

      by : (c ≡ b) ⊎ (c ≢ b) → HasBegun bases last p.branch × IsThere last p
      by (inl q) = own (sym (ap (λ l. get_or l k None) (ap more q ∙ h.own_seconds)) ∙ e)
      by (inr q) = g.made c k p (sym (ap (λ l. get_or l k None) (h.others_seconds c q)) ∙ e)

  pub grown : IsGrown bases newer more after
  grown = record {
    some = let n = longer in omega (arith, n);
    first = old_at 0 g.some ∙ g.first;
    count = counts;
    stands = stands;
    there = λ i l. there i l (cases_eq i (length order));
    later = λ i s l. later i s l (cases_eq i (length order));
    once = λ i l. once i l (cases_eq i (length order));
    parents = λ i s l. behind i s l (cases_eq i (length order));
    made = seconds_made;
  }
