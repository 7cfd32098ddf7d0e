-- Unions of ascending keys, and where the least key goes.
use Rattle.std.proofs.Common.{◌≡◌, ℕ, ◌==◌, ◌<◌, ◌≤◌, Bool, true, false, cond, ◌||◌, nat_lt, List, [], ◌∷◌, refl, ap, ◌∙◌, arith, ◌⊎◌, inl, inr}
use Rattle.std.proofs.lemmas.Bool.{cases_lt, lt-ltb, ltb-false, ltb-true, eqb-true, eqb-false}
use Rattle.field_merge.specs.Merge.{put_key, union_keys}

-- all are greater
abbrev pub Over : ℕ → List ℕ → Type 0
Over key [] = Unit {0}
Over key (k ∷ ks) = (key < k) × Over key ks

-- each is greater than those before it
abbrev pub Climbs : List ℕ → Type 0
Climbs [] = Unit {0}
Climbs (k ∷ ks) = Over k ks × Climbs ks

pub over_less : (a b : ℕ) (ks : List ℕ) → a < b → Over b ks → Over a ks
over_less a b [] h o = tt
over_less a b (k ∷ ks) h o = (omega (arith, h, o.0), over_less a b ks h o.1)

pub put_cases : (P : List ℕ → Type 0) (key k : ℕ) (ks : List ℕ) → (key < k → P (key ∷ k ∷ ks)) → (key ≡ k → P (k ∷ ks)) → (k < key → P (k ∷ put_key key ks)) → P (put_key key (k ∷ ks))
put_cases P key k ks less same more = elim (nat_lt key k) as (λ b. nat_lt key k ≡ b → P (cond b (key ∷ k ∷ ks) (cond (key == k) (k ∷ ks) (k ∷ put_key key ks)))) [
  | true ↦ λ e. less (ltb-true _ _ e)
  | false ↦ λ e. elim (key == k) as (λ b. (key == k) ≡ b → P (cond b (k ∷ ks) (k ∷ put_key key ks))) [
    | true ↦ λ q. same (eqb-true key k q)
    | false ↦ λ q. more (above key k (ltb-false _ _ e) (eqb-false key k q))
  ] refl
] refl
  where
    above : (a b : ℕ) → b ≤ a → (a ≡ b → ⊥) → b < a
    above a b h n = by_less (cases_lt b a)
      where
        by_less : (b < a) ⊎ (a ≤ b) → b < a
        by_less (inl l) = l
        by_less (inr l) = absurd (n (omega (arith, l, h)))

over_put : (least key : ℕ) (ks : List ℕ) → least < key → Over least ks → Over least (put_key key ks)
over_put least key [] h o = (h, tt)
over_put least key (k ∷ ks) h o = put_cases (Over least) key k ks (λ l. (h, o)) (λ e. o) (λ m. (o.0, over_put least key ks h o.1))

climbs_put : (key : ℕ) (ks : List ℕ) → Climbs ks → Climbs (put_key key ks)
climbs_put key [] c = (tt, tt)
climbs_put key (k ∷ ks) c = put_cases Climbs key k ks (λ l. ((l, over_less key k ks l c.0), c)) (λ e. c) (λ m. (over_put k key ks m c.0, climbs_put key ks c.1))

over_union : (least : ℕ) (xs ys : List ℕ) → Over least xs → Over least ys → Over least (union_keys xs ys)
over_union least [] ys o p = p
over_union least (x ∷ xs) ys o p = over_put least x (union_keys xs ys) o.0 (over_union least xs ys o.1 p)

pub climbs_union : (xs ys : List ℕ) → Climbs ys → Climbs (union_keys xs ys)
climbs_union [] ys c = c
climbs_union (x ∷ xs) ys c = climbs_put x (union_keys xs ys) (climbs_union xs ys c)

-- a key before greater ones, one that is the first, and a greater one
put_first : (key : ℕ) (ks : List ℕ) → Over key ks → put_key key ks ≡ key ∷ ks
put_first key [] o = refl
put_first key (k ∷ ks) o = ap (λ (b : Bool). cond b (key ∷ k ∷ ks) (cond (key == k) (k ∷ ks) (k ∷ put_key key ks))) (lt-ltb key k o.0)

put_same : (key : ℕ) (ks : List ℕ) → put_key key (key ∷ ks) ≡ key ∷ ks
put_same key ks = put_cases (λ (r : List ℕ). r ≡ key ∷ ks) key key ks (λ l. absurd (omega (arith, l))) (λ e. refl) (λ m. absurd (omega (arith, m)))

put_later : (least key : ℕ) (ks : List ℕ) → least < key → put_key key (least ∷ ks) ≡ least ∷ put_key key ks
put_later least key ks h = put_cases (λ (r : List ℕ). r ≡ least ∷ put_key key ks) key least ks (λ l. absurd (omega (arith, l, h))) (λ e. absurd (omega (arith, e, h))) (λ m. refl)

union_later : (least : ℕ) (xs ys : List ℕ) → Over least xs → union_keys xs (least ∷ ys) ≡ least ∷ union_keys xs ys
union_later least [] ys o = refl
union_later least (x ∷ xs) ys o = ap (put_key x) (union_later least xs ys o.1) ∙ put_later least x (union_keys xs ys) o.0

-- with the least key in front of greater ones, or without it
abbrev pub Taken : ℕ → Bool → List ℕ → List ℕ → Type 0
Taken least true ks rest = Over least rest × (ks ≡ least ∷ rest)
Taken least false ks rest = Over least rest × (ks ≡ rest)

-- the least key of a union
pub union_taken : (least : ℕ) (a b : Bool) (xs xrest ys yrest : List ℕ) → Taken least a xs xrest → Taken least b ys yrest → Taken least (a || b) (union_keys xs ys) (union_keys xrest yrest)
union_taken least true true xs xrest ys yrest t u = (
  over_union least xrest yrest t.0 u.0,
  (λ i. union_keys (t.1 i) (u.1 i)) ∙ ap (put_key least) (union_later least xrest yrest t.0) ∙ put_same least (union_keys xrest yrest),
)
union_taken least true false xs xrest ys yrest t u = (
  over_union least xrest yrest t.0 u.0,
  (λ i. union_keys (t.1 i) (u.1 i)) ∙ put_first least (union_keys xrest yrest) (over_union least xrest yrest t.0 u.0),
)
union_taken least false true xs xrest ys yrest t u = (
  over_union least xrest yrest t.0 u.0,
  (λ i. union_keys (t.1 i) (u.1 i)) ∙ union_later least xrest yrest t.0,
)
union_taken least false false xs xrest ys yrest t u = (over_union least xrest yrest t.0 u.0, λ i. union_keys (t.1 i) (u.1 i))
