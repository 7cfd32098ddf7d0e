-- Ancestors, their order, and a graph that grows.
use Rattle.std.proofs.Common.{◌≡◌, ⊎_elim, ◌↔◌, ℕ, true, Option, Some, None, ◌<◌, ◌≤◌, List, [], ◌∷◌, ◌++◌, length, refl, sym, subst, arith}
use Rattle.std.specs.List.{All, Contains}
use Rattle.std.specs.Option.{MatchOption, is_some}
use Rattle.std.proofs.lemmas.Bool.{cases_lt, false≢true}
use Rattle.std.proofs.lemmas.List.{get_or_append_left, get_or_push, get_or_past, length_push}
use Rattle.std.proofs.lemmas.List.Elements.{All-contains}
use Rattle.version_graph.specs.Ancestors.{parents_of, Reaches, Itself, Through, AllEarlier, IsLastCommon, NoneFrom}
use Rattle.version_graph.specs.Laws.{StepsLaw, OrderLaw, GrowthLaw, NewLaw, OneLaw}

pub order_law : OrderLaw
order_law vs a b e (Itself _) = omega arith
order_law vs a b e (Through _ q _ h r) = let i = order_law vs q b e r in let j = e a q h in omega (arith, i, j)

pub steps_law : StepsLaw
steps_law vs a b c (Itself _) k = k
steps_law vs a b c (Through _ q _ h r) k = Through a q c h (steps_law vs q b c r k)

pub same_parents : (vs : List (List ℕ)) (ps : List ℕ) (v : ℕ) → v < length vs → parents_of (vs ++ ps ∷ []) v ≡ parents_of vs v
same_parents vs ps v lt = get_or_append_left vs (ps ∷ []) [] v lt

onto_more : (vs : List (List ℕ)) (ps : List ℕ) (a b : ℕ) → AllEarlier vs → a < length vs → Reaches vs a b → Reaches (vs ++ ps ∷ []) a b
onto_more vs ps a b e lt (Itself _) = Itself a
onto_more vs ps a b e lt (Through _ q _ h r) =
    Through a q b (subst (λ (xs : List ℕ). Contains xs q) (sym (same_parents vs ps a lt)) h) (onto_more vs ps q b e (let j = e a q h in omega (arith, j, lt)) r)

from_more : (vs : List (List ℕ)) (ps : List ℕ) (a b : ℕ) → AllEarlier vs → a < length vs → Reaches (vs ++ ps ∷ []) a b → Reaches vs a b
from_more vs ps a b e lt (Itself _) = Itself a
from_more vs ps a b e lt (Through _ q _ h r) =
    let g = subst (λ (xs : List ℕ). Contains xs q) (same_parents vs ps a lt) h in
    Through a q b g (from_more vs ps q b e (let j = e a q g in omega (arith, j, lt)) r)

pub growth_law : GrowthLaw
growth_law vs ps a b e lt = (from_more vs ps a b e lt, onto_more vs ps a b e lt)

no_parent : (q : ℕ) → Contains {X = ℕ} [] q → ⊥
no_parent q h = let lt = h.1 in absurd (omega (arith, lt))

-- a parent of a version that is there
pub there : (vs : List (List ℕ)) (v q : ℕ) → Contains (parents_of vs v) q → v < length vs
there vs v q h = ⊎_elim
    (λ (lt : v < length vs). lt)
    (λ (le : length vs ≤ v). absurd (no_parent q (subst (λ (xs : List ℕ). Contains xs q) (get_or_past vs v [] le) h)))
    (cases_lt v (length vs))

onto_any : (vs : List (List ℕ)) (ps : List ℕ) (a b : ℕ) → Reaches vs a b → Reaches (vs ++ ps ∷ []) a b
onto_any vs ps a b (Itself _) = Itself a
onto_any vs ps a b (Through _ q _ h r) =
    Through a q b (subst (λ (xs : List ℕ). Contains xs q) (sym (same_parents vs ps a (there vs a q h))) h) (onto_any vs ps q b r)

pub new_law : NewLaw
new_law vs ps q b h r = Through (length vs) q b (subst (λ (xs : List ℕ). Contains xs q) (sym (get_or_push vs ps [] (length vs) refl)) h) (onto_any vs ps q b r)

pub one_law : OneLaw
one_law vs l r c d h k = let x = h.last d k.of_left k.of_right in let y = k.last c h.of_left h.of_right in omega (arith, x, y)

-- a version with earlier parents keeps all parents earlier
pub earlier_more : (vs : List (List ℕ)) (ps : List ℕ) → AllEarlier vs → All (λ p. p < length vs) ps → AllEarlier (vs ++ ps ∷ [])
earlier_more vs ps e f v q h = ⊎_elim
    (λ (lt : v < length vs). e v q (subst (λ (xs : List ℕ). Contains xs q) (same_parents vs ps v lt) h))
    (λ (le : length vs ≤ v).
    let lt = there (vs ++ ps ∷ []) v q h in let n = length_push vs ps in
    let is : length vs ≡ v = omega (arith, lt, n, le) in
    let first : q < length vs = All-contains (λ p. p < length vs) ps q f (subst (λ (xs : List ℕ). Contains xs q) (get_or_push vs ps [] v is) h) in
    omega (arith, is, first))
    (cases_lt v (length vs))

-- an earlier ancestor is reached from a parent
pub by_parent : (vs : List (List ℕ)) (v x : ℕ) → x < v → Reaches vs v x → (q : ℕ) × Contains (parents_of vs v) q × Reaches vs q x
by_parent vs v x lt (Itself _) = absurd (omega arith)
by_parent vs v x lt (Through _ q _ h r) = (q, h, r)

-- a version has a common ancestor with a later one that isn't below it, exactly where it is an ancestor
pub answer_is : (vs : List (List ℕ)) (a b : ℕ) (found : Option ℕ) → AllEarlier vs → MatchOption found (NoneFrom vs a b a) (λ c. (a ≤ c) × IsLastCommon vs a b c) → (is_some found ≡ true) ↔ Reaches vs b a
answer_is vs a b None e h = (λ t. absurd (false≢true t), λ r. absurd (h a (omega arith) (Itself a) r))
answer_is vs a b (Some c) e h = (
  λ t. let down = order_law vs a c e h.1.of_left in let up = h.0 in let same : c ≡ a = omega (arith, down, up) in subst (Reaches vs b) same h.1.of_right,
  λ r. refl,
)
