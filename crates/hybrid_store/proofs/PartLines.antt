-- The first of several names, and of several versions, by their places.
use Rattle.std.proofs.Common.{◌≡◌, ℕ, ◌+◌, ◌<◌, ◌≤◌, nat_lt, Bool, false, cond, List, [], ◌∷◌, ◌++◌, length, map, take, get_or, Option, Some, None, refl, arith, ap, sym, ◌∙◌, subst}
use Rattle.std.specs.Prelude.{position, All, IfSome}
use Rattle.std.specs.List.{position_or_len}
use Rattle.std.proofs.lemmas.Bool.{le-ltb}
use Rattle.std.proofs.lemmas.List.{length-take-le, length_push, get_or_append_left, get_or-take, take_more, take-map, map-append, length-map}
use Rattle.std.proofs.lemmas.List.Sums.{position_or_len_is, fails_before_first, passes_at_first}
use Rattle.std.proofs.lemmas.List.Quantifiers.{position-Some}
use Rattle.db_value.specs.Text.{same}
use Rattle.db_value.specs.declared.version.VersionPlace.{VersionPlace}
use Rattle.db_store.specs.Dataset.{Branch, no_branch, root, branch_named}
use Rattle.db_store.specs.Order.{same_place, number_in, Stands, StandOnce}
use Rattle.bit_rows.specs.Kept.{KeptLane, no_kept}
use Rattle.store_catalogue.specs.Numbers.{list_if}
use Rattle.hybrid_store.specs.PartLines.{named_only, named_of, parents_in, AreLined}
use Rattle.hybrid_store.proofs.NewLemmas.{each_more}

-- ---- a front of a list

front_none : {X : Type 0} (p : X → Bool) (xs : List X) (i : ℕ) (d : X) → i ≤ length xs → ((k : ℕ) → k < i → p (get_or xs k d) ≡ false) → position p (take i xs) ≡ None
front_none p xs i d h f =
    let n = length-take-le i xs h in
    let is : position_or_len p (take i xs) ≡ i = position_or_len_is p (take i xs) i d (omega (arith, n)) (λ k l. ap p (get_or-take i xs k d l) ∙ f k l) (λ l. absurd (omega (arith, l, n))) in
    ap (λ m. cond (nat_lt m (length (take i xs))) (Some m) None) is ∙ ap (λ b. cond b (Some i) None) (le-ltb i (length (take i xs)) (omega (arith, n)))

-- the place of the first one there is that in all
front_place : {X : Type 0} (p : X → Bool) (xs : List X) (i : ℕ) (d : X) → i ≤ length xs → position_or_len p xs < i → position_or_len p (take i xs) ≡ position_or_len p xs
front_place p xs i d h lt =
    let n = length-take-le i xs h in
    let m : ℕ = position_or_len p xs in
    position_or_len_is p (take i xs) m d (omega (arith, n, lt)) (λ k l. ap p (get_or-take i xs k d (omega (arith, l, lt))) ∙ fails_before_first p xs k d l)
    (λ l. ap p (get_or-take i xs m d lt) ∙ passes_at_first p xs d (omega (arith, h, lt)))

-- ---- names

pub name_new : (lanes : List KeptLane) (i : ℕ) → i < length lanes → branch_named (named_of lanes) (get_or lanes i no_kept).name ≡ Some i → branch_named (named_of (take i lanes)) (get_or lanes i no_kept).name ≡ None
name_new lanes i h e =
    let t : Branch → Bool = λ b. same b.name (get_or lanes i no_kept).name in
    let n = length-map lanes named_only in
    ap (position t) (sym (take-map named_only i lanes)) ∙ front_none t (map named_only lanes) i no_branch (omega (arith, n, h)) (position-Some t (map named_only lanes) i no_branch e).2

pub names_next : (lanes : List KeptLane) (i : ℕ) → i < length lanes → named_of (take (i + 1) lanes) ≡ record (named_of (take i lanes)) { branches = (named_of (take i lanes)).branches ++ named_only (get_or lanes i no_kept) ∷ [] }
names_next lanes i h = ap (λ (bs : List Branch). record { schema = []; branches = bs; order = [] }) (ap (map named_only) (take_more lanes i no_kept h) ∙ map-append named_only (take i lanes) (get_or lanes i no_kept ∷ []))

-- ---- versions

pub front_number : (order : List VersionPlace) (i : ℕ) (at : VersionPlace) → i ≤ length order → number_in order at < i → number_in (take i order) at ≡ number_in order at
front_number order i at h lt = front_place (λ v. same_place v at) order i root h lt

pub front_stands : (order : List VersionPlace) (i : ℕ) (at : VersionPlace) → i ≤ length order → number_in order at < i → Stands (take i order) at
front_stands order i at h lt = let n = length-take-le i order h in let e = front_number order i at h lt in omega (arith, n, e, lt)

pub front_once : (order : List VersionPlace) (i : ℕ) → i ≤ length order → StandOnce order → StandOnce (take i order)
front_once order i h once k l =
    let n = length-take-le i order h in
    let lt : k < i = omega (arith, n, l) in
    let is : get_or (take i order) k root ≡ get_or order k root = get_or-take i order k root lt in
    let e : number_in order (get_or order k root) ≡ k = once k (omega (arith, lt, h)) in
    ap (number_in (take i order)) is ∙ front_number order i (get_or order k root) h (omega (arith, e, lt)) ∙ e

-- numbers that are below another one
pub list_below : (o : Option ℕ) (xs : List ℕ) (i : ℕ) → list_if o ≡ xs → All (λ p. p < i) xs → IfSome o (λ n. n < i)
list_below None xs i e f = tt
list_below (Some n) xs i e f = subst (λ (ys : List ℕ). All (λ p. p < i) ys) (sym e) f 0 0 (omega arith)

pub lined_more : (lanes : List KeptLane) (order : List VersionPlace) (n : ℕ) (versions : List (List ℕ)) → 0 < n → AreLined lanes order n versions → AreLined lanes order (n + 1) (versions ++ parents_in lanes order (get_or order n root) ∷ [])
lined_more lanes order n versions h is = record {
  count = let c = is.count in let m = length_push versions (parents_in lanes order (get_or order n root)) in omega (arith, c, m);
  first = get_or_append_left versions (parents_in lanes order (get_or order n root) ∷ []) [] 0 (let c = is.count in omega (arith, c, h)) ∙ is.first;
  each = λ i g lt. each_more (λ k (x : List ℕ). 0 < k → x ≡ parents_in lanes order (get_or order k root)) versions (parents_in lanes order (get_or order n root)) [] n is.count (λ q l z. is.each q z l) (λ z. refl) i lt g;
}
