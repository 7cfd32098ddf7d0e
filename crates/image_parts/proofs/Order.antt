-- Keys in order, and their numbers.
use Rattle.std.proofs.Common.{◌≡◌, ◌≢◌, ℕ, zero, suc, ◌+◌, ◌-◌, ◌<◌, ◌≤◌, ◌==◌, Bool, true, false, cond, List, [], ◌∷◌, length, get_or, set, map, refl, sym, ap, ◌∙◌, arith, nat_cmp, nat_lt, ltb-true, ltb-false, Greater}
use Rattle.std.specs.List.Sorted.{IsPermutation, IsNonDecreasingBy, IsSortedByKey}
use Rattle.std.specs.Ordering.{is_lt}
use Rattle.std.specs.Cmp.{nat_cmp_is}
use Rattle.std.proofs.lemmas.Bool.{eqb-true, eqb-false, eq-eqb}
use Rattle.std.proofs.lemmas.List.{length-map, length-set, get_or_default, get_or-set_same, get_or-set_other, same_lists}
use Rattle.std.proofs.lemmas.List.Elements.{All-get_or, All-from_get_or}
use Rattle.std.proofs.lemmas.List.Sorted.{All-permutation, Contains-permutation, length_permutation}
use Rattle.image_parts.specs.Walk.{first_of}
use Rattle.image_parts.specs.Order.{ArePlaced, IsPlace, IsOrder, number_after}
use Rattle.image_parts.proofs.Numbers.{mapped_at}

-- no place of a key is before the first one
first_le : (keys : List ℕ) (place k : ℕ) → place < length keys → get_or keys place 0 ≡ k → (first_of keys k ≤ place) × (get_or keys (first_of keys k) 0 ≡ k)
first_le [] place k lt is = absurd (omega (arith, lt))
first_le (x ∷ xs) zero k lt is = rw (eq-eqb x k is) (omega arith, is)
first_le (x ∷ xs) (suc place) k lt is = by (first_le xs place k (omega (arith, lt)) is) (x == k) refl
  where
    by : (first_of xs k ≤ place) × (get_or xs (first_of xs k) 0 ≡ k) → (q : Bool) → (x == k) ≡ q → (cond q 0 (suc (first_of xs k)) ≤ suc place) × (get_or (x ∷ xs) (cond q 0 (suc (first_of xs k))) 0 ≡ k)
    by more true e = (omega arith, eqb-true x k e)
    by more false e = (omega (arith, more.0), more.1)

less_by : (a b c : ℕ) → a ≤ b → b ≤ c → b ≢ c → a < c
less_by a b c l h n = strict (nat_lt b c) refl
  where
    strict : (q : Bool) → nat_lt b c ≡ q → a < c
    strict true e = let m = ltb-true b c e in omega (arith, l, m)
    strict false e = let m = ltb-false b c e in absurd (n (omega (arith, h, m)))

-- what stands at a place of the order
abbrev key_at : List (ℕ × ℕ) → ℕ → ℕ
key_at order i = (get_or order i (0, 0)).0

abbrev place_at : List (ℕ × ℕ) → ℕ → ℕ
place_at order i = (get_or order i (0, 0)).1

-- the keys before this place of the order have their numbers, and the last of these is known
pub record AreNumbered (keys : List ℕ) (order : List (ℕ × ℕ)) (i last : ℕ) (numbers : List ℕ) : Type 0 where
  pub wide : length numbers ≡ length keys
  pub done : (j : ℕ) → j < i → get_or numbers (place_at order j) 0 ≡ first_of keys (key_at order j)
  pub last_is : (j : ℕ) → j + 1 ≡ i → last ≡ first_of keys (key_at order j)

module _ (keys : List ℕ) (order : List (ℕ × ℕ)) (o : IsOrder keys order) where
  pub own_at : (i : ℕ) → i < length order → IsPlace keys (get_or order i (0, 0))
  own_at i lt = All-get_or (IsPlace keys) order i (0, 0) lt o.own

  -- equal keys stand by place, however far apart
  ties_far : (i n : ℕ) → i + n < length order → key_at order i ≡ key_at order (i + n) → place_at order i ≤ place_at order (i + n)
  ties_far i zero lt same = let e : i ≡ i + 0 = omega arith in omega (arith, ap (place_at order) e)
  ties_far i (suc n) lt same =
      let next : i + n + 1 ≡ i + suc n = omega arith in
      let low = o.keys i (i + n) (0, 0) (omega arith) (omega (arith, lt)) in
      let high = o.keys (i + n) (i + n + 1) (0, 0) (omega arith) (omega (arith, lt)) in
      let last = ap (key_at order) next in
      let one : key_at order i ≡ key_at order (i + n) = omega (arith, low, high, same, last) in
      let two : key_at order (i + n) ≡ key_at order (i + n + 1) = omega (arith, low, high, same, last) in
      omega (arith, ties_far i n (omega (arith, lt)) one, o.ties (i + n) (omega (arith, lt)) two, ap (place_at order) next)

  -- the first of equal keys stands at the first place
  first_stands : (i : ℕ) → i < length order → ((j : ℕ) → j < i → key_at order j < key_at order i) → place_at order i ≡ first_of keys (key_at order i)
  first_stands i lt before =
      let k = key_at order i in
      let own = own_at i lt in
      let least = first_le keys (place_at order i) k own.0 own.1 in
      let first = first_of keys k in
      let there = o.all first (omega (arith, own.0, least.0)) in
      let at : get_or order there.0 (0, 0) ≡ (get_or keys first 0, first) = get_or_default order there.0 (0, 0) (get_or keys first 0, first) there.1 ∙ there.2 in
      let key : key_at order there.0 ≡ k = ap (λ (e : ℕ × ℕ). e.0) at ∙ least.1 in
      let place : place_at order there.0 ≡ first = ap (λ (e : ℕ × ℕ). e.1) at in
      let behind : i ≤ there.0 = not_before there.0 key in
      let far : i + (there.0 - i) ≡ there.0 = omega (arith, behind) in
      let less = ties_far i (there.0 - i) (omega (arith, far, there.1)) (sym (ap (key_at order) far ∙ key)) in
      omega (arith, least.0, less, ap (place_at order) far, place)
    where
      not_before : (j : ℕ) → key_at order j ≡ key_at order i → i ≤ j
      not_before j same = by (nat_lt j i) refl
        where
          by : (q : Bool) → nat_lt j i ≡ q → i ≤ j
          by true e = let less = before j (ltb-true j i e) in absurd (omega (arith, less, same))
          by false e = ltb-false j i e

  -- so each key gets its number
  pub number_right : (i last : ℕ) → i < length order → ((j : ℕ) → j + 1 ≡ i → last ≡ first_of keys (key_at order j)) → number_after order i last ≡ first_of keys (key_at order i)
  number_right zero last lt is = first_stands 0 lt (λ j l. absurd (omega (arith, l)))
  number_right (suc i) last lt is = by (key_at order i == key_at order (suc i)) refl
    where
      by : (q : Bool) → (key_at order i == key_at order (suc i)) ≡ q → cond q last (place_at order (suc i)) ≡ first_of keys (key_at order (suc i))
      by true e = is i (omega arith) ∙ ap (first_of keys) (eqb-true (key_at order i) (key_at order (suc i)) e)
      by false e = first_stands (suc i) lt (λ j l.
          let apart : key_at order i ≢ key_at order (suc i) = eqb-false (key_at order i) (key_at order (suc i)) e in
          less_by (key_at order j) (key_at order i) (key_at order (suc i)) (o.keys j i (0, 0) (omega (arith, l)) (omega (arith, lt))) (o.keys i (suc i) (0, 0) (omega arith) lt) apart)

  pub numbered : (i last : ℕ) (numbers : List ℕ) → i < length order → AreNumbered keys order i last numbers → AreNumbered keys order (i + 1) (number_after order i last) (set numbers (place_at order i) (number_after order i last))
  numbered i last numbers lt so_far =
      let number : number_after order i last ≡ first_of keys (key_at order i) = number_right i last lt so_far.last_is in
      record {
        wide = length-set numbers (place_at order i) (number_after order i last) ∙ so_far.wide;
        done = λ j l. by j l number (place_at order j == place_at order i) refl;
        last_is = λ j e. let same : j ≡ i = omega (arith, e) in number ∙ ap (λ n. first_of keys (key_at order n)) (sym same);
      }
    where
      by : (j : ℕ) → j < i + 1 → number_after order i last ≡ first_of keys (key_at order i) → (q : Bool) → (place_at order j == place_at order i) ≡ q → get_or (set numbers (place_at order i) (number_after order i last)) (place_at order j) 0 ≡ first_of keys (key_at order j)
      by j l number true e =
          let same : place_at order j ≡ place_at order i = eqb-true (place_at order j) (place_at order i) e in
          let own = own_at i lt in
          let key : key_at order j ≡ key_at order i = sym (own_at j (omega (arith, l, lt))).1 ∙ ap (λ p. get_or keys p 0) same ∙ own.1 in
          ap (λ p. get_or (set numbers (place_at order i) (number_after order i last)) p 0) same
          ∙ get_or-set_same numbers (place_at order i) (number_after order i last) 0 (omega (arith, own.0, so_far.wide))
          ∙ number ∙ ap (first_of keys) (sym key)
      by j l number false e =
          let apart : place_at order j ≢ place_at order i = eqb-false (place_at order j) (place_at order i) e in
          let other : j ≢ i = λ s. apart (ap (place_at order) s) in
          get_or-set_other numbers (place_at order i) (place_at order j) (number_after order i last) 0 apart
          ∙ so_far.done j (less_by j j i (omega arith) (omega (arith, l)) other)

  pub all_numbered : (i last : ℕ) (numbers : List ℕ) → length order ≤ i → AreNumbered keys order i last numbers → numbers ≡ map (first_of keys) keys
  all_numbered i last numbers end so_far = same_lists numbers (map (first_of keys) keys) (so_far.wide ∙ sym (length-map keys (first_of keys))) (λ p d lt.
      let within : p < length keys = omega (arith, lt, so_far.wide) in
      let there = o.all p within in
      let at : get_or order there.0 (0, 0) ≡ (get_or keys p 0, p) = get_or_default order there.0 (0, 0) (get_or keys p 0, p) there.1 ∙ there.2 in
      let wide : p < length (map (first_of keys) keys) = omega (arith, within, length-map keys (first_of keys)) in
      get_or_default numbers p d 0 lt
      ∙ ap (λ n. get_or numbers n 0) (sym (ap (λ (e : ℕ × ℕ). e.1) at))
      ∙ so_far.done there.0 (omega (arith, there.1, end))
      ∙ ap (λ (e : ℕ × ℕ). first_of keys e.0) at
      ∙ sym (mapped_at (first_of keys) keys p within)
      ∙ get_or_default (map (first_of keys) keys) p 0 d wide)

-- places that were put down one after another rise
pub places_rise : (keys : List ℕ) (places : List (ℕ × ℕ)) → ArePlaced keys places → IsSortedByKey (λ (e : ℕ × ℕ). e.1) nat_cmp places
places_rise keys places placed k d low high =
    let here : (get_or places k d).1 ≡ k = ap (λ (e : ℕ × ℕ). e.1) (get_or_default places k d (0, 0) (omega (arith, high)) ∙ placed.at k (omega (arith, high))) in
    let next : (get_or places (k + 1) d).1 ≡ k + 1 = ap (λ (e : ℕ × ℕ). e.1) (get_or_default places (k + 1) d (0, 0) high ∙ placed.at (k + 1) high) in
    ap is_lt (sym (nat_cmp_is (get_or places (k + 1) d).1 (get_or places k d).1 Greater (omega (arith, here, next))))

pub order_is : (keys : List ℕ) (places order : List (ℕ × ℕ)) → ArePlaced keys places → IsPermutation places order → IsNonDecreasingBy (λ (e : ℕ × ℕ). e.0) order
    → ((i : ℕ) (d : ℕ × ℕ) → i + 1 < length order → (get_or order i d).0 ≡ (get_or order (i + 1) d).0 → (get_or order i d).1 ≤ (get_or order (i + 1) d).1) → IsOrder keys order
order_is keys places order placed moves rises ties = record {
  len = length_permutation places order moves ∙ placed.len;
  own = All-permutation (IsPlace keys) places order moves (All-from_get_or (IsPlace keys) places (0, 0) (λ i lt. rw (placed.at i lt) (omega (arith, lt, placed.len), refl)));
  all = λ p lt.
      let within : p < length places = omega (arith, lt, placed.len) in
      Contains-permutation places order (get_or keys p 0, p) moves (p, within, get_or_default places p (get_or keys p 0, p) (0, 0) within ∙ placed.at p within);
  keys = rises;
  ties = λ i lt same. ties i (0, 0) lt same;
}
