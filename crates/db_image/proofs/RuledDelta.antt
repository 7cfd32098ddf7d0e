-- The delta of an image of slots keeps the rules of deltas.
use Rattle.std.proofs.Common.{◌≡◌, ◌⊎◌, inl, inr, ℕ, zero, suc, ◌+◌, ◌-◌, ◌*◌, ◌/◌, ◌%◌, ◌^◌, ◌<◌, ◌≤◌, ◌==◌, Bool, true, false, cond, ◌&&◌, ◌||◌, List, [], ◌∷◌, filter, length, get_or, refl, sym, ap, subst, ◌∙◌, arith}
use Rattle.std.specs.Prelude.{nat_lt, nat_le}
use Rattle.std.specs.List.{All, range_with_len}
use Rattle.std.proofs.Math.Nat.{pow-succ'}
use Rattle.std.proofs.lemmas.Bool.{and_from, ne_eqb, cases_lt, lt-ltb, le-leb}
use Rattle.std.proofs.lemmas.List.FromFn.{get_or-map-range_with_len, length-map-range_with_len}
use Rattle.db_store.specs.Layout.{has, slots_where}
use Rattle.db_store.proofs.BitLemmas.{has_where, has_past}
use Rattle.bit_rows.specs.Short.{end_of}
use Rattle.image_text.specs.declared.image.Delta.{Delta}
use Rattle.image_text.specs.Reading.{words_for, spans, are_words}
use Rattle.image_parts.specs.Walk.{weigh}
use Rattle.image_parts.specs.Whole.{word_bit}
use Rattle.db_image.specs.Images.{number_of, word_in, first_word, end_word, delta_image}
use Rattle.db_image.specs.Imaged.{AreSlots}
use Rattle.db_image.specs.Rules.{IsDelta}
use Rattle.db_image.proofs.ImageWords.{end_more, end_past}
use Rattle.db_image.proofs.DeltaBack.{number_bit, no_bit}

-- ---- numbers

weigh_few : (b : Bool) → weigh b ≤ 1
weigh_few true = omega arith
weigh_few false = omega arith

-- a number has no bit from a place on where none of the slots is one
number_below : (n m slot : ℕ) (p : ℕ → Bool) → m ≤ n → ((k : ℕ) → m ≤ k → k < n → p (slot + k) ≡ false) → number_of p slot n < 2 ^ m
unfolding number_of
number_below zero zero slot p l f = omega arith
number_below zero (suc m) slot p l f = absurd (omega (arith, l))
number_below (suc n) zero slot p l f =
    let low : p slot ≡ false = ap p (omega arith) ∙ f 0 (omega arith) (omega arith) in
    let rest = number_below n 0 (suc slot) p (omega arith) (λ k g h. ap p (omega arith) ∙ f (suc k) (omega arith) (omega (arith, h))) in
    let none : number_of p (suc slot) n ≡ 0 = omega (arith, rest) in
    subst (λ k. k < 2 ^ 0) (sym (λ i. weigh (low i) + 2 * none i)) (omega arith)
number_below (suc n) (suc m) slot p l f =
    let rest = number_below n m (suc slot) p (omega (arith, l)) (λ k g h. ap p (omega arith) ∙ f (suc k) (omega (arith, g)) (omega (arith, h))) in
    let low = weigh_few (p slot) in
    let t : 2 ^ suc m ≡ 2 * 2 ^ m = pow-succ' 2 m in
    omega (arith, rest, low, t)

number_some : (n slot k : ℕ) (p : ℕ → Bool) → k < n → p (slot + k) ≡ true → 0 < number_of p slot n
number_some n slot k p l t = at (number_of p slot n) refl
  where
    at : (x : ℕ) → number_of p slot n ≡ x → 0 < x
    at zero e = absurd (let z : true ≡ false = sym t ∙ sym (number_bit n slot k p l) ∙ ap (λ x. word_bit x k) e ∙ no_bit k in cc)
    at (suc x) e = omega arith

-- ---- the first and the last slot

first_cases : (p : ℕ → Bool) (n a : ℕ) → (filter p (range_with_len a n) ≡ []) ⊎ ((k : ℕ) × (a ≤ k) × (k < a + n) × (p k ≡ true) × (first_word (filter p (range_with_len a n)) ≡ k / 64))
first_cases p zero a = inl refl
first_cases p (suc n) a = at (p a) refl (first_cases p n (a + 1))
  where
    at : (q : Bool) → p a ≡ q → (filter p (range_with_len (a + 1) n) ≡ []) ⊎ ((k : ℕ) × (a + 1 ≤ k) × (k < a + 1 + n) × (p k ≡ true) × (first_word (filter p (range_with_len (a + 1) n)) ≡ k / 64))
        → (cond q (a ∷ filter p (range_with_len (a + 1) n)) (filter p (range_with_len (a + 1) n)) ≡ [])
        ⊎ ((k : ℕ) × (a ≤ k) × (k < a + suc n) × (p k ≡ true) × (first_word (cond q (a ∷ filter p (range_with_len (a + 1) n)) (filter p (range_with_len (a + 1) n))) ≡ k / 64))
    at true e later = inr (a, omega arith, omega arith, e, refl)
    at false e (inl none) = inl none
    at false e (inr x) = let g = x.1 in let l = x.2 in inr (x.0, omega (arith, g), omega (arith, l), x.3, x.4)

end_within : (p : ℕ → Bool) (n : ℕ) → end_of (slots_where p n) ≤ n
end_within p zero = omega arith
end_within p (suc n) = subst (λ k. k ≤ suc n) (sym (end_more p n)) (at (p n) (end_within p n))
  where
    at : (q : Bool) → end_of (slots_where p n) ≤ n → cond q (suc n) (end_of (slots_where p n)) ≤ suc n
    at true h = omega arith
    at false h = omega (arith, h)

last_is : (p : ℕ → Bool) (n e : ℕ) → end_of (slots_where p n) ≡ suc e → p e ≡ true
last_is p zero e h = absurd (omega (arith, h))
last_is p (suc n) e h = at (p n) refl (sym (end_more p n) ∙ h) (last_is p n e)
  where
    at : (q : Bool) → p n ≡ q → cond q (suc n) (end_of (slots_where p n)) ≡ suc e → (end_of (slots_where p n) ≡ suc e → p e ≡ true) → p e ≡ true
    at true t g later = let same : n ≡ e = omega (arith, g) in ap p (sym same) ∙ t
    at false t g later = later g

-- ---- words

or_right : (q r : Bool) → r ≡ true → (q || r) ≡ true
or_right true r e = refl
or_right false r e = e

or_left : (q r : Bool) → q ≡ true → (q || r) ≡ true
or_left true r e = refl
or_left false r e = absurd cc

blank : (size first : ℕ) → are_words size first [] ≡ true
unfolding are_words
blank size first = refl

words_full : (size first : ℕ) (xs : List ℕ) → 0 < length xs → 0 < get_or xs 0 0 → 0 < get_or xs (length xs - 1) 0 → (first + length xs ≤ size / 64) ⊎ (get_or xs (length xs - 1) 0 < 2 ^ (size % 64)) → are_words size first xs ≡ true
unfolding are_words
words_full size first [] some low high end = absurd (omega (arith, some))
words_full size first (w ∷ ws) some low high end =
    let n : length (w ∷ ws) - 1 ≡ length ws = omega arith in
    let top : 0 < get_or (w ∷ ws) (length ws) 0 = subst (λ k. 0 < get_or (w ∷ ws) k 0) n high in
    and_from (nat_lt 0 w && nat_lt 0 (get_or (w ∷ ws) (length ws) 0)) (nat_le (first + length (w ∷ ws)) (size / 64) || nat_lt (get_or (w ∷ ws) (length ws) 0) (2 ^ (size % 64)))
    (and_from (nat_lt 0 w) (nat_lt 0 (get_or (w ∷ ws) (length ws) 0)) (lt-ltb 0 w low) (lt-ltb 0 (get_or (w ∷ ws) (length ws) 0) top)) (at end)
  where
    at : (first + length (w ∷ ws) ≤ size / 64) ⊎ (get_or (w ∷ ws) (length (w ∷ ws) - 1) 0 < 2 ^ (size % 64)) → (nat_le (first + length (w ∷ ws)) (size / 64) || nat_lt (get_or (w ∷ ws) (length ws) 0) (2 ^ (size % 64))) ≡ true
    at (inl l) = or_left (nat_le (first + length (w ∷ ws)) (size / 64)) (nat_lt (get_or (w ∷ ws) (length ws) 0) (2 ^ (size % 64))) (le-leb (first + length (w ∷ ws)) (size / 64) l)
    at (inr l) =
        let n : length (w ∷ ws) - 1 ≡ length ws = omega arith in
        or_right (nat_le (first + length (w ∷ ws)) (size / 64)) (nat_lt (get_or (w ∷ ws) (length ws) 0) (2 ^ (size % 64)))
        (lt-ltb (get_or (w ∷ ws) (length ws) 0) (2 ^ (size % 64)) (subst (λ k. get_or (w ∷ ws) k 0 < 2 ^ (size % 64)) n l))

module _ (p : ℕ → Bool) (size : ℕ) (few : size < 2 ^ 32) where
  abbrev slots : List ℕ
  slots = slots_where p size

  abbrev d : Delta
  d = delta_image slots

  word_small : (at : ℕ) → word_in slots at < 2 ^ 64
  word_small at = number_below 64 64 (64 * at) (has slots) (omega arith) (λ k g l. absurd (omega (arith, g, l)))

  all_small : All (λ w. w < 2 ^ 64) d.words
  all_small = λ k e l.
      let n = length-map-range_with_len (word_in slots) d.first (end_word slots - d.first) in
      subst (λ w. w < 2 ^ 64) (sym (get_or-map-range_with_len (word_in slots) d.first (end_word slots - d.first) k (d.first + k) e (omega (arith, n, l)) refl)) (word_small (d.first + k))

  count : length d.words ≡ end_word slots - d.first
  count = length-map-range_with_len (word_in slots) d.first (end_word slots - d.first)

  nothing : slots ≡ [] → IsDelta size d
  nothing e =
      let first : d.first ≡ 0 = ap first_word e in
      let end : end_word slots ≡ 0 = ap end_word e in
      let none : length d.words ≡ 0 = let c = count in omega (arith, c, end) in
      record {
        first = omega (arith, first);
        few = omega (arith, none);
        within = (λ i. spans size (first i) (none i));
        words = all_small;
        full = ap (are_words size d.first) (no_words d.words none) ∙ blank size d.first;
      }
    where
      no_words : (xs : List ℕ) → length xs ≡ 0 → xs ≡ []
      no_words [] h = refl
      no_words (x ∷ xs) h = absurd (omega (arith, h))

  module _ (k e : ℕ) (lk : k < size) (t : p k ≡ true) (first : d.first ≡ k / 64) (end : end_of slots ≡ suc e) where
    past : k ≤ e
    past = let h = end_past p size k lk t in omega (arith, h, end)

    most : e < size
    most = let h = end_within p size in omega (arith, h, end)

    ends : end_word slots ≡ suc (e / 64)
    ends = ap words_for end ∙ omega arith

    size_is : length d.words ≡ suc (e / 64) - k / 64
    size_is = let c = count in let a = ends in omega (arith, c, a, first)

    word_at : (i at : ℕ) → i < length d.words → k / 64 + i ≡ at → get_or d.words i 0 ≡ word_in slots at
    word_at i at l h = get_or-map-range_with_len (word_in slots) d.first (end_word slots - d.first) i at 0 (let c = count in omega (arith, c, l)) (omega (arith, first, h))

    set_in : (s : ℕ) → s < size → p s ≡ true → 0 < word_in slots (s / 64)
    set_in s l h = number_some 64 (64 * (s / 64)) (s % 64) (has slots) (omega arith) (ap (has slots) (omega arith) ∙ has_where p size s l ∙ h)

    top_is : get_or d.words (length d.words - 1) 0 ≡ word_in slots (e / 64)
    top_is = let n = size_is in let g = past in word_at (length d.words - 1) (e / 64) (omega (arith, n, g)) (omega (arith, n, g))

    bounded : (suc (e / 64) ≤ size / 64) ⊎ (size / 64 < suc (e / 64)) → (d.first + length d.words ≤ size / 64) ⊎ (get_or d.words (length d.words - 1) 0 < 2 ^ (size % 64))
    bounded (inl l) = let n = size_is in let g = past in inl (omega (arith, n, first, g, l))
    bounded (inr l) =
        let m = most in
        let same : e / 64 ≡ size / 64 = omega (arith, l, m) in
        inr (subst (λ w. w < 2 ^ (size % 64)) (sym (top_is ∙ ap (word_in slots) same))
        (number_below 64 (size % 64) (64 * (size / 64)) (has slots) (omega arith) (λ j g h. has_past p size (64 * (size / 64) + j) (omega (arith, g)))))

    some : IsDelta size d
    some = record {
      first = let m = most in let g = past in omega (arith, first, m, g, few);
      few = let n = size_is in let m = most in omega (arith, n, m, few);
      within = let n = size_is in let g = past in let m = most in
          ap (λ q. cond q (d.first == 0) (nat_le (d.first + length d.words) (words_for size))) (ne_eqb (length d.words) 0 (λ z. omega (arith, z, n, g)))
          ∙ le-leb (d.first + length d.words) (words_for size) (omega (arith, first, n, g, m));
      words = all_small;
      full =
          let n = size_is in let g = past in
          words_full size d.first d.words (omega (arith, n, g)) (subst (λ w. 0 < w) (sym (word_at 0 (k / 64) (omega (arith, n, g)) (omega arith))) (set_in k lk t))
          (subst (λ w. 0 < w) (sym top_is) (set_in e most (last_is p size e end))) (bounded (cases_le (suc (e / 64)) (size / 64)));
    }
      where
        cases_le : (a b : ℕ) → (a ≤ b) ⊎ (b < a)
        cases_le a b = by (cases_lt b a)
          where
            by : (b < a) ⊎ (a ≤ b) → (a ≤ b) ⊎ (b < a)
            by (inl l) = inr l
            by (inr l) = inl l

  end_some : (k : ℕ) → k < size → p k ≡ true → (e : ℕ) × (end_of slots ≡ suc e)
  end_some k l t = at (end_of slots) refl (end_past p size k l t)
    where
      at : (n : ℕ) → end_of slots ≡ n → k < end_of slots → (e : ℕ) × (end_of slots ≡ suc e)
      at zero h g = absurd (omega (arith, h, g))
      at (suc e) h g = (e, h)

  pub is_delta : IsDelta size d
  is_delta = at (first_cases p size 0)
    where
      at : (slots ≡ []) ⊎ ((k : ℕ) × (0 ≤ k) × (k < 0 + size) × (p k ≡ true) × (first_word slots ≡ k / 64)) → IsDelta size d
      at (inl e) = nothing e
      at (inr x) = let l : x.0 < size = let h = x.2 in omega (arith, h) in let e = end_some x.0 l x.3 in some x.0 e.0 l x.3 x.4 e.1

pub delta_ruled : (size : ℕ) (slots : List ℕ) → AreSlots size slots → size < 2 ^ 32 → IsDelta size (delta_image slots)
delta_ruled size slots e few = subst (λ xs. IsDelta size (delta_image xs)) (sym e) (is_delta (has slots) size few)
