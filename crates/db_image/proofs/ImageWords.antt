-- The words of a delta, from its bits.
use Rattle.std.proofs.Common.{◌≡◌, ◌≢◌, ◌⊎◌, inl, inr, ℕ, zero, suc, ◌+◌, ◌-◌, ◌*◌, ◌/◌, ◌%◌, ◌^◌, ◌<◌, ◌≤◌, ◌==◌, Bool, true, false, cond, List, [], ◌∷◌, ◌++◌, map, filter, length, take, get_or, refl, sym, ap, subst, ◌∙◌, arith}
use Rattle.std.specs.Int.{bit_at}
use Rattle.std.specs.List.{range_with_len}
use Rattle.std.proofs.Math.Nat.{pow-succ'}
use Rattle.std.proofs.lemmas.Bool.{eq-eqb, cases_eq, cases_lt}
use Rattle.std.proofs.lemmas.List.{get_or_past, append-nil, take_more, map_push}
use Rattle.std.proofs.lemmas.List.FromFn.{map-range_with_len_more}
use Rattle.std.proofs.lemmas.Nat.Bits.{bit_at-zero, bit_at-lt, bit_at_lowest, bit_at-suc, same_from_bits_below}
use Rattle.plain_bits.specs.Truth.{bit_of, IsNextTrue, IsClearFrom}
use Rattle.plain_bits.specs.Word.{is_set}
use Rattle.db_store.specs.Layout.{has, slots_where}
use Rattle.db_store.proofs.BitLemmas.{has_where, has_past}
use Rattle.hybrid_view.specs.Deltas.{slots_of}
use Rattle.hybrid_view.proofs.DeltaLemmas.{slots_more}
use Rattle.bit_rows.specs.Short.{end_of}
use Rattle.bit_rows.proofs.ShortLemmas.{end_push}
use Rattle.image_parts.specs.Walk.{weigh}
use Rattle.db_image.specs.Images.{number_of, word_in, first_word, end_word, delta_image}

-- ---- a word

weigh_is : (n : ℕ) → n < 2 → n ≡ weigh (n == 1)
weigh_is zero l = refl
weigh_is (suc zero) l = refl
weigh_is (suc (suc n)) l = absurd (omega (arith, l))

-- a number is that of its bits
pub number_is : (n w slot : ℕ) (p : ℕ → Bool) → w < 2 ^ n → ((k : ℕ) → k < n → is_set w k ≡ p (slot + k)) → w ≡ number_of p slot n
unfolding number_of
number_is zero w slot p l h = omega (arith, l)
number_is (suc n) w slot p l h =
    let half : w / 2 < 2 ^ n = let t : 2 ^ suc n ≡ 2 * 2 ^ n = pow-succ' 2 n in omega (arith, l, t) in
    let rest : w / 2 ≡ number_of p (suc slot) n =
    number_is n (w / 2) (suc slot) p half (λ k lt. ap (λ b. b == 1) (sym (bit_at-suc w k)) ∙ h (suc k) (omega (arith, lt)) ∙ ap p (omega arith)) in
    let low : w % 2 ≡ weigh (p slot) =
    sym (bit_at_lowest w) ∙ weigh_is (bit_at w 0) (bit_at-lt w 0) ∙ ap weigh (h 0 (omega arith) ∙ ap p (omega arith)) in
    let two : w ≡ w % 2 + 2 * (w / 2) = omega arith in
    two ∙ (λ i. low i + 2 * rest i)

-- the slots of a bitmap are its bits
pub has_bit : (bits : List Bool) (slot : ℕ) → has (slots_of bits) slot ≡ bit_of bits slot
has_bit bits slot = at (cases_lt slot (length bits))
  where
    at : (slot < length bits) ⊎ (length bits ≤ slot) → has (slots_of bits) slot ≡ bit_of bits slot
    at (inl l) = has_where (bit_of bits) (length bits) slot l
    at (inr g) = has_past (bit_of bits) (length bits) slot g ∙ sym (get_or_past bits slot false g)

pub word_is : (bits : List Bool) (at w : ℕ) → w < 2 ^ 64 → ((k : ℕ) → k < 64 → is_set w k ≡ bit_of bits (64 * at + k)) → w ≡ word_in (slots_of bits) at
word_is bits at w l h = number_is 64 w (64 * at) (has (slots_of bits)) l (λ k lt. h k lt ∙ sym (has_bit bits (64 * at + k)))

-- ---- the first word

-- the first of the slots from one on for which a test holds
first_in : (p : ℕ → Bool) (n a place : ℕ) → a ≤ place → place < a + n → p place ≡ true → ((k : ℕ) → a ≤ k → k < place → p k ≡ false) → first_word (filter p (range_with_len a n)) ≡ place / 64
first_in p zero a place g l t f = absurd (omega (arith, g, l))
first_in p (suc n) a place g l t f = at (cases_eq a place) (first_in p n (a + 1) place)
  where
    at : (a ≡ place) ⊎ (a ≢ place) → (a + 1 ≤ place → place < a + 1 + n → p place ≡ true → ((k : ℕ) → a + 1 ≤ k → k < place → p k ≡ false) → first_word (filter p (range_with_len (a + 1) n)) ≡ place / 64)
        → first_word (cond (p a) (a ∷ filter p (range_with_len (a + 1) n)) (filter p (range_with_len (a + 1) n))) ≡ place / 64
    at (inl e) later = ap (λ q. first_word (cond q (a ∷ filter p (range_with_len (a + 1) n)) (filter p (range_with_len (a + 1) n)))) (ap p e ∙ t) ∙ ap (λ k. k / 64) e
    at (inr m) later =
        ap (λ q. first_word (cond q (a ∷ filter p (range_with_len (a + 1) n)) (filter p (range_with_len (a + 1) n)))) (f a (omega arith) (omega (arith, g, m)))
        ∙ later (omega (arith, g, m)) (omega (arith, l)) t (λ k h lt. f k (omega (arith, h)) lt)

none_in : (p : ℕ → Bool) (n a : ℕ) → ((k : ℕ) → a ≤ k → p k ≡ false) → filter p (range_with_len a n) ≡ []
none_in p zero a f = refl
none_in p (suc n) a f =
    ap (λ q. cond q (a ∷ filter p (range_with_len (a + 1) n)) (filter p (range_with_len (a + 1) n))) (f a (omega arith))
    ∙ none_in p n (a + 1) (λ k h. f k (omega (arith, h)))

pub first_none : (bits : List Bool) → IsClearFrom bits 0 → 0 ≡ first_word (slots_of bits)
first_none bits clear = sym (ap first_word (none_in (bit_of bits) (length bits) 0 clear))

pub first_some : (bits : List Bool) (place : ℕ) → IsNextTrue bits 0 place → place / 64 ≡ first_word (slots_of bits)
first_some bits place next = sym (first_in (bit_of bits) (length bits) 0 place (omega arith) (let w = next.within in omega (arith, w)) next.is_true (λ k h l. next.between k h l))

-- ---- the last word

pub end_more : (p : ℕ → Bool) (n : ℕ) → end_of (slots_where p (suc n)) ≡ cond (p n) (suc n) (end_of (slots_where p n))
end_more p n =
    let one : suc n ≡ n + 1 = omega arith in
    ap (λ k. end_of (slots_where p k)) one ∙ ap end_of (slots_more p n) ∙ at (p n)
  where
    at : (q : Bool) → end_of (slots_where p n ++ cond q (n ∷ []) []) ≡ cond q (suc n) (end_of (slots_where p n))
    at true = end_push (slots_where p n) n
    at false = ap end_of (append-nil (slots_where p n))

-- no slot stands from a number on
end_most : (p : ℕ → Bool) (n most : ℕ) → ((k : ℕ) → most ≤ k → p k ≡ false) → end_of (slots_where p n) ≤ most
end_most p zero most f = omega arith
end_most p (suc n) most f = subst (λ k. k ≤ most) (sym (end_more p n)) (at (p n) refl (end_most p n most f))
  where
    at : (q : Bool) → p n ≡ q → end_of (slots_where p n) ≤ most → cond q (suc n) (end_of (slots_where p n)) ≤ most
    at true e h = below (cases_lt n most)
      where
        below : (n < most) ⊎ (most ≤ n) → suc n ≤ most
        below (inl l) = omega (arith, l)
        below (inr g) = absurd (let z : true ≡ false = sym e ∙ f n g in cc)
    at false e h = h

-- a slot stands before the end
pub end_past : (p : ℕ → Bool) (n k : ℕ) → k < n → p k ≡ true → k < end_of (slots_where p n)
end_past p zero k l t = absurd (omega (arith, l))
end_past p (suc n) k l t = subst (λ m. k < m) (sym (end_more p n)) (at (p n) refl (end_past p n k))
  where
    at : (q : Bool) → p n ≡ q → (k < n → p k ≡ true → k < end_of (slots_where p n)) → k < cond q (suc n) (end_of (slots_where p n))
    at true e later = l
    at false e later = later (apart (cases_eq k n)) t
      where
        apart : (k ≡ n) ⊎ (k ≢ n) → k < n
        apart (inl same) = absurd (let z : true ≡ false = sym t ∙ ap p same ∙ e in cc)
        apart (inr m) = omega (arith, l, m)

-- a number that isn't 0 has a bit
some_bit : (w n : ℕ) → ((k : ℕ) → k < n → bit_at w k ≡ 0) ⊎ ((k : ℕ) × (k < n) × (bit_at w k ≡ 1))
some_bit w zero = inl (λ k l. absurd (omega (arith, l)))
some_bit w (suc n) = at (some_bit w n) (bit_at w n) refl (bit_at-lt w n)
  where
    at : ((k : ℕ) → k < n → bit_at w k ≡ 0) ⊎ ((k : ℕ) × (k < n) × (bit_at w k ≡ 1)) → (b : ℕ) → bit_at w n ≡ b → b < 2 → ((k : ℕ) → k < suc n → bit_at w k ≡ 0) ⊎ ((k : ℕ) × (k < suc n) × (bit_at w k ≡ 1))
    at (inr x) b e l = inr (x.0, omega (arith, x.1), x.2)
    at (inl f) zero e l = inl (λ k h. below k h (cases_eq k n))
      where
        below : (k : ℕ) → k < suc n → (k ≡ n) ⊎ (k ≢ n) → bit_at w k ≡ 0
        below k h (inl same) = ap (bit_at w) same ∙ e
        below k h (inr m) = f k (omega (arith, h, m))
    at (inl f) (suc zero) e l = inr (n, omega arith, e)
    at (inl f) (suc (suc b)) e l = absurd (omega (arith, l))

none_zero : (w : ℕ) → w < 2 ^ 64 → ((k : ℕ) → k < 64 → bit_at w k ≡ 0) → w ≡ 0
none_zero w l f = same_from_bits_below 64 w 0 l (omega arith) (λ k h. f k h ∙ sym (bit_at-zero k))

-- past the last word no bit is set
pub clear_at : (bits : List Bool) (count : ℕ) → length bits ≤ 64 * count → IsClearFrom bits (64 * count)
clear_at bits count h = λ k g. get_or_past bits k false (omega (arith, h, g))

-- one word less
pub clear_more : (bits : List Bool) (at w : ℕ) → w ≡ 0 → ((k : ℕ) → k < 64 → is_set w k ≡ bit_of bits (64 * at + k)) → IsClearFrom bits (64 * (at + 1)) → IsClearFrom bits (64 * at)
clear_more bits at w e h clear = λ k g. by k g (cases_lt k (64 * (at + 1)))
  where
    by : (k : ℕ) → 64 * at ≤ k → (k < 64 * (at + 1)) ⊎ (64 * (at + 1) ≤ k) → bit_of bits k ≡ false
    by k g (inr m) = clear k m
    by k g (inl l) =
        let back : 64 * at + (k - 64 * at) ≡ k = omega (arith, g) in
        ap (bit_of bits) (sym back)
        ∙ sym (h (k - 64 * at) (omega (arith, g, l)))
        ∙ ap (λ n. is_set n (k - 64 * at)) e
        ∙ ap (λ n. n == 1) (bit_at-zero (k - 64 * at))

-- the last word that isn't 0
pub end_is : (bits : List Bool) (at w : ℕ) → w < 2 ^ 64 → (w ≡ 0 → ⊥) → ((k : ℕ) → k < 64 → is_set w k ≡ bit_of bits (64 * at + k)) → IsClearFrom bits (64 * (at + 1)) → at + 1 ≡ end_word (slots_of bits)
end_is bits at w l some h clear = by (some_bit w 64)
  where
    within : (k : ℕ) → bit_of bits k ≡ true → k < length bits
    within k t = here (cases_lt k (length bits))
      where
        here : (k < length bits) ⊎ (length bits ≤ k) → k < length bits
        here (inl m) = m
        here (inr m) = absurd (let z : true ≡ false = sym t ∙ get_or_past bits k false m in cc)

    by : ((k : ℕ) → k < 64 → bit_at w k ≡ 0) ⊎ ((k : ℕ) × (k < 64) × (bit_at w k ≡ 1)) → at + 1 ≡ end_word (slots_of bits)
    by (inl f) = absurd (some (none_zero w l f))
    by (inr x) =
        let t : bit_of bits (64 * at + x.0) ≡ true = sym (h x.0 x.1) ∙ eq-eqb (bit_at w x.0) 1 x.2 in
        let most = end_most (bit_of bits) (length bits) (64 * (at + 1)) clear in
        let past = end_past (bit_of bits) (length bits) (64 * at + x.0) (within (64 * at + x.0) t) t in
        omega (arith, most, past)

pub end_none : (bits : List Bool) → IsClearFrom bits 0 → 0 ≡ end_word (slots_of bits)
end_none bits clear = sym (ap end_word (none_in (bit_of bits) (length bits) 0 clear))

-- ---- deltas, one after another

pub deltas_more : (ds : List (List Bool)) (i : ℕ) → i < length ds → map delta_image (map slots_of (take (i + 1) ds)) ≡ map delta_image (map slots_of (take i ds)) ++ delta_image (slots_of (get_or ds i [])) ∷ []
deltas_more ds i l = ap (λ (xs : List (List Bool)). map delta_image (map slots_of xs)) (take_more ds i [] l) ∙ ap (map delta_image) (map_push slots_of (take i ds) (get_or ds i [])) ∙ map_push delta_image (map slots_of (take i ds)) (slots_of (get_or ds i []))

pub words_next : (bits : List Bool) (first at : ℕ) (old new : List ℕ) (w : ℕ) → first ≤ at → new ≡ old ++ w ∷ [] → w ≡ word_in (slots_of bits) at → old ≡ map (word_in (slots_of bits)) (range_with_len first (at - first))
    → new ≡ map (word_in (slots_of bits)) (range_with_len first (at + 1 - first))
words_next bits first at old new w le e is o =
    let k : at - first + 1 ≡ at + 1 - first = omega (arith, le) in
    e
    ∙ (λ j. o j ++ is j ∷ [])
    ∙ sym (map-range_with_len_more (word_in (slots_of bits)) first (at - first) at (omega (arith, le)))
    ∙ ap (λ n. map (word_in (slots_of bits)) (range_with_len first n)) k
