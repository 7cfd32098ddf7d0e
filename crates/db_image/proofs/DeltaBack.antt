-- The delta of an image of slots changes these slots.
use Rattle.std.proofs.Common.{◌≡◌, ◌≢◌, ◌⊎◌, inl, inr, ℕ, zero, suc, ◌+◌, ◌-◌, ◌*◌, ◌/◌, ◌%◌, ◌^◌, ◌<◌, ◌≤◌, ◌==◌, Bool, true, false, cond, ◌&&◌, List, ◌∷◌, filter, get_or, refl, sym, ap, ◌∙◌, arith}
use Rattle.std.specs.Prelude.{nat_le}
use Rattle.std.specs.List.{range_with_len}
use Rattle.std.proofs.Math.Nat.{zero-div}
use Rattle.std.proofs.lemmas.Bool.{cases_eq, cases_lt, le-leb, leb-true}
use Rattle.std.proofs.lemmas.List.{get_or_past}
use Rattle.std.proofs.lemmas.List.FromFn.{get_or-map-range_with_len, length-map-range_with_len}
use Rattle.std.proofs.lemmas.Nat.Bits.{bit_at_lowest, bit_at-suc}
use Rattle.db_store.specs.Layout.{has, slots_where}
use Rattle.db_store.proofs.BitLemmas.{has_where}
use Rattle.hybrid_view.specs.Deltas.{slots_of}
use Rattle.hybrid_view.proofs.DeltaLemmas.{slots_by, slots_agree}
use Rattle.image_text.specs.declared.image.Delta.{Delta}
use Rattle.image_parts.specs.Walk.{weigh}
use Rattle.image_parts.specs.Whole.{word_bit, delta_bit}
use Rattle.db_image.specs.Parts.{bits_of}
use Rattle.db_image.specs.Images.{number_of, word_in, first_word, end_word, delta_image}
use Rattle.db_image.proofs.ImageWords.{end_past}

weigh_bit : (b : Bool) (x : ℕ) → ((weigh b + 2 * x) % 2 == 1) ≡ b
weigh_bit true x = let e : (1 + 2 * x) % 2 ≡ 1 = omega arith in ap (λ n. n == 1) e
weigh_bit false x = let e : (0 + 2 * x) % 2 ≡ 0 = omega arith in ap (λ n. n == 1) e

weigh_half : (b : Bool) (x : ℕ) → (weigh b + 2 * x) / 2 ≡ x
weigh_half true x = omega arith
weigh_half false x = omega arith

-- a bit of a number that bits make
pub number_bit : (n slot k : ℕ) (p : ℕ → Bool) → k < n → word_bit (number_of p slot n) k ≡ p (slot + k)
unfolding number_of
number_bit zero slot k p l = absurd (omega (arith, l))
number_bit (suc n) slot zero p l =
    ap (λ m. m == 1) (bit_at_lowest (weigh (p slot) + 2 * number_of p (suc slot) n))
    ∙ weigh_bit (p slot) (number_of p (suc slot) n)
    ∙ ap p (omega arith)
number_bit (suc n) slot (suc k) p l =
    ap (λ m. m == 1) (bit_at-suc (weigh (p slot) + 2 * number_of p (suc slot) n) k)
    ∙ ap (λ m. word_bit m k) (weigh_half (p slot) (number_of p (suc slot) n))
    ∙ number_bit n (suc slot) k p (omega (arith, l))
    ∙ ap p (omega arith)

pub no_bit : (k : ℕ) → word_bit 0 k ≡ false
no_bit k = ap (λ n. n % 2 == 1) (zero-div (2 ^ k))

-- a slot stands in no word before the first one
first_least : (p : ℕ → Bool) (n a k : ℕ) → a ≤ k → k < a + n → p k ≡ true → first_word (filter p (range_with_len a n)) ≤ k / 64
first_least p zero a k g l t = absurd (omega (arith, g, l))
first_least p (suc n) a k g l t = at (p a) refl (first_least p n (a + 1) k)
  where
    at : (q : Bool) → p a ≡ q → (a + 1 ≤ k → k < a + 1 + n → p k ≡ true → first_word (filter p (range_with_len (a + 1) n)) ≤ k / 64)
        → first_word (cond q (a ∷ filter p (range_with_len (a + 1) n)) (filter p (range_with_len (a + 1) n))) ≤ k / 64
    at true e later = omega (arith, g)
    at false e later = later (apart (cases_eq a k)) (omega (arith, l)) t
      where
        apart : (a ≡ k) ⊎ (a ≢ k) → a + 1 ≤ k
        apart (inl same) = absurd (let z : true ≡ false = sym t ∙ ap p (sym same) ∙ e in cc)
        apart (inr m) = omega (arith, g, m)

module _ (p : ℕ → Bool) (size : ℕ) where
  abbrev slots : List ℕ
  slots = slots_where p size

  abbrev d : Delta
  d = delta_image slots

  -- the bit of a slot, by where its word stands
  before_first : (s : ℕ) → s < size → s / 64 < d.first → p s ≡ false
  before_first s l b = at (p s) refl
    where
      at : (q : Bool) → p s ≡ q → q ≡ false
      at true t = absurd (let f = first_least p size 0 s (omega arith) (omega (arith, l)) t in omega (arith, f, b))
      at false t = refl

  from_end : (s : ℕ) → s < size → end_word slots ≤ s / 64 → p s ≡ false
  from_end s l b = at (p s) refl
    where
      at : (q : Bool) → p s ≡ q → q ≡ false
      at true t = absurd (let f = end_past p size s l t in omega (arith, f, b))
      at false t = refl

  within : (s : ℕ) → s < size → d.first ≤ s / 64 → s / 64 < end_word slots → delta_bit d s ≡ p s
  within s l g b =
      (λ i. le-leb d.first (s / 64) g i && word_bit (get_or-map-range_with_len (word_in slots) d.first (end_word slots - d.first) (s / 64 - d.first) (s / 64) 0 (omega (arith, g, b)) (omega (arith, g)) i) (s % 64))
      ∙ number_bit 64 (64 * (s / 64)) (s % 64) (has slots) (omega arith)
      ∙ ap (has slots) (omega arith)
      ∙ has_where p size s l

  low : (s : ℕ) → s / 64 < d.first → delta_bit d s ≡ false
  low s b = ap (λ q. q && word_bit (get_or d.words (s / 64 - d.first) 0) (s % 64)) (at (nat_le d.first (s / 64)) refl)
    where
      at : (q : Bool) → nat_le d.first (s / 64) ≡ q → q ≡ false
      at true t = absurd (let f = leb-true d.first (s / 64) t in omega (arith, f, b))
      at false t = refl

  high : (s : ℕ) → d.first ≤ s / 64 → end_word slots ≤ s / 64 → delta_bit d s ≡ false
  high s g b =
      let n = length-map-range_with_len (word_in slots) d.first (end_word slots - d.first) in
      (λ i. le-leb d.first (s / 64) g i && word_bit (get_or_past d.words (s / 64 - d.first) 0 (omega (arith, n, b)) i) (s % 64))
      ∙ no_bit (s % 64)

  pub same_bit : (s : ℕ) → s < size → delta_bit d s ≡ p s
  same_bit s l = at (cases_lt (s / 64) d.first) (cases_lt (s / 64) (end_word slots))
    where
      at : (s / 64 < d.first) ⊎ (d.first ≤ s / 64) → (s / 64 < end_word slots) ⊎ (end_word slots ≤ s / 64) → delta_bit d s ≡ p s
      at (inl b) x = low s b ∙ sym (before_first s l b)
      at (inr g) (inl b) = within s l g b
      at (inr g) (inr b) = high s g b ∙ sym (from_end s l b)

  pub slots_back : slots_of (bits_of size d) ≡ slots
  slots_back =
      let n = length-map-range_with_len (delta_bit d) 0 size in
      slots_by (bits_of size d) (delta_bit d) size (omega (arith, n)) (λ s l. get_or-map-range_with_len (delta_bit d) 0 size s s false l (omega arith))
      ∙ slots_agree (delta_bit d) p size same_bit

-- these slots ascend, and stand below a number
pub delta_back : (size : ℕ) (slots : List ℕ) → slots ≡ slots_where (has slots) size → slots_of (bits_of size (delta_image slots)) ≡ slots
delta_back size slots e = ap (λ xs. slots_of (bits_of size (delta_image xs))) e ∙ slots_back (has slots) size ∙ sym e
