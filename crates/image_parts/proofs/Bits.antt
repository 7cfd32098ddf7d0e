-- The bits of a word ahead of a place.
use Rattle.std.proofs.Common.{◌≡◌, ℕ, ◌+◌, ◌-◌, ◌/◌, ◌%◌, ◌^◌, ◌<◌, ◌≤◌, ◌==◌, true, false, sym, ap, inl, inr, ◌∙◌, arith, shr-shr, div-le_self, w64}
use Rattle.std.specs.Int.{bit_at, trailing_zeros}
use Rattle.std.proofs.lemmas.Bool.{cases_lt}
use Rattle.std.proofs.lemmas.Nat.Bits.{bit_at-zero, bit_at-trailing_zeros, bit_at_above}
use Rattle.image_parts.specs.Whole.{word_bit}

-- a bit behind a place, of the word shifted to this place
pub shifted : (word from k : ℕ) → from ≤ k → word_bit word k ≡ word_bit (word / 2 ^ from) (k - from)
shifted word from k le =
    let e : from + (k - from) ≡ k = omega (arith, le) in
    ap (word_bit word) (sym e) ∙ ap (λ n. n % 2 == 1) (sym (shr-shr word from (k - from)))

-- nothing is ahead
pub none_ahead : (word from : ℕ) → word / 2 ^ from ≡ 0 → (k : ℕ) → from ≤ k → word_bit word k ≡ false
none_ahead word from none k le = shifted word from k le ∙ ap (λ n. word_bit n (k - from)) none ∙ ap (λ n. n == 1) (bit_at-zero (k - from))

lowest : (word from : ℕ) → word < 2 ^ 64 → (word / 2 ^ from ≡ 0 → ⊥)
    → let t = trailing_zeros w64 (word / 2 ^ from) in (t < 64) × (bit_at (word / 2 ^ from) t ≡ 1) × ((i : ℕ) → i < t → bit_at (word / 2 ^ from) i ≡ 0)
lowest word from fits some = bit_at-trailing_zeros w64 (word / 2 ^ from) (omega (arith, some)) (omega (arith, fits, div-le_self word (2 ^ from)))

pub clear_ahead : (word from : ℕ) → word < 2 ^ 64 → (word / 2 ^ from ≡ 0 → ⊥) → (k : ℕ) → from ≤ k → k < from + trailing_zeros w64 (word / 2 ^ from) → word_bit word k ≡ false
clear_ahead word from fits some k le lt =
    shifted word from k le ∙ ap (λ n. n == 1) ((lowest word from fits some).2 (k - from) (omega (arith, le, lt)))

pub found_ahead : (word from : ℕ) → word < 2 ^ 64 → (word / 2 ^ from ≡ 0 → ⊥) → word_bit word (from + trailing_zeros w64 (word / 2 ^ from)) ≡ true
found_ahead word from fits some =
    ap (λ n. n % 2 == 1) (sym (shr-shr word from (trailing_zeros w64 (word / 2 ^ from)))) ∙ ap (λ n. n == 1) (lowest word from fits some).1

-- the bit that is found is one of the word
pub within_ahead : (word from : ℕ) → word < 2 ^ 64 → (word / 2 ^ from ≡ 0 → ⊥) → from + trailing_zeros w64 (word / 2 ^ from) < 64
within_ahead word from fits some =
    let t = trailing_zeros w64 (word / 2 ^ from) in
    let here : bit_at word (from + t) ≡ 1 = ap (λ n. n % 2) (sym (shr-shr word from t)) ∙ (lowest word from fits some).1 in
    elim (cases_lt (from + t) 64) [
      | inl lt ↦ lt
      | inr le ↦ absurd (omega (arith, here, bit_at_above word 64 (from + t) fits le))
    ]
