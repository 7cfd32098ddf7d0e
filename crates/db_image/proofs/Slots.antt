-- The slots of a delta as places of a bitmap, word by word.
use Rattle.std.proofs.Common.{◌≡◌, inl, inr, ℕ, ◌+◌, ◌-◌, ◌/◌, ◌%◌, ◌^◌, ◌<◌, ◌==◌, Bool, true, false, ◌&&◌, List, [], length, refl, sym, ap, ◌∙◌, arith}
use Rattle.std.specs.Prelude.{nat_le}
use Rattle.std.specs.Int.{bit_at}
use Rattle.std.proofs.Math.Nat.{mod-lt}
use Rattle.std.proofs.Math.Pow.{mod-mod-pow}
use Rattle.std.proofs.lemmas.Nat.{mod-pow-add, div-mul-add, pow_pos}
use Rattle.std.proofs.lemmas.Nat.Bits.{bit_at_above}
use Rattle.std.proofs.lemmas.Bool.{cases_lt, false≢true}
use Rattle.std.proofs.lemmas.List.{same_lists, get_or_past, get_or_default, length-replicate}
use Rattle.std.proofs.lemmas.List.FromFn.{get_or-map-range_with_len, length-map-range_with_len}
use Rattle.plain_bits.specs.Truth.{bit_of, differ, lengthened}
use Rattle.plain_bits.specs.Word.{is_set, word_bit}
use Rattle.plain_bits.proofs.Truths.{default_everywhere}
use Rattle.image_text.specs.declared.image.Delta.{Delta}
use Rattle.image_parts.specs.Whole.{delta_bit}
use Rattle.image_parts.specs.Whole as whole
use Rattle.image_parts.proofs.Flips.{and_false, none_bit}
use Rattle.db_image.specs.Parts.{bits_of}

-- ---- the lowest bits of a word

low_bit : (n many k : ℕ) → k < many → bit_at (n % 2 ^ many) k ≡ bit_at n k
low_bit n many k lt =
    let far : many ≡ (many - k) + k = omega (arith, lt) in
    let one : many - k ≡ (many - k - 1) + 1 = omega (arith, lt) in
    ap (λ m. n % 2 ^ m / 2 ^ k % 2) far
    ∙ ap (λ x. x / 2 ^ k % 2) (mod-pow-add n (many - k) k)
    ∙ ap (λ x. x % 2) (div-mul-add (n / 2 ^ k % 2 ^ (many - k)) (2 ^ k) (n % 2 ^ k) (mod-lt n (pow_pos k)))
    ∙ ap (λ m. n / 2 ^ k % 2 ^ m % 2) one
    ∙ mod-mod-pow (n / 2 ^ k) (many - k - 1) 1

pub low_same : (word many k : ℕ) → k < many → is_set (word % 2 ^ many) k ≡ is_set word k
low_same word many k lt = ap (λ n. n == 1) (low_bit word many k lt)

pub low_fits : (word many k : ℕ) → is_set (word % 2 ^ many) k ≡ true → k < many
low_fits word many k one =
    elim (cases_lt k many) [
      | inl lt ↦ lt
      | inr le ↦ absurd (false≢true (sym (ap (λ n. n == 1) (bit_at_above (word % 2 ^ many) many k (mod-lt word (pow_pos many)) le)) ∙ one))
    ]

-- ---- the words of a delta

pub clear_words : (d : Delta) (k : ℕ) → length d.words ≡ 0 → delta_bit d k ≡ false
clear_words d k none =
    ap (λ w. nat_le d.first (k / 64) && whole.word_bit w (k % 64)) (get_or_past d.words (k / 64 - d.first) 0 (omega (arith, none)))
    ∙ ap (λ q. nat_le d.first (k / 64) && q) (none_bit (k % 64))
    ∙ and_false (nat_le d.first (k / 64))

differ_false : (a : Bool) → differ a false ≡ a
differ_false true = refl
differ_false false = refl

-- the bitmap is that of the delta
pub bits_are : (size : ℕ) (d : Delta) (grown bits : List Bool) → grown ≡ lengthened [] size → length bits ≡ length grown
    → ((k : ℕ) → k < length grown → bit_of bits k ≡ differ (delta_bit d k) (bit_of grown k)) → bits ≡ bits_of size d
bits_are size d grown bits is long each =
    same_lists bits (bits_of size d) (many ∙ sym (length-map-range_with_len (delta_bit d) 0 size)) (λ k e lt.
    let inside : k < size = omega (arith, lt, many) in
    get_or_default bits k e false lt
    ∙ each k (omega (arith, lt, long))
    ∙ ap (differ (delta_bit d k)) (ap (λ l. bit_of l k) is ∙ default_everywhere (size - 0) k false)
    ∙ differ_false (delta_bit d k)
    ∙ sym (get_or-map-range_with_len (delta_bit d) 0 size k k e inside (omega arith)))
  where
    many : length bits ≡ size
    many = let whole_size : size - 0 ≡ size = omega arith in long ∙ ap length is ∙ length-replicate (size - 0) false ∙ whole_size
