-- One word of a run that has been changed, as the bitmap that the run stands for sees it.
use Rattle.std.proofs.Common.{◌≡◌, ℕ, ◌+◌, ◌-◌, ◌*◌, ◌/◌, ◌%◌, ◌^◌, ◌<◌, ◌≤◌, Bool, true, false, eqb, ◌==◌, ◌&&◌, List, length, get_or, set, take, bit_xor, refl, sym, ap, ap₂, ◌∙◌, ⊎_elim, arith, length-set, get_or-set_other, get_or-set_same}
use Rattle.std.proofs.lemmas.Bool.{cases_eq, eq-eqb, ne_eqb}
use Rattle.plain_bits.specs.Truth.{bit_of, differ}
use Rattle.plain_bits.specs.Word.{is_set, word_bit, FitsAt, bits_of, IsPacked}
use Rattle.plain_bits.specs.Gate.{xor_acts}
use Rattle.plain_bits.proofs.Truths.{same_front}
use Rattle.plain_bits.proofs.Words.{bit-bits_of, bit_in_word, length-bits_of, length_view}

-- the run after one word has taken the exclusive or of itself and another
abbrev pub changed : List ℕ → ℕ → ℕ → List ℕ
changed words at word = set words at (bit_xor (get_or words at 0) word)

swapped : (a b : Bool) → differ a b ≡ differ b a
swapped true true = refl
swapped true false = refl
swapped false true = refl
swapped false false = refl

here : (at q : ℕ) (b : Bool) → q ≡ at → (q == at && b) ≡ b
here at q b e = ap (λ (t : Bool). t && b) (eq-eqb q at e)

elsewhere : (at q : ℕ) (b : Bool) → (q ≡ at → ⊥) → (q == at && b) ≡ false
elsewhere at q b ne = ap (λ (t : Bool). t && b) (ne_eqb q at ne)

pub bit_after : (words : List ℕ) (at word place : ℕ) → at < length words → bit_of (bits_of (changed words at word)) place ≡ differ (word_bit at word place) (bit_of (bits_of words) place)
bit_after words at word place within =
    let r = place % 64 in
    bit-bits_of (changed words at word) place
    ∙ ⊎_elim (λ (e : place / 64 ≡ at).
    ap (λ q. is_set (get_or (changed words at word) q 0) r) e
    ∙ ap (λ n. is_set n r) (get_or-set_same words at (bit_xor (get_or words at 0) word) 0 within)
    ∙ xor_acts.bit (get_or words at 0) word r
    ∙ swapped (is_set (get_or words at 0) r) (is_set word r)
    ∙ ap₂ differ (sym (here at (place / 64) (is_set word r) e)) (ap (λ q. is_set (get_or words q 0) r) (sym e) ∙ sym (bit-bits_of words place)))
    (λ (ne : place / 64 ≡ at → ⊥).
    ap (λ n. is_set n r) (get_or-set_other words at (place / 64) (bit_xor (get_or words at 0) word) 0 ne)
    ∙ sym (bit-bits_of words place)
    ∙ ap (λ (t : Bool). differ t (bit_of (bits_of words) place)) (sym (elsewhere at (place / 64) (is_set word r) ne)))
    (cases_eq (place / 64) at)

-- no place of the word is past a length in which its set bits fit
none_past : (at word len place : ℕ) → FitsAt at word len → len ≤ place → word_bit at word place ≡ false
none_past at word len place fits past =
    ⊎_elim (λ (e : place / 64 ≡ at). here at (place / 64) (is_set word (place % 64)) e ∙ by (is_set word (place % 64)) refl e)
    (λ (ne : place / 64 ≡ at → ⊥). elsewhere at (place / 64) (is_set word (place % 64)) ne)
    (cases_eq (place / 64) at)
  where
    by : (b : Bool) → is_set word (place % 64) ≡ b → place / 64 ≡ at → b ≡ false
    by false is e = refl
    by true is e = let k = fits (place % 64) (omega arith) is in absurd (omega (arith, k, e, past))

pub IsPacked-changed : (len : ℕ) (words : List ℕ) (at word : ℕ) → IsPacked len words → at < length words → FitsAt at word len → IsPacked len (changed words at word)
IsPacked-changed len words at word packed within fits =
    let same = length-set words at (bit_xor (get_or words at 0) word) in
    record {
      short = packed.short;
      room = omega (arith, same, packed.room);
      tight = omega (arith, same, packed.tight);
      clear = λ place past.
          bit_after words at word place within ∙ ap₂ differ (none_past at word len place fits past) (packed.clear place past);
    }

-- the bitmap afterwards, place by place
pub seen_after : (len : ℕ) (words : List ℕ) (seen : List Bool) (at word place : ℕ) → IsPacked len words → take len (bits_of words) ≡ seen → at < length words → FitsAt at word len
    → bit_of (take len (bits_of (changed words at word))) place ≡ differ (word_bit at word place) (bit_of seen place)
seen_after len words seen at word place packed view within fits =
    (same_front len (bits_of (changed words at word)) (IsPacked-changed len words at word packed within fits).clear).at place
    ∙ bit_after words at word place within
    ∙ ap (λ (b : Bool). differ (word_bit at word place) b) (sym ((same_front len (bits_of words) packed.clear).at place) ∙ ap (λ bits. bit_of bits place) view)

-- a bit of a word of the run is the bitmap's at its place
pub bit_seen : (len : ℕ) (words : List ℕ) (seen : List Bool) (at place : ℕ) → IsPacked len words → take len (bits_of words) ≡ seen → place < 64
    → is_set (get_or words at 0) place ≡ bit_of seen (64 * at + place)
bit_seen len words seen at place packed view low =
    sym (bit_in_word words at place low) ∙ sym ((same_front len (bits_of words) packed.clear).at (64 * at + place)) ∙ ap (λ bits. bit_of bits (64 * at + place)) view
