-- Which bits a walk changes, bit by bit and word by word.
use Rattle.std.proofs.Common.{◌≡◌, ◌≢◌, ◌⊎◌, ℕ, ◌+◌, ◌-◌, ◌*◌, ◌/◌, ◌%◌, ◌^◌, ◌<◌, ◌≤◌, ◌==◌, ◌&&◌, Bool, true, false, not, List, length, get_or, set, refl, sym, ap, inl, inr, subst, ◌∙◌, arith}
use Rattle.std.specs.Prelude.{nat_lt, nat_le}
use Rattle.std.proofs.lemmas.Bool.{eqb-true, eqb-false, cases_lt, lt-ltb, le-ltb, leb-true, le-leb}
use Rattle.std.proofs.Math.Nat.{zero-div}
use Rattle.std.proofs.lemmas.List.{get_or-set_same, get_or-set_other, get_or_past}
use Rattle.image_text.specs.declared.image.Delta.{Delta}
use Rattle.image_parts.specs.Whole.{word_bit, delta_bit, differ}
use Rattle.image_parts.specs.Walk.{Flips, word_at}

differ_assoc : (a b c : Bool) → differ a (differ b c) ≡ differ (differ a b) c
differ_assoc true true true = refl
differ_assoc true true false = refl
differ_assoc true false c = refl
differ_assoc false b c = refl

pub differ_none : (b : Bool) → b ≡ differ b false
differ_none true = refl
differ_none false = refl

-- no bit is changed
pub flips_none : (base size : ℕ) (p : ℕ → Bool) (bits : List Bool) → ((slot : ℕ) → slot < size → p slot ≡ false) → Flips base size p bits bits
flips_none base size p bits none = record {
  inside = λ slot lt. ap (λ (b : Bool). differ b (get_or bits (base + slot) false)) (sym (none slot lt));
  outside = λ place out. refl;
}

-- the same by another rule
pub flips_same : (base size : ℕ) (p q : ℕ → Bool) (old new : List Bool) → Flips base size p old new → ((slot : ℕ) → slot < size → q slot ≡ p slot) → Flips base size q old new
flips_same base size p q old new f same = record {
  inside = λ slot lt. f.inside slot lt ∙ ap (λ (b : Bool). differ b (get_or old (base + slot) false)) (sym (same slot lt));
  outside = f.outside;
}

-- one change after another
pub flips_then : (base size : ℕ) (p q r : ℕ → Bool) (old mid new : List Bool) → Flips base size p old mid → Flips base size q mid new → ((slot : ℕ) → slot < size → r slot ≡ differ (q slot) (p slot)) → Flips base size r old new
flips_then base size p q r old mid new f g both = record {
  inside = λ slot lt. g.inside slot lt ∙ ap (λ (b : Bool). differ (q slot) b) (f.inside slot lt) ∙ differ_assoc (q slot) (p slot) (get_or old (base + slot) false)
      ∙ ap (λ (b : Bool). differ b (get_or old (base + slot) false)) (sym (both slot lt));
  outside = λ place out. g.outside place out ∙ f.outside place out;
}

one_at : (base at slot : ℕ) (old : List Bool) (q : Bool) → (slot == at) ≡ q → base + at < length old
    → get_or (set old (base + at) (not (get_or old (base + at) false))) (base + slot) false ≡ differ q (get_or old (base + slot) false)
one_at base at slot old true e lt =
    let is : slot ≡ at = eqb-true slot at e in
    subst (λ (s : ℕ). get_or (set old (base + at) (not (get_or old (base + at) false))) (base + s) false ≡ not (get_or old (base + s) false)) (sym is) (get_or-set_same old (base + at) (not (get_or old (base + at) false)) false lt)
one_at base at slot old false e lt =
    get_or-set_other old (base + at) (base + slot) (not (get_or old (base + at) false)) false (λ h. eqb-false slot at e (omega (arith, h)))

-- one bit is changed
pub flips_one : (base size at : ℕ) (old new : List Bool) → at < size → base + size ≤ length old → new ≡ set old (base + at) (not (get_or old (base + at) false)) → Flips base size (λ slot. slot == at) old new
flips_one base size at old new lt within is = record {
  inside = λ slot less. ap (λ (l : List Bool). get_or l (base + slot) false) is ∙ one_at base at slot old (slot == at) refl (omega (arith, lt, within));
  outside = λ place out. ap (λ (l : List Bool). get_or l place false) is ∙ get_or-set_other old (base + at) place (not (get_or old (base + at) false)) false (λ h. far place out h);
}
  where
    far : (place : ℕ) → (place < base) ⊎ (base + size ≤ place) → place ≡ base + at → ⊥
    far place (inl l) h = absurd (omega (arith, l, h))
    far place (inr l) h = absurd (omega (arith, l, h, lt))

-- ---- a word

-- the slots of the first bits of a word that are set
abbrev pub first_bits : ℕ → ℕ → ℕ → ℕ → Bool
first_bits at word k slot = (slot / 64 == at) && (nat_lt (slot % 64) k && word_bit word (slot % 64))

hit : (a l m w v : Bool) → a ≡ true → l ≡ true → m ≡ false → w ≡ v → (a && (l && w)) ≡ differ v (a && (m && w))
hit a l m w v ea el em ew = rw (ea, el, em, ew) (differ_none v)

miss : (a l m w : Bool) → (a ≡ true → l ≡ m) → (a && (l && w)) ≡ (a && (m && w))
miss true l m w h = ap (λ (b : Bool). b && w) (h refl)
miss false l m w h = refl

-- a bound raised by one is passed by one number more
raised : (n k : ℕ) → n ≢ k → nat_lt n (k + 1) ≡ nat_lt n k
raised n k other =
    elim (cases_lt n k) [
      | inl lt ↦ lt-ltb n (k + 1) (omega (arith, lt)) ∙ sym (lt-ltb n k lt)
      | inr le ↦ le-ltb n (k + 1) (let far : k + 1 ≤ n = more le in far) ∙ sym (le-ltb n k le)
    ]
  where
    more : k ≤ n → k + 1 ≤ n
    more le = elim (cases_lt k n) [
      | inl lt ↦ omega (arith, lt)
      | inr ge ↦ absurd (other (omega (arith, le, ge)))
    ]

eq_is : (a b : ℕ) → a ≡ b → (a == b) ≡ true
eq_is a b e = by (a == b) refl
  where
    by : (q : Bool) → (a == b) ≡ q → q ≡ true
    by true h = refl
    by false h = absurd (eqb-false a b h e)

and_true : (b : Bool) → (b && true) ≡ b
and_true true = refl
and_true false = refl

pub and_false : (b : Bool) → (b && false) ≡ false
and_false true = refl
and_false false = refl

bit_by : (at word k slot : ℕ) (q : Bool) → (slot == 64 * at + k) ≡ q → k < 64 → first_bits at word (k + 1) slot ≡ differ (q && word_bit word k) (first_bits at word k slot)
bit_by at word k slot true e lt =
    let is : slot ≡ 64 * at + k = eqb-true slot (64 * at + k) e in
    let high : slot / 64 ≡ at = omega (arith, is, lt) in
    let low : slot % 64 ≡ k = omega (arith, is, lt) in
    hit (slot / 64 == at) (nat_lt (slot % 64) (k + 1)) (nat_lt (slot % 64) k) (word_bit word (slot % 64)) (word_bit word k)
    (eq_is (slot / 64) at high) (lt-ltb (slot % 64) (k + 1) (omega (arith, low))) (le-ltb (slot % 64) k (omega (arith, low))) (ap (λ (n : ℕ). word_bit word n) low)
bit_by at word k slot false e lt =
    miss (slot / 64 == at) (nat_lt (slot % 64) (k + 1)) (nat_lt (slot % 64) k) (word_bit word (slot % 64))
    (λ h. raised (slot % 64) k (λ same. eqb-false slot (64 * at + k) e (let high : slot / 64 ≡ at = eqb-true (slot / 64) at h in omega (arith, high, same))))

-- one bit more that is set
pub bit_more : (at word k slot : ℕ) → k < 64 → word_bit word k ≡ true → first_bits at word (k + 1) slot ≡ differ (slot == 64 * at + k) (first_bits at word k slot)
bit_more at word k slot lt set_one = bit_by at word k slot (slot == 64 * at + k) refl lt ∙ ap (λ (b : Bool). differ b (first_bits at word k slot)) (ap (λ (b : Bool). (slot == 64 * at + k) && b) set_one ∙ and_true (slot == 64 * at + k))

-- one bit more that is clear, or no bit of the segment
pub bit_clear : (size at word k slot : ℕ) → k < 64 → slot < size → (64 * at + k < size → word_bit word k ≡ false) → first_bits at word (k + 1) slot ≡ first_bits at word k slot
bit_clear size at word k slot lt less none = bit_by at word k slot (slot == 64 * at + k) refl lt ∙ ap (λ (b : Bool). differ b (first_bits at word k slot)) (by (slot == 64 * at + k) refl)
  where
    by : (q : Bool) → (slot == 64 * at + k) ≡ q → (q && word_bit word k) ≡ false
    by true e = let is : slot ≡ 64 * at + k = eqb-true slot (64 * at + k) e in none (omega (arith, is, less))
    by false e = refl

pub no_bits : (at word slot : ℕ) → first_bits at word 0 slot ≡ false
no_bits at word slot = ap (λ (b : Bool). (slot / 64 == at) && (b && word_bit word (slot % 64))) (le-ltb (slot % 64) 0 (omega arith)) ∙ and_false (slot / 64 == at)

pub all_bits : (at word k slot : ℕ) → 64 ≤ k → word_at at word slot ≡ first_bits at word k slot
all_bits at word k slot le = ap (λ (b : Bool). (slot / 64 == at) && (b && word_bit word (slot % 64))) (sym (lt-ltb (slot % 64) k (omega (arith, le))))

-- bits that are clear are passed over
pub bits_over : (at word k next slot : ℕ) → k ≤ next → ((j : ℕ) → k ≤ j → j < next → word_bit word j ≡ false) → first_bits at word next slot ≡ first_bits at word k slot
bits_over at word k next slot le none =
    elim (cases_lt (slot % 64) k) [
      | inl lt ↦ ap (λ (b : Bool). (slot / 64 == at) && (b && word_bit word (slot % 64))) (lt-ltb (slot % 64) next (omega (arith, lt, le)) ∙ sym (lt-ltb (slot % 64) k lt))
      | inr ge ↦ behind ge (cases_lt (slot % 64) next)
    ]
  where
    behind : k ≤ slot % 64 → (slot % 64 < next) ⊎ (next ≤ slot % 64) → first_bits at word next slot ≡ first_bits at word k slot
    behind ge (inl lt) = ap (λ (b : Bool). (slot / 64 == at) && b) (clear (nat_lt (slot % 64) next) (nat_lt (slot % 64) k) (word_bit word (slot % 64)) (none (slot % 64) ge lt))
      where
        clear : (l m w : Bool) → w ≡ false → (l && w) ≡ (m && w)
        clear l m w e = rw e (and_false l ∙ sym (and_false m))
    behind ge (inr more) = ap (λ (b : Bool). (slot / 64 == at) && (b && word_bit word (slot % 64))) (le-ltb (slot % 64) next more ∙ sym (le-ltb (slot % 64) k ge))

-- no bit is set before the first one
pub starts : (base size at word next : ℕ) (bits : List Bool) → ((j : ℕ) → 0 ≤ j → j < next → word_bit word j ≡ false) → Flips base size (first_bits at word next) bits bits
starts base size at word next bits none = flips_none base size (first_bits at word next) bits (λ slot lt. bits_over at word 0 next slot (omega arith) none ∙ no_bits at word slot)

-- a bit is changed, and the next one is found
pub turns : (base size at word k next : ℕ) (old mid new : List Bool) → k < 64 → word_bit word k ≡ true → k + 1 ≤ next → ((j : ℕ) → k + 1 ≤ j → j < next → word_bit word j ≡ false)
    → Flips base size (first_bits at word k) old mid → Flips base size (λ slot. slot == 64 * at + k) mid new → Flips base size (first_bits at word next) old new
turns base size at word k next old mid new lt is more none f g =
    flips_then base size (first_bits at word k) (λ slot. slot == 64 * at + k) (first_bits at word next) old mid new f g
    (λ slot less. bits_over at word (k + 1) next slot more none ∙ bit_more at word k slot lt is)

-- a bit that is none of the segment is passed over, and the next one is found
pub passes : (base size at word k next : ℕ) (old new : List Bool) → k < 64 → size ≤ 64 * at + k → k + 1 ≤ next → ((j : ℕ) → k + 1 ≤ j → j < next → word_bit word j ≡ false)
    → Flips base size (first_bits at word k) old new → Flips base size (first_bits at word next) old new
passes base size at word k next old new lt out more none f =
    flips_same base size (first_bits at word k) (first_bits at word next) old new f
    (λ slot less. bits_over at word (k + 1) next slot more none ∙ bit_clear size at word k slot lt less (λ inside. absurd (omega (arith, inside, out))))

-- ---- a delta

-- the slots of the first words of a delta whose bits are set
abbrev pub first_words : ℕ → List ℕ → ℕ → ℕ → Bool
first_words first words i slot = nat_le first (slot / 64) && (nat_lt (slot / 64) (first + i) && word_bit (get_or words (slot / 64 - first) 0) (slot % 64))

word_by : (first : ℕ) (words : List ℕ) (i slot : ℕ) (q : Bool) → (slot / 64 == first + i) ≡ q
    → first_words first words (i + 1) slot ≡ differ (q && word_bit (get_or words i 0) (slot % 64)) (first_words first words i slot)
word_by first words i slot true e =
    let is : slot / 64 ≡ first + i = eqb-true (slot / 64) (first + i) e in
    let place : slot / 64 - first ≡ i = omega (arith, is) in
    hit (nat_le first (slot / 64)) (nat_lt (slot / 64) (first + (i + 1))) (nat_lt (slot / 64) (first + i)) (word_bit (get_or words (slot / 64 - first) 0) (slot % 64)) (word_bit (get_or words i 0) (slot % 64))
    (le-leb first (slot / 64) (omega (arith, is))) (lt-ltb (slot / 64) (first + (i + 1)) (omega (arith, is))) (le-ltb (slot / 64) (first + i) (omega (arith, is))) (ap (λ (n : ℕ). word_bit (get_or words n 0) (slot % 64)) place)
word_by first words i slot false e =
    let same : first + (i + 1) ≡ (first + i) + 1 = omega arith in
    miss (nat_le first (slot / 64)) (nat_lt (slot / 64) (first + (i + 1))) (nat_lt (slot / 64) (first + i)) (word_bit (get_or words (slot / 64 - first) 0) (slot % 64))
    (λ h. ap (λ (n : ℕ). nat_lt (slot / 64) n) same ∙ raised (slot / 64) (first + i) (λ is. eqb-false (slot / 64) (first + i) e is))

-- one word more
pub word_more : (first : ℕ) (words : List ℕ) (i slot : ℕ) → first_words first words (i + 1) slot ≡ differ (word_at (first + i) (get_or words i 0) slot) (first_words first words i slot)
word_more first words i slot = word_by first words i slot (slot / 64 == first + i) refl

-- a word past the bits of the segment
pub word_past : (size first : ℕ) (words : List ℕ) (i slot : ℕ) → slot < size → size / 64 < first + i → first_words first words (i + 1) slot ≡ first_words first words i slot
word_past size first words i slot less past =
    word_more first words i slot ∙ ap (λ (b : Bool). differ (b && word_bit (get_or words i 0) (slot % 64)) (first_words first words i slot)) (by (slot / 64 == first + i) refl)
  where
    by : (q : Bool) → (slot / 64 == first + i) ≡ q → q ≡ false
    by true e = let is : slot / 64 ≡ first + i = eqb-true (slot / 64) (first + i) e in absurd (omega (arith, is, less, past))
    by false e = refl

pub gt_leb : (a b : ℕ) → b < a → nat_le a b ≡ false
gt_leb a b lt = by (nat_le a b) refl
  where
    by : (q : Bool) → nat_le a b ≡ q → q ≡ false
    by true e = absurd (omega (arith, leb-true a b e, lt))
    by false e = refl

pub no_words : (first : ℕ) (words : List ℕ) (slot : ℕ) → first_words first words 0 slot ≡ false
no_words first words slot =
    elim (cases_lt (slot / 64) first) [
      | inl lt ↦ ap (λ (b : Bool). b && (nat_lt (slot / 64) (first + 0) && word_bit (get_or words (slot / 64 - first) 0) (slot % 64))) (gt_leb first (slot / 64) lt)
      | inr le ↦ ap (λ (b : Bool). nat_le first (slot / 64) && (b && word_bit (get_or words (slot / 64 - first) 0) (slot % 64))) (le-ltb (slot / 64) (first + 0) (omega (arith, le))) ∙ and_false (nat_le first (slot / 64))
    ]

pub none_bit : (k : ℕ) → word_bit 0 k ≡ false
none_bit k = ap (λ (n : ℕ). n % 2 == 1) (zero-div (2 ^ k))

both_none : (a l w : Bool) → w ≡ false → (a && w) ≡ (a && (l && w))
both_none true true w e = refl
both_none true false w e = e
both_none false l w e = refl

pub all_words : (d : Delta) (i slot : ℕ) → length d.words ≤ i → delta_bit d slot ≡ first_words d.first d.words i slot
all_words d i slot le =
    elim (cases_lt (slot / 64) (d.first + i)) [
      | inl lt ↦ ap (λ (b : Bool). nat_le d.first (slot / 64) && (b && word_bit (get_or d.words (slot / 64 - d.first) 0) (slot % 64))) (sym (lt-ltb (slot / 64) (d.first + i) lt))
      | inr ge ↦
          let none : word_bit (get_or d.words (slot / 64 - d.first) 0) (slot % 64) ≡ false = ap (λ (w : ℕ). word_bit w (slot % 64)) (get_or_past d.words (slot / 64 - d.first) 0 (omega (arith, le, ge))) ∙ none_bit (slot % 64) in
          both_none (nat_le d.first (slot / 64)) (nat_lt (slot / 64) (d.first + i)) (word_bit (get_or d.words (slot / 64 - d.first) 0) (slot % 64)) none
    ]
