-- The words of a delta, place by place.
use Rattle.std.proofs.Common.{◌≡◌, ℕ, zero, suc, ◌+◌, ◌*◌, ◌/◌, ◌%◌, ◌^◌, ◌<◌, ◌≤◌, ◌==◌, ◌&&◌, eqb, Bool, true, false, List, [], ◌∷◌, ◌++◌, length, take, get_or, set, bit_xor, refl, sym, ap, ap₂, ◌∙◌, subst, ⊎_elim, arith, ext_get_or, get_or-set_same, get_or-set_other, length-set}
use Rattle.std.specs.List.{All}
use Rattle.std.proofs.lemmas.Bool.{cases_lt, cases_eq, eq-eqb, ne_eqb, eqb-false}
use Rattle.std.proofs.lemmas.List.{get_or_past, take_more, length-take-le, get_or-take}
use Rattle.std.proofs.lemmas.List.FromFn.{length-map-range_with_len, get_or-map-range_with_len}
use Rattle.std.proofs.lemmas.Nat.Bits.{bit_at-pow_same, bit_at-pow_other}
use Rattle.plain_bits.specs.Truth.{bit_of, differ, IsClearFrom}
use Rattle.plain_bits.specs.Word.{is_set, word_bit, FitsAt}
use Rattle.plain_bits.specs.Gate.{xor_acts}
use Rattle.commit_history.specs.declared.delta.DeltaWord.{DeltaWord}
use Rattle.commit_history.specs.Sparse.{is_flipped, bit_in, values_of, IsWithin}
use Rattle.commit_history.proofs.Exclusive.{differ_comm, differ_assoc, differ_false, differ_front}

pub length-values_of : (len : ℕ) (words : List DeltaWord) → length (values_of len words) ≡ len
length-values_of len words = length-map-range_with_len (bit_in words) 0 len

pub bit_in-push : (words : List DeltaWord) (w : DeltaWord) (place : ℕ) → bit_in (words ++ w ∷ []) place ≡ differ (word_bit w.at w.word place) (bit_in words place)
bit_in-push [] w place = refl
bit_in-push (v ∷ vs) w place =
    ap (differ (word_bit v.at v.word place)) (bit_in-push vs w place) ∙ differ_front (word_bit v.at v.word place) (word_bit w.at w.word place) (bit_in vs place)

pub here : (at q : ℕ) (b : Bool) → q ≡ at → (q == at && b) ≡ b
here at q b e = ap (λ (t : Bool). t && b) (eq-eqb q at e)

pub elsewhere : (at q : ℕ) (b : Bool) → (q ≡ at → ⊥) → (q == at && b) ≡ false
elsewhere at q b ne = ap (λ (t : Bool). t && b) (ne_eqb q at ne)

-- a word has no place past a length in which it fits
word_past : (len : ℕ) (w : DeltaWord) (place : ℕ) → IsWithin len w → len ≤ place → word_bit w.at w.word place ≡ false
word_past len w place fits past =
    ⊎_elim (λ (e : place / 64 ≡ w.at). here w.at (place / 64) (is_set w.word (place % 64)) e ∙ by (is_set w.word (place % 64)) refl e)
    (λ (ne : place / 64 ≡ w.at → ⊥). elsewhere w.at (place / 64) (is_set w.word (place % 64)) ne)
    (cases_eq (place / 64) w.at)
  where
    by : (b : Bool) → is_set w.word (place % 64) ≡ b → place / 64 ≡ w.at → b ≡ false
    by false is e = refl
    by true is e = let k = fits.fits (place % 64) (omega arith) is in absurd (omega (arith, k, e, past))

pub all_past : (len : ℕ) (words : List DeltaWord) (place : ℕ) → All (IsWithin len) words → len ≤ place → bit_in words place ≡ false
all_past len [] place all past = refl
all_past len (w ∷ ws) place all past =
    ap₂ differ (word_past len w place (all zero w (omega arith)) past) (all_past len ws place (λ n d lt. all (suc n) d (omega (arith, lt))) past)

-- the list that the words stand for has their bits
pub bit-values_of : (len : ℕ) (words : List DeltaWord) (place : ℕ) → All (IsWithin len) words → bit_of (values_of len words) place ≡ bit_in words place
bit-values_of len words place all =
    ⊎_elim (λ (low : place < len). get_or-map-range_with_len (bit_in words) 0 len place place false low (omega arith))
    (λ (past : len ≤ place). let n = length-values_of len words in get_or_past (values_of len words) place false (omega (arith, n, past)) ∙ sym (all_past len words place all past))
    (cases_lt place len)

-- words with the bits of a list that are true in a front alone stand for that front
pub stands_front : (words : List DeltaWord) (bits : List Bool) (len : ℕ) → len ≤ length bits → ((place : ℕ) → bit_in words place ≡ bit_of bits place) → values_of len words ≡ take len bits
stands_front words bits len h same =
    let n = length-values_of len words in
    let m = length-take-le len bits h in
    ext_get_or false (values_of len words) (take len bits) (n ∙ sym m) (λ k lt.
    get_or-map-range_with_len (bit_in words) 0 len k k false (omega (arith, n, lt)) (omega arith) ∙ same k ∙ sym (get_or-take len bits k false (omega (arith, n, lt))))

-- one word has changed
bit_in-set : (words : List DeltaWord) (i at new bit : ℕ) (w : DeltaWord) (place : ℕ) → i < length words → get_or words i w ≡ w → w.at ≡ at
    → ((r : ℕ) → is_set new r ≡ differ (is_set w.word r) (is_set bit r))
    → bit_in (set words i (record { at = w.at; word = new })) place ≡ differ (word_bit at bit place) (bit_in words place)
bit_in-set [] i at new bit w place lt is same xor = absurd (omega (arith, lt))
bit_in-set (v ∷ vs) zero at new bit w place lt is same xor =
    ap (λ (b : Bool). differ b (bit_in vs place)) (changed v is)
    ∙ sym (differ_assoc (word_bit at bit place) (word_bit v.at v.word place) (bit_in vs place))
  where
    changed : (v : DeltaWord) → v ≡ w → word_bit w.at new place ≡ differ (word_bit at bit place) (word_bit v.at v.word place)
    changed v e =
        ⊎_elim (λ (h : place / 64 ≡ at).
        here w.at (place / 64) (is_set new (place % 64)) (h ∙ sym same)
        ∙ xor (place % 64)
        ∙ differ_comm (is_set w.word (place % 64)) (is_set bit (place % 64))
        ∙ ap₂ differ (sym (here at (place / 64) (is_set bit (place % 64)) h)) (sym (ap (λ (x : DeltaWord). word_bit x.at x.word place) e ∙ here w.at (place / 64) (is_set w.word (place % 64)) (h ∙ sym same))))
        (λ (ne : place / 64 ≡ at → ⊥).
        let away : place / 64 ≡ w.at → ⊥ = λ (h : place / 64 ≡ w.at). ne (h ∙ same) in
        elsewhere w.at (place / 64) (is_set new (place % 64)) away
        ∙ ap₂ differ (sym (elsewhere at (place / 64) (is_set bit (place % 64)) ne)) (sym (ap (λ (x : DeltaWord). word_bit x.at x.word place) e ∙ elsewhere w.at (place / 64) (is_set w.word (place % 64)) away)))
        (cases_eq (place / 64) at)
bit_in-set (v ∷ vs) (suc i) at new bit w place lt is same xor =
    ap (differ (word_bit v.at v.word place)) (bit_in-set vs i at new bit w place (omega (arith, lt)) is same xor)
    ∙ differ_front (word_bit v.at v.word place) (word_bit at bit place) (bit_in vs place)

-- a word that has changed as the exclusive or
pub bit_in-changed : (words : List DeltaWord) (i at bit : ℕ) (w : DeltaWord) (place : ℕ) → i < length words → get_or words i w ≡ w → w.at ≡ at
    → bit_in (set words i (record { at = w.at; word = bit_xor w.word bit })) place ≡ differ (word_bit at bit place) (bit_in words place)
bit_in-changed words i at bit w place lt is same = bit_in-set words i at (bit_xor w.word bit) bit w place lt is same (λ r. xor_acts.bit w.word bit r)

pub within_changed : (len : ℕ) (words : List DeltaWord) (i at bit : ℕ) (w : DeltaWord) → i < length words → get_or words i w ≡ w → w.at ≡ at → FitsAt at bit len
    → All (IsWithin len) words → All (IsWithin len) (set words i (record { at = w.at; word = bit_xor w.word bit }))
within_changed len words i at bit w lt is same fits all k d below =
    let new : DeltaWord = record { at = w.at; word = bit_xor w.word bit } in
    let n = length-set words i new in
    let old : IsWithin len w = subst (IsWithin len) is (all i w lt) in
    ⊎_elim (λ (e : k ≡ i).
    subst (IsWithin len) (sym (ap (λ j. get_or (set words i new) j d) e ∙ get_or-set_same words i new d lt))
    (record { within = old.within; fits = λ r low h. one r low old (is_set w.word r) refl (sym (xor_acts.bit w.word bit r) ∙ h) }))
    (λ (ne : k ≡ i → ⊥). subst (IsWithin len) (sym (get_or-set_other words i k new d ne)) (all k d (omega (arith, n, below))))
    (cases_eq k i)
  where
    one : (r : ℕ) → r < 64 → IsWithin len w → (b : Bool) → is_set w.word r ≡ b → differ (is_set w.word r) (is_set bit r) ≡ true → 64 * w.at + r < len
    one r low old true is h = old.fits r low is
    one r low old false is h =
        let both : is_set bit r ≡ true = sym (ap (λ (b : Bool). differ b (is_set bit r)) is) ∙ h in
        let k = fits r low both in
        omega (arith, k, same)

not_true : false ≡ true → ⊥
not_true e = eqb-false 0 0 (sym e) refl

-- the bit of one place
pow_set : (k r : ℕ) → is_set (2 ^ k) r ≡ (k == r)
pow_set k r =
    ⊎_elim (λ (e : k ≡ r). ap (λ j. is_set (2 ^ k) j) (sym e) ∙ ap (λ n. eqb n 1) (bit_at-pow_same k) ∙ sym (eq-eqb k r e))
    (λ (ne : k ≡ r → ⊥). ap (λ n. eqb n 1) (bit_at-pow_other k r (λ e. ne (sym e))) ∙ sym (ne_eqb k r ne))
    (cases_eq k r)

pub place_bit : (place word k : ℕ) → word ≡ 2 ^ (place % 64) → word_bit (place / 64) word k ≡ (place == k)
place_bit place word k e =
    ⊎_elim (λ (h : k / 64 ≡ place / 64).
    here (place / 64) (k / 64) (is_set word (k % 64)) h ∙ ap (λ n. is_set n (k % 64)) e ∙ pow_set (place % 64) (k % 64)
    ∙ ⊎_elim (λ (s : place % 64 ≡ k % 64). eq-eqb (place % 64) (k % 64) s ∙ sym (eq-eqb place k (omega (arith, h, s))))
    (λ (ne : place % 64 ≡ k % 64 → ⊥). ne_eqb (place % 64) (k % 64) ne ∙ sym (ne_eqb place k (λ (s : place ≡ k). ne (ap (λ n. n % 64) s))))
    (cases_eq (place % 64) (k % 64)))
    (λ (ne : k / 64 ≡ place / 64 → ⊥).
    elsewhere (place / 64) (k / 64) (is_set word (k % 64)) ne ∙ sym (ne_eqb place k (λ (s : place ≡ k). ne (sym (ap (λ n. n / 64) s)))))
    (cases_eq (k / 64) (place / 64))

pub place_fits : (place word len : ℕ) → word ≡ 2 ^ (place % 64) → place < len → FitsAt (place / 64) word len
place_fits place word len e lt r low h =
    ⊎_elim (λ (s : place % 64 ≡ r). omega (arith, s, lt))
    (λ (ne : place % 64 ≡ r → ⊥). absurd (not_true (sym (ne_eqb (place % 64) r ne) ∙ sym (pow_set (place % 64) r) ∙ ap (λ n. is_set n r) (sym e) ∙ h)))
    (cases_eq (place % 64) r)

-- one place more of those that are given
pub flipped-push : (places : List ℕ) (place k : ℕ) → is_flipped (places ++ place ∷ []) k ≡ differ (place == k) (is_flipped places k)
flipped-push [] place k = refl
flipped-push (p ∷ ps) place k = ap (differ (p == k)) (flipped-push ps place k) ∙ differ_front (p == k) (place == k) (is_flipped ps k)

-- one word more of those that have changed a bitmap
pub word_more : (words : List DeltaWord) (i : ℕ) (d : DeltaWord) (place : ℕ) (b old new : Bool) → i < length words
    → new ≡ differ (word_bit (get_or words i d).at (get_or words i d).word place) old → old ≡ differ (bit_in (take i words) place) b → new ≡ differ (bit_in (take (i + 1) words) place) b
word_more words i d place b old new lt changed before =
    let w = get_or words i d in
    changed
    ∙ ap (λ (x : Bool). differ (word_bit w.at w.word place) x) before
    ∙ differ_assoc (word_bit w.at w.word place) (bit_in (take i words) place) b
    ∙ ap (λ (x : Bool). differ x b) (sym (bit_in-push (take i words) w place) ∙ ap (λ ws. bit_in ws place) (sym (take_more words i d lt)))

-- one place more
pub place_more : (places : List ℕ) (i d k : ℕ) (old new : Bool) → i < length places
    → new ≡ differ (get_or places i d == k) old → old ≡ is_flipped (take i places) k → new ≡ is_flipped (take (i + 1) places) k
place_more places i d k old new lt changed before =
    changed ∙ ap (λ (x : Bool). differ (get_or places i d == k) x) before ∙ sym (flipped-push (take i places) (get_or places i d) k) ∙ ap (λ ps. is_flipped ps k) (sym (take_more places i d lt))

-- words that are within a list are within a longer one
pub within_longer : (len m : ℕ) (words : List DeltaWord) → len ≤ m → All (IsWithin len) words → All (IsWithin m) words
within_longer len m words longer all k d lt =
    let a = all k d lt in
    record { within = let w = a.within in omega (arith, w, longer); fits = λ r low h. let f = a.fits r low h in omega (arith, f, longer) }

-- the words of a bitmap below a place, and with one more
pub below_next : (words new : List DeltaWord) (bits : List Bool) (at word : ℕ) → ((place : ℕ) → place < 64 * at → bit_in words place ≡ bit_of bits place) → ((place : ℕ) → 64 * at ≤ place → bit_in words place ≡ false)
    → ((place : ℕ) → place < 64 → is_set word place ≡ bit_of bits (64 * at + place)) → ((place : ℕ) → bit_in new place ≡ differ (word_bit at word place) (bit_in words place))
    → (place : ℕ) → place < 64 * (at + 1) → bit_in new place ≡ bit_of bits place
below_next words new bits at word below above has next place lt =
    next place ∙ ⊎_elim (λ (low : place < 64 * at).
    let away : place / 64 ≡ at → ⊥ = λ (e : place / 64 ≡ at). absurd (omega (arith, e, low)) in
    ap₂ differ (elsewhere at (place / 64) (is_set word (place % 64)) away) (below place low))
    (λ (high : 64 * at ≤ place).
    let e : place / 64 ≡ at = omega (arith, high, lt) in
    let whole : 64 * at + place % 64 ≡ place = omega (arith, e) in
    ap₂ differ (here at (place / 64) (is_set word (place % 64)) e ∙ has (place % 64) (omega arith) ∙ ap (bit_of bits) whole) (above place high) ∙ differ_false (bit_of bits place))
    (cases_lt place (64 * at))

pub above_next : (words new : List DeltaWord) (at word : ℕ) → ((place : ℕ) → 64 * at ≤ place → bit_in words place ≡ false) → ((place : ℕ) → bit_in new place ≡ differ (word_bit at word place) (bit_in words place))
    → (place : ℕ) → 64 * (at + 1) ≤ place → bit_in new place ≡ false
above_next words new at word above next place high =
    let away : place / 64 ≡ at → ⊥ = λ (e : place / 64 ≡ at). absurd (omega (arith, e, high)) in
    next place ∙ ap₂ differ (elsewhere at (place / 64) (is_set word (place % 64)) away) (above place (omega (arith, high)))

-- a word of a bitmap is within a length from which on no place is true
pub word_fits : (bits : List Bool) (at word len : ℕ) → ((place : ℕ) → place < 64 → is_set word place ≡ bit_of bits (64 * at + place)) → IsClearFrom bits len → FitsAt at word len
word_fits bits at word len has clear r low h =
    ⊎_elim (λ (lt : 64 * at + r < len). lt)
    (λ (past : len ≤ 64 * at + r). absurd (not_true (sym (clear (64 * at + r) past) ∙ sym (has r low) ∙ h)))
    (cases_lt (64 * at + r) len)
