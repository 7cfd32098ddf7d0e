-- Bits after some were cleared or set.
use Rattle.std.proofs.Common.{◌≡◌, ◌≢◌, ◌⊎◌, inl, inr, ℕ, zero, suc, ◌+◌, ◌-◌, ◌<◌, ◌≤◌, ◌==◌, ◌&&◌, ◌||◌, not, nat_lt, Bool, true, false, cond, List, [], ◌∷◌, ◌++◌, length, replicate, take, get_or, set, Option, Some, None, refl, arith, ap, sym, ◌∙◌}
use Rattle.std.proofs.lemmas.Bool.{cases_eq, cases_lt, lt-ltb, le-ltb}
use Rattle.std.proofs.lemmas.List.{get_or-set_same, get_or-set_other, get_or_past, take_more}
use Rattle.std.specs.Simd.Lanes.{zip2}
use Rattle.plain_bits.specs.Truth.{bit_of, differ, lengthened, pointwise_xor}
use Rattle.hybrid_view.specs.Struck.{struck}

pub struck_append : (xs ys : List (Option (ℕ × ℕ))) (segment slot : ℕ) → struck (xs ++ ys) segment slot ≡ (struck xs segment slot || struck ys segment slot)
struck_append [] ys segment slot = refl
struck_append (None ∷ xs) ys segment slot = struck_append xs ys segment slot
struck_append (Some x ∷ xs) ys segment slot = ap (λ b. (x.0 == segment && x.1 == slot) || b) (struck_append xs ys segment slot) ∙ assoc (x.0 == segment && x.1 == slot) (struck xs segment slot) (struck ys segment slot)
  where
    assoc : (a b c : Bool) → (a || (b || c)) ≡ ((a || b) || c)
    assoc true b c = refl
    assoc false b c = refl

-- twice cleared
pub cleared_more : (a s t : Bool) → ((a && not s) && not t) ≡ (a && not (s || t))
cleared_more true true t = refl
cleared_more true false t = refl
cleared_more false s t = refl

pub struck_step : (places : List (Option (ℕ × ℕ))) (i segment slot : ℕ) (d : Option (ℕ × ℕ)) → i < length places
    → struck (take (i + 1) places) segment slot ≡ (struck (take i places) segment slot || struck (get_or places i d ∷ []) segment slot)
struck_step places i segment slot d h = ap (λ os. struck os segment slot) (take_more places i d h) ∙ struck_append (take i places) (get_or places i d ∷ []) segment slot

-- one place more
pub cleared_step : (old before after : List Bool) (places : List (Option (ℕ × ℕ))) (i segment : ℕ) (d : Option (ℕ × ℕ)) → i < length places
    → ((slot : ℕ) → bit_of before slot ≡ (bit_of old slot && not (struck (take i places) segment slot)))
    → ((slot : ℕ) → bit_of after slot ≡ (bit_of before slot && not (struck (get_or places i d ∷ []) segment slot)))
    → (slot : ℕ) → bit_of after slot ≡ (bit_of old slot && not (struck (take (i + 1) places) segment slot))
cleared_step old before after places i segment d h was is slot =
    is slot
    ∙ ap (λ b. b && not (struck (get_or places i d ∷ []) segment slot)) (was slot)
    ∙ cleared_more (bit_of old slot) (struck (take i places) segment slot) (struck (get_or places i d ∷ []) segment slot)
    ∙ ap (λ b. bit_of old slot && not b) (sym (struck_step places i segment slot d h))

-- ---- falses behind

falses : (n s : ℕ) → bit_of (replicate n false) s ≡ false
falses zero s = refl
falses (suc n) zero = refl
falses (suc n) (suc s) = falses n s

pub behind : (bits : List Bool) (k s : ℕ) → bit_of (bits ++ replicate k false) s ≡ bit_of bits s
behind [] k s = falses k s
behind (b ∷ bs) k zero = refl
behind (b ∷ bs) k (suc s) = behind bs k s

pub grown_bit : (bits new : List Bool) (n s : ℕ) → new ≡ lengthened bits n → bit_of new s ≡ bit_of bits s
grown_bit bits new n s e = ap (λ xs. bit_of xs s) e ∙ behind bits (n - length bits) s

pub put_none : (bits new : List Bool) (n from s : ℕ) → new ≡ lengthened bits n → length bits ≤ from → bit_of new s ≡ cond (nat_lt s from) (bit_of bits s) (nat_lt s from)
put_none bits new n from s e h = grown_bit bits new n s e ∙ by (cases_lt s from)
  where
    by : (s < from) ⊎ (from ≤ s) → bit_of bits s ≡ cond (nat_lt s from) (bit_of bits s) (nat_lt s from)
    by (inl l) = sym (ap (λ b. cond b (bit_of bits s) (nat_lt s from)) (lt-ltb s from l))
    by (inr g) = get_or_past bits s false (omega (arith, h, g)) ∙ sym (ap (λ b. cond b (bit_of bits s) b) (le-ltb s from g))

pub put_more : (old bits : List Bool) (from slot : ℕ) → from ≤ slot → slot < length bits → ((s : ℕ) → bit_of bits s ≡ cond (nat_lt s from) (bit_of old s) (nat_lt s slot)) → (s : ℕ) → bit_of (set bits slot true) s ≡ cond (nat_lt s from) (bit_of old s) (nat_lt s (slot + 1))
put_more old bits from slot h l was s = by (cases_eq s slot)
  where
    by : (s ≡ slot) ⊎ (s ≢ slot) → bit_of (set bits slot true) s ≡ cond (nat_lt s from) (bit_of old s) (nat_lt s (slot + 1))
    by (inl e) =
        ap (bit_of (set bits slot true)) e
        ∙ get_or-set_same bits slot true false l
        ∙ sym (ap (cond false (bit_of old s)) (lt-ltb s (slot + 1) (omega (arith, e))))
        ∙ sym (ap (λ b. cond b (bit_of old s) (nat_lt s (slot + 1))) (le-ltb s from (omega (arith, e, h))))
    by (inr n) = get_or-set_other bits slot s true false n ∙ was s ∙ ap (cond (nat_lt s from) (bit_of old s)) (below (cases_lt s slot))
      where
        below : (s < slot) ⊎ (slot ≤ s) → nat_lt s slot ≡ nat_lt s (slot + 1)
        below (inl k) = lt-ltb s slot k ∙ sym (lt-ltb s (slot + 1) (omega (arith, k)))
        below (inr g) = le-ltb s slot g ∙ sym (le-ltb s (slot + 1) (omega (arith, g, n)))

-- ---- where two bitmaps differ

zip_bit : (xs ys : List Bool) (s : ℕ) → length xs ≡ length ys → bit_of (zip2 differ xs ys) s ≡ differ (bit_of xs s) (bit_of ys s)
zip_bit [] [] s e = refl
zip_bit [] (y ∷ ys) s e = absurd (omega (arith, e))
zip_bit (x ∷ xs) [] s e = absurd (omega (arith, e))
zip_bit (x ∷ xs) (y ∷ ys) zero e = refl
zip_bit (x ∷ xs) (y ∷ ys) (suc s) e = zip_bit xs ys s (omega (arith, e))

turned : (a b : Bool) → differ a b ≡ differ b a
turned true true = refl
turned true false = refl
turned false true = refl
turned false false = refl

pub difference_bit : (old new grown d : List Bool) (n s : ℕ) → grown ≡ lengthened old n → length new ≡ length grown → d ≡ pointwise_xor new grown → bit_of d s ≡ differ (bit_of old s) (bit_of new s)
difference_bit old new grown d n s g e is =
    ap (λ xs. bit_of xs s) is ∙ zip_bit new grown s e ∙ turned (bit_of new s) (bit_of grown s) ∙ ap (λ b. differ b (bit_of new s)) (grown_bit old grown n s g)
