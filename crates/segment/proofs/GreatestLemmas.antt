-- The greatest slot with a key among keyed slots that ascend.
use Rattle.std.proofs.Common.{◌≡◌, ◌≢◌, inl, inr, ℕ, ◌+◌, ◌-◌, ◌*◌, ◌<◌, ◌≤◌, Bool, true, false, List, [], ◌==◌, cond, length, Option, Some, None, refl, arith, sym, ◌∙◌, subst, get_or, ltb, ltb-true, ltb-false}
use Rattle.std.specs.List.{All, Contains}
use Rattle.std.specs.List.Sorted.{IsNonDecreasingBy, IsPartitionPoint}
use Rattle.std.proofs.lemmas.Bool.{cases_lt, eq-eqb, eqb-true, true≢false}
use Rattle.std.proofs.lemmas.List.{get_or_default}
use Rattle.std.proofs.lemmas.List.Elements.{All-nil, Contains-get_or}
use Rattle.segment.specs.declared.slot.KeyedSlot.{KeyedSlot}
use Rattle.segment.specs.Slots.{rank, IsGreatest}

pub none_among : (key bound : ℕ) → IsGreatest [] key bound None
none_among key bound = All-nil (λ (x : KeyedSlot). x.key ≡ key → bound ≤ x.slot)

-- the numbers of the slots before a place are below that of the key and the bound, and those from there on aren't
abbrev pub Parts : List KeyedSlot → ℕ → ℕ → ℕ → Type 0
Parts slots key bound at = IsPartitionPoint (λ (x : KeyedSlot). ltb (rank x) (key * 4294967296 + bound) ≡ true) (λ (x : KeyedSlot). ltb (rank x) (key * 4294967296 + bound) ≡ false) slots at

-- one from the place on that has the key isn't below the bound
beyond : (slots : List KeyedSlot) (key bound at : ℕ) → Parts slots key bound at → (k : ℕ) (d : KeyedSlot) → at ≤ k → k < length slots → (get_or slots k d).key ≡ key → bound ≤ (get_or slots k d).slot
beyond slots key bound at parts k d ge lt e = let n = ltb-false (rank (get_or slots k d)) (key * 4294967296 + bound) (parts.1 k d ge lt) in omega (arith, n, e)

-- all are from the place on
pub none_before : (slots : List KeyedSlot) (key bound at : ℕ) → Parts slots key bound at → at ≡ 0 → IsGreatest slots key bound None
none_before slots key bound at parts z = λ k d lt e. beyond slots key bound at parts k d (omega (arith, z)) lt e

same_key : (key other slot bound mine : ℕ) → slot < 4294967296 → bound < 4294967296 → other * 4294967296 + slot < key * 4294967296 + bound → key * 4294967296 + mine ≤ other * 4294967296 + slot → other ≡ key
same_key key other slot bound mine s b h l =
    let le : other ≤ key = omega (arith, b, h) in
    let ge : key ≤ other = omega (arith, s, l) in
    omega (arith, le, ge)

below : (slots : List KeyedSlot) (key bound at : ℕ) → Parts slots key bound at → (k : ℕ) (d : KeyedSlot) → k < at → rank (get_or slots k d) < key * 4294967296 + bound
below slots key bound at parts k d lt = ltb-true (rank (get_or slots k d)) (key * 4294967296 + bound) (parts.0 k d (omega arith) lt)

-- the last of those before the place has another key
other_before : (slots : List KeyedSlot) (key bound at : ℕ) (keyed : KeyedSlot) → IsNonDecreasingBy rank slots → bound < 4294967296 → Parts slots key bound at → at ≤ length slots → get_or slots (at - 1) keyed ≡ keyed → keyed.slot < 4294967296 → keyed.key ≢ key → IsGreatest slots key bound None
other_before slots key bound at keyed up b parts w last s ne = λ k d lt e. elim (cases_lt k at) [
  | inl l ↦
      let n = up k (at - 1) keyed (omega (arith, l)) (omega (arith, l, w)) in
      let m = subst (λ (x : KeyedSlot). rank x < key * 4294967296 + bound) last (below slots key bound at parts (at - 1) keyed (omega (arith, l))) in
      let o : rank (get_or slots k keyed) ≤ rank keyed = subst (λ (x : KeyedSlot). rank (get_or slots k keyed) ≤ rank x) last n in
      let q : (get_or slots k keyed).key ≡ key = subst (λ (x : KeyedSlot). x.key ≡ key) (get_or_default slots k d keyed lt) e in
      absurd (ne (same_key key keyed.key keyed.slot bound (get_or slots k keyed).slot s b m (omega (arith, o, q))))
  | inr g ↦ beyond slots key bound at parts k d g lt e
]

-- the last of those before the place has the key
key_before : (slots : List KeyedSlot) (key bound at : ℕ) (keyed : KeyedSlot) → IsNonDecreasingBy rank slots → Parts slots key bound at → 0 < at → at ≤ length slots → get_or slots (at - 1) keyed ≡ keyed → keyed.key ≡ key → IsGreatest slots key bound (Some keyed.slot)
key_before slots key bound at keyed up parts some w last e = (slot_below, (contains, all))
  where
    rank_below : rank keyed < key * 4294967296 + bound
    rank_below = subst (λ (x : KeyedSlot). rank x < key * 4294967296 + bound) last (below slots key bound at parts (at - 1) keyed (omega (arith, some)))

    slot_below : keyed.slot < bound
    slot_below = omega (arith, rank_below, e)

    contains : Contains slots (record { key = key; slot = keyed.slot })
    contains = subst (λ (k : ℕ). Contains slots (record { key = k; slot = keyed.slot })) e (subst (Contains slots) last (Contains-get_or slots (at - 1) keyed (omega (arith, some, w))))

    all : All (λ (x : KeyedSlot). x.key ≡ key → x.slot < bound → x.slot ≤ keyed.slot) slots
    all k d lt q l = elim (cases_lt k at) [
      | inl b ↦
          let n = up k (at - 1) d (omega (arith, b)) (omega (arith, some, w)) in
          let same : get_or slots (at - 1) d ≡ keyed = get_or_default slots (at - 1) d keyed (omega (arith, some, w)) ∙ last in
          let o : rank (get_or slots k d) ≤ rank keyed = subst (λ (x : KeyedSlot). rank (get_or slots k d) ≤ rank x) same n in
          omega (arith, o, q, e)
      | inr g ↦ let n = beyond slots key bound at parts k d g lt q in absurd (omega (arith, n, l))
    ]

pub greatest_is : (slots : List KeyedSlot) (key bound at : ℕ) (keyed : KeyedSlot) (result : Option ℕ) → IsNonDecreasingBy rank slots → bound < 4294967296 → Parts slots key bound at → 0 < at → at ≤ length slots → get_or slots (at - 1) keyed ≡ keyed → keyed.slot < 4294967296 → result ≡ cond (keyed.key == key) (Some keyed.slot) None → IsGreatest slots key bound result
greatest_is slots key bound at keyed result up b parts some w last s e = subst (IsGreatest slots key bound) (sym e) (by (keyed.key == key) refl)
  where
    by : (q : Bool) → (keyed.key == key) ≡ q → IsGreatest slots key bound (cond q (Some keyed.slot) None)
    by true q = key_before slots key bound at keyed up parts some w last (eqb-true keyed.key key q)
    by false q = other_before slots key bound at keyed up b parts w last s (λ same. true≢false (sym (eq-eqb keyed.key key same) ∙ q))
