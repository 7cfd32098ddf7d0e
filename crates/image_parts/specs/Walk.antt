-- What is kept along a walk over the deltas of a branch, for the private functions.
use Rattle.std.specs.Prelude.{◌≡◌, ℕ, zero, suc, ◌+◌, ◌-◌, ◌/◌, ◌%◌, ◌<◌, ◌≤◌, ◌⊎◌, ◌==◌, ◌&&◌, nat_lt, nat_le, cond, Bool, true, false, List, [], ◌∷◌, length, map}
use Rattle.std.specs.List.{flat_map}
use Rattle.std.proofs.Common.{get_or}
use Rattle.db_value.specs.declared.record.Record.{Record}
use Rattle.image_text.specs.declared.image.RowPart.{RowPart}
use Rattle.image_text.specs.declared.image.SegmentPart.{SegmentPart}
use Rattle.image_parts.specs.declared.keys.Walk.{Walk}
use Rattle.image_parts.specs.Whole.{word_bit, no_delta, delta_bit, differ, bit_before, row_of}

-- the number that a truth value counts as
abbrev pub weigh : Bool → ℕ
weigh true = 1
weigh false = 0

-- how often a key stands among those whose bits are set
abbrev pub times : ℕ → List ℕ → List Bool → ℕ
times k [] bits = 0
times k (x ∷ xs) [] = 0
times k (x ∷ xs) (b ∷ bits) = weigh (b && (x == k)) + times k xs bits

-- how many bits are set
abbrev pub live : List Bool → ℕ
live [] = 0
live (b ∷ bits) = weigh b + live bits

-- how many set keys stand among the set keys after them again
abbrev pub again : List ℕ → List Bool → ℕ
again [] bits = 0
again (x ∷ xs) [] = 0
again (x ∷ xs) (b ∷ bits) = weigh (b && nat_lt 0 (times x xs bits)) + again xs bits

-- each number is below how many there are
abbrev pub AreSmall : List ℕ → Type 0
AreSmall numbers = (place : ℕ) → place < length numbers → get_or numbers place 0 < length numbers

-- the counts of a walk, one for each number, are those of its bits
pub record Agrees (numbers : List ℕ) (w : Walk) : Type 0 where
  pub small : AreSmall numbers
  pub len : length w.bits.items ≡ length numbers
  pub wide : length w.counts.items ≡ length numbers
  pub counts : (number : ℕ) → get_or w.counts.items number 0 ≡ times number numbers w.bits.items
  pub live : w.live ≡ live w.bits.items
  pub again : w.again ≡ again numbers w.bits.items

-- of the bits from base on, those for which a rule holds are changed, and no other one
pub record Flips (base size : ℕ) (p : ℕ → Bool) (old new : List Bool) : Type 0 where
  pub inside : (slot : ℕ) → slot < size → get_or new (base + slot) false ≡ differ (p slot) (get_or old (base + slot) false)
  pub outside : (place : ℕ) → (place < base) ⊎ (base + size ≤ place) → get_or new place false ≡ get_or old place false

-- the slots of the word with this number whose bits are set
abbrev pub word_at : ℕ → ℕ → ℕ → Bool
word_at at word slot = (slot / 64 == at) && word_bit word (slot % 64)

-- the slots that a row changes at a position
abbrev pub turned : RowPart → ℕ → ℕ → Bool
turned row n slot = nat_le row.from n && delta_bit (get_or row.deltas (n - row.from) no_delta) slot

-- no records and no rows
abbrev pub no_segment : SegmentPart
no_segment = record { head = 0; records = []; rows = [] }

-- how many records stand before those of a segment
abbrev pub base_of : List SegmentPart → ℕ → ℕ
base_of [] i = 0
base_of (s ∷ ss) zero = 0
base_of (s ∷ ss) (suc i) = length s.records + base_of ss i

-- the keys of a segment
abbrev pub own_keys : SegmentPart → List ℕ
own_keys s = map (λ (x : Record). x.key) s.records

-- the keys of all records, segment by segment
abbrev pub all_keys : List SegmentPart → List ℕ
all_keys ss = flat_map own_keys ss

-- the place of the first key that is equal to this one
abbrev pub first_of : List ℕ → ℕ → ℕ
first_of [] k = 0
first_of (x ∷ xs) k = cond (x == k) 0 (suc (first_of xs k))

-- the bits are those of a branch before a position
abbrev pub Shows : ℕ → List SegmentPart → ℕ → List Bool → Type 0
Shows b ss n bits = (i : ℕ) → i < length ss → (slot : ℕ) → slot < length (get_or ss i no_segment).records
    → get_or bits (base_of ss i + slot) false ≡ bit_before (row_of b (get_or ss i no_segment).rows) n slot
