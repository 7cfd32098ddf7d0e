-- The rules over the whole of an image, and what bytes are an image in a format.
use Rattle.std.specs.Prelude.{◌≡◌, ℕ, suc, ◌-◌, ◌/◌, ◌%◌, ◌^◌, ◌==◌, ◌&&◌, ◌||◌, not, nat_le, cond, Bool, true, false, List, [], ◌∷◌, length, take, set, replicate, Result, Ok, Err}
use Rattle.std.specs.List.{flat_map, list_any, list_all, range_with_len}
use Rattle.std.proofs.Common.{get_or}
use Rattle.db_value.specs.declared.record.Record.{Record}
use Rattle.image_text.specs.declared.image.Format.{Format}
use Rattle.image_text.specs.declared.image.BranchPart.{BranchPart}
use Rattle.image_text.specs.declared.image.Delta.{Delta}
use Rattle.image_text.specs.declared.image.RowPart.{RowPart}
use Rattle.image_text.specs.declared.image.SegmentPart.{SegmentPart}
use Rattle.image_text.specs.declared.image.Image.{Image}
use Rattle.image_text.specs.declared.image.Stop.{Stop}
use Rattle.image_text.specs.declared.image.Stop.TheVariants as stops
use Rattle.image_parts.specs.declared.decoding.ImageStop.{ImageStop}
use Rattle.image_parts.specs.declared.decoding.ImageStop.TheVariants.{NotAnImage, Memory}
use Rattle.image_text.specs.Reading.{◌>>=◌, last_of, is_there, no_row, parts_at}

-- the version from which each branch was made was made
abbrev pub are_made : List ℕ → List BranchPart → Bool
are_made lasts bs = list_all (λ b. is_there lasts b.origin) bs

-- ---- heads

-- a row of the branch is there
abbrev pub has_row : List RowPart → ℕ → Bool
has_row rows b = list_any (λ r. r.branch == b) rows

-- the branch that a segment is the head of has a row in it
abbrev pub is_kept : SegmentPart → Bool
is_kept s = s.head == 0 || has_row s.rows (s.head - 1)

-- one more, where no more than 2 are counted
abbrev pub one_more : ℕ → ℕ
one_more c = cond (c == 0) 1 2

-- how many segments each branch is the head of, counted onto numbers
unfoldable pub counts_from : List ℕ → List SegmentPart → List ℕ
counts_from counts [] = counts
counts_from counts (s ∷ ss) = counts_from (cond (s.head == 0) counts (set counts (s.head - 1) (one_more (get_or counts (s.head - 1) 0)))) ss

-- each branch is the head of exactly one segment, and has a row in it
abbrev pub heads_once : ℕ → List SegmentPart → Bool
heads_once branches ss = list_all is_kept ss && list_all (λ c. c == 1) (counts_from (replicate branches 0) ss)

-- ---- keys

-- whether a bit of a word is set
abbrev pub word_bit : ℕ → ℕ → Bool
word_bit word k = (word / 2 ^ k) % 2 == 1

-- a delta without words
abbrev pub no_delta : Delta
no_delta = record { first = 0; words = [] }

-- the bit of a slot in a delta
abbrev pub delta_bit : Delta → ℕ → Bool
delta_bit d slot = nat_le d.first (slot / 64) && word_bit (get_or d.words (slot / 64 - d.first) 0) (slot % 64)

-- exactly one of the two is true
abbrev pub differ : Bool → Bool → Bool
differ true b = not b
differ false b = b

-- what deltas together make of a bit that was not set
abbrev pub combined : List Delta → ℕ → Bool
combined [] slot = false
combined (d ∷ ds) slot = differ (delta_bit d slot) (combined ds slot)

-- the bit of a slot before a position
abbrev pub bit_before : RowPart → ℕ → ℕ → Bool
bit_before row n slot = combined (take (n - row.from) row.deltas) slot

-- the bit of a slot at a position: before the row begins there is none
abbrev pub bit : RowPart → ℕ → ℕ → Bool
bit row n slot = bit_before row (suc n) slot

-- where the row of a branch stands, or the number of rows
abbrev pub lane_of : ℕ → List RowPart → ℕ
lane_of b [] = 0
lane_of b (r ∷ rs) = cond (r.branch == b) 0 (suc (lane_of b rs))

-- the row of a branch in a segment, and a row without deltas if there is none
abbrev pub row_of : ℕ → List RowPart → RowPart
row_of b rows = get_or rows (lane_of b rows) no_row

-- the keys of the records from a slot on whose bits are set
abbrev pub keys_from : ℕ → List Record → (ℕ → Bool) → List ℕ
keys_from slot [] p = []
keys_from slot (x ∷ xs) p = cond (p slot) (x.key ∷ keys_from (suc slot) xs p) (keys_from (suc slot) xs p)

-- the keys of the records of a segment that a branch has at a position
abbrev pub keys_in : ℕ → ℕ → SegmentPart → List ℕ
keys_in b n s = keys_from 0 s.records (bit (row_of b s.rows) n)

-- the keys of all records that a branch has at a position
abbrev pub keys_at : ℕ → ℕ → List SegmentPart → List ℕ
keys_at b n ss = flat_map (keys_in b n) ss

-- no key stands twice
abbrev pub are_distinct : List ℕ → Bool
are_distinct [] = true
are_distinct (k ∷ ks) = not (list_any (λ x. x == k) ks) && are_distinct ks

-- the keys are distinct, and at most 262,144
abbrev pub is_table : List ℕ → Bool
is_table keys = are_distinct keys && nat_le (length keys) 262144

-- at each of the positions up to the last one of a branch its records have distinct keys, at most 262,144
unfoldable pub is_keyed : List SegmentPart → ℕ → ℕ → Bool
is_keyed ss last b = list_all (λ n. is_table (keys_at b n ss)) (range_with_len 0 (suc last))

-- so it is in each branch
abbrev pub keys_once : List ℕ → List SegmentPart → Bool
keys_once lasts ss = list_all (λ b. is_keyed ss (last_of lasts b) b) (range_with_len 0 (length lasts))

-- ---- the whole

-- the rules over the whole hold
unfoldable pub is_whole : Image → List ℕ → Bool
is_whole i lasts = are_made lasts i.branches && list_all (λ ss. heads_once (length lasts) ss && keys_once lasts ss) i.segments

-- the image that bytes are; or how many bytes are left at the first fault, none at a fault of the whole
unfoldable pub image_at : Format → List ℕ → Result Image ℕ
image_at format bytes = do
  parts ← parts_at format bytes
  cond (is_whole parts.0 parts.1) (Ok parts.0) (Err 0)

-- a stop, and the place of its fault
abbrev pub stop_of : ℕ → Stop → ImageStop
stop_of len stops.Memory = Memory
stop_of len (stops.Fault left) = NotAnImage (len - left)

-- what a reader of images gave is that image, or the place of the fault, unless memory ran out
abbrev pub Decodes : Format → List ℕ → Result Image ImageStop → Type 0
Decodes format bytes (Ok i) = image_at format bytes ≡ Ok i
Decodes format bytes (Err (NotAnImage at)) = (left : ℕ) × (image_at format bytes ≡ Err left) × (at ≡ length bytes - left)
Decodes format bytes (Err Memory) = Unit {0}
