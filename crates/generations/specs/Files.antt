-- What the bytes of two files stand for.
use Rattle.std.specs.Prelude.{◌+◌, ◌-◌, ◌^◌, ◌&&◌, ◌||◌, ℕ, Bool, true, false, nat_le, nat_lt, nat_eq, cond, List, [], ◌∷◌, ◌++◌, length, take, drop, Option, Some, None, Result, Ok, Err}
use Rattle.std.specs.Int.{w64, from_le_bytes}
use Rattle.std.specs.Cmp.Lexicographic.{pointwise}
use Rattle.sha2.specs.Sha256.{sha256}
use Rattle.db_value.specs.declared.entry.Entry.{Entry}
use Rattle.db_store.specs.State.{State}
use Rattle.entry_codec.specs.Grammar.{entries_in}
pub use Rattle.entry_codec.specs.Logs.{applied}
use Rattle.gate_journal.specs.declared.cause.Cause.{Cause}
use Rattle.gate_journal.specs.declared.cause.Cause.TheVariants.{Grammar, Length, Digest, EntryUnfit}
use Rattle.gate_journal.specs.Reading.{End, closed_at, damaged_at, Reading, records_from}
use Rattle.image_text.specs.declared.image.Format.{Format}
use Rattle.image_text.specs.declared.image.Format.TheVariants.{One, Two}
use Rattle.image_text.specs.declared.image.Image.{Image}
use Rattle.image_parts.specs.Whole.{image_at}
use Rattle.generations.specs.ImageState.{image_state}

-- a gate that is open, and then the name of a format: DECIBEL1 or DECIBEL2
abbrev pub mark : Format → List ℕ
mark One = 1 ∷ 68 ∷ 69 ∷ 67 ∷ 73 ∷ 66 ∷ 69 ∷ 76 ∷ 49 ∷ []
mark Two = 1 ∷ 68 ∷ 69 ∷ 67 ∷ 73 ∷ 66 ∷ 69 ∷ 76 ∷ 50 ∷ []

-- nine bytes are the mark of a format
abbrev pub is_mark : List ℕ → Bool
is_mark m = pointwise nat_eq m (mark One) || pointwise nat_eq m (mark Two)

-- the format of which they are the mark
abbrev pub named : List ℕ → Format
named m = cond (pointwise nat_eq m (mark One)) One Two

-- the file has a header
abbrev pub has_header : List ℕ → Bool
has_header c = nat_le 57 (length c) && is_mark (take 9 c)

-- the format that a header names
abbrev pub format_of : List ℕ → Format
format_of c = named (take 9 c)

-- the generation that a header gives
abbrev pub generation_of : List ℕ → ℕ
generation_of c = from_le_bytes w64 (take 8 (drop 9 c))

-- how many bytes its image has
abbrev pub image_length : List ℕ → ℕ
image_length c = from_le_bytes w64 (take 8 (drop 17 c))

-- the digest that its image must have
abbrev pub image_digest : List ℕ → List ℕ
image_digest c = take 32 (drop 25 c)

-- the bytes of its image
abbrev pub image_in : List ℕ → List ℕ
image_in c = take (image_length c) (drop 57 c)

-- what one file stands for: it is damaged at a place, or has a state, the entries of its records and the place of the first closed gate
pub data Outcome : Type 0 where
  damaged : ℕ → Cause → Outcome
  opened : State → List Entry → ℕ → Outcome

-- entries in front of others
abbrev pub behind : List Entry → Outcome → Outcome
behind es (damaged at cause) = damaged at cause
behind es (opened s more at) = opened s (es ++ more) at

-- a body that isn't entries is damage
abbrev pub by_entries : ℕ → Option (List Entry) → (List Entry → Outcome) → Outcome
by_entries at None go = damaged at Grammar
by_entries at (Some es) go = go es

-- entries that don't fit are damage
abbrev pub by_state : ℕ → Option State → (State → Outcome) → Outcome
by_state at None go = damaged at EntryUnfit
by_state at (Some s) go = go s

-- bodies taken one after another, of which the first one's gate stands at this place
abbrev pub walk : State → ℕ → List (List ℕ) → End → Outcome
walk s at [] (closed_at p) = opened s [] p
walk s at [] (damaged_at p cause) = damaged p cause
walk s at (body ∷ bodies) end = by_entries at (entries_in body) (λ es. by_state at (applied s es) (λ t. behind es (walk t (at + (37 + length body)) bodies end)))

-- the bodies that reading gave
abbrev pub walked : State → ℕ → Reading → Outcome
walked s at r = walk s at r.bodies r.ends

-- so many bytes that aren't an image are damage, where the first item that breaks a rule begins
abbrev pub by_image : ℕ → Result Image ℕ → (Image → Outcome) → Outcome
by_image size (Err left) go = damaged (57 + (size - left)) Grammar
by_image size (Ok image) go = go image

-- the generation can be, the file has the image, and the image has its digest
abbrev pub by_header : Bool → Bool → Bool → Outcome → Outcome
by_header can has sound next = cond can (cond has (cond sound next (damaged 25 Digest)) (damaged 17 Length)) (damaged 9 Grammar)

-- a file that has a header
abbrev pub file_reads : List ℕ → Outcome
file_reads c = by_header (nat_le 1 (generation_of c) && nat_le (generation_of c) (2 ^ 63)) (nat_le (57 + image_length c) (length c)) (pointwise nat_eq (sha256 (image_in c)) (image_digest c))
    (by_image (length (image_in c)) (image_at (format_of c) (image_in c)) (λ i. walked (image_state i) (57 + image_length c) (records_from (57 + image_length c) c)))

-- what two files stand for: neither has a header, or one of them counts, with its generation
pub data Files : Type 0 where
  no_header : Files
  counts : ℕ → ℕ → Outcome → Files

-- the file of that number counts
abbrev pub counting : ℕ → List ℕ → Files
counting file c = counts file (generation_of c) (file_reads c)

-- Of the files with a header the one with the greater generation counts, and file 0 where they are equal.
abbrev pub reads : List ℕ → List ℕ → Files
reads c_0 c_1 = cond (has_header c_0) (cond (has_header c_1 && nat_lt (generation_of c_0) (generation_of c_1)) (counting 1 c_1) (counting 0 c_0)) (cond (has_header c_1) (counting 1 c_1) no_header)

-- the same, by the bytes of the first or the second file and those of the other one
abbrev pub reads_by : Bool → List ℕ → List ℕ → Files
reads_by false c d = reads c d
reads_by true c d = reads d c

-- the number of the first or of the second file
abbrev pub number_of : Bool → ℕ
number_of false = 0
number_of true = 1
