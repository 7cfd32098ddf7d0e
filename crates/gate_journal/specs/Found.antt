-- What the code finds, and what it says of a file.
use Rattle.std.specs.Prelude.{◌≡◌, ◌+◌, ◌≤◌, ℕ, Bool, List, true, false, nat_eq, length, take, drop}
use Rattle.std.specs.Cmp.Lexicographic.{pointwise}
use Rattle.sha2.specs.Sha256.{sha256}
use Rattle.db_outside.specs.Disk.{InAll}
use Rattle.gate_journal.specs.Gate.{IsShut}
use Rattle.gate_journal.specs.declared.records.Behind.{Behind}
use Rattle.gate_journal.specs.declared.records.Behind.TheVariants.{Short, Unsound, Whole}
use Rattle.gate_journal.specs.declared.records.Found.{Found}
use Rattle.gate_journal.specs.declared.records.Found.TheVariants.{Closed, Damaged, Open}
use Rattle.gate_journal.specs.declared.records.JournalEnd.{JournalEnd}
use Rattle.gate_journal.specs.declared.records.JournalEnd.TheVariants.{Closed as ClosedEnd, Damaged as DamagedEnd}
use Rattle.gate_journal.specs.Reading.{End, closed_at, damaged_at, Reading, nothing, onto, is_long, is_sound, inner, size_in, records_from}

-- these bytes behind an open gate are such a record
abbrev pub IsSuch : Behind → List ℕ → Type 0
IsSuch Short b = is_long b ≡ false
IsSuch Unsound b = (is_long b ≡ true) × (is_sound b ≡ false)
IsSuch (Whole body) b = (is_long b ≡ true) × (is_sound b ≡ true) × (inner b ≡ body) × (length body ≡ size_in b)

-- a record that stands whole has so many bytes at most behind its gate
abbrev pub EndsWithin : Behind → ℕ → Type 0
EndsWithin Short left = Unit {0}
EndsWithin Unsound left = Unit {0}
EndsWithin (Whole body) left = 36 + length body ≤ left

-- the digest at a place is that of so many bytes behind it
abbrev pub is_sound_at : ℕ → ℕ → List ℕ → Bool
is_sound_at at size s = pointwise nat_eq (take 32 (drop at s)) (sha256 (take size (drop (at + 32) s)))

-- a body is whole where it has this digest
abbrev pub JudgedBy : Behind → List ℕ → List ℕ → Type 0
JudgedBy Short digest body = ⊥
JudgedBy Unsound digest body = pointwise nat_eq digest (sha256 body) ≡ false
JudgedBy (Whole given) digest body = (pointwise nat_eq digest (sha256 body) ≡ true) × (given ≡ body)

-- the digest and the body from a place on are so
abbrev pub IsBodyAt : Behind → ℕ → ℕ → List ℕ → Type 0
IsBodyAt Short at size s = ⊥
IsBodyAt Unsound at size s = is_sound_at at size s ≡ false
IsBodyAt (Whole body) at size s = (is_sound_at at size s ≡ true) × (body ≡ take size (drop (at + 32) s))

-- a whole body has so many bytes
abbrev pub HasSize : Behind → ℕ → Type 0
HasSize Short size = ⊥
HasSize Unsound size = Unit {0}
HasSize (Whole body) size = length body ≡ size

-- what is read of a file from a place where this was found
abbrev pub told_by : Found → ℕ → List ℕ → Reading
told_by Closed at s = nothing (closed_at at)
told_by (Damaged cause) at s = nothing (damaged_at at cause)
told_by (Open body) at s = onto body (records_from (at + (37 + length body)) s)

-- an open record ends within the file
abbrev pub EndsBy : Found → ℕ → ℕ → Type 0
EndsBy Closed at len = Unit {0}
EndsBy (Damaged cause) at len = Unit {0}
EndsBy (Open body) at len = at + (37 + length body) ≤ len

-- where the code says that reading ended
abbrev pub end_of : JournalEnd → End
end_of (ClosedEnd journal) = closed_at journal.at
end_of (DamagedEnd at cause) = damaged_at at cause

-- what the code says that it read
abbrev pub reading_of : List (List ℕ) → JournalEnd → Reading
reading_of bodies end = record { bodies = bodies; ends = end_of end }

-- a journal that was read up to a closed gate is clean
abbrev pub SaysClean : JournalEnd → Type 0
SaysClean (ClosedEnd journal) = journal.clean ≡ true
SaysClean (DamagedEnd at cause) = Unit {0}

-- a journal that was read up to a closed gate has it closed in each image
abbrev pub EndsShut : (List ℕ → Type 0) → JournalEnd → Type 0
EndsShut image (ClosedEnd journal) = InAll image (IsShut journal.at)
EndsShut image (DamagedEnd at cause) = Unit {0}
