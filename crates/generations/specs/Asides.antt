-- The front of a file that counts, and the file beside it.
use Rattle.std.specs.Prelude.{◌≡◌, ◌⊎◌, ◌+◌, ◌^◌, ◌<◌, ◌≤◌, ℕ, Bool, true, false, List, [], ◌∷◌, ◌++◌, length, drop}
use Rattle.std.proofs.Common.{get_or}
use Rattle.db_value.specs.declared.entry.Entry.{Entry}
use Rattle.db_store.specs.State.{State}
use Rattle.db_outside.specs.Disk.{InAll}
use Rattle.gate_journal.specs.Gate.{IsShut, IsBehind}
use Rattle.gate_journal.specs.Reading.{reading}
use Rattle.generations.specs.Ends.{Ends}
use Rattle.generations.specs.Files.{has_header, generation_of, file_reads, behind, walked}
use Rattle.generations.specs.declared.other_gate.OtherGate.{OtherGate}
use Rattle.generations.specs.declared.other_gate.OtherGate.TheVariants.{Unread, Low, Shut, Owed}

-- Whatever stands behind this front, the file has a header of this generation, and its records are read from this state on, behind these entries.
pub record IsFront (front : List ℕ) (g : ℕ) (s : State) (es : List Entry) : Type 0 where
  pub header : has_header front ≡ true
  pub generation : generation_of front ≡ g
  pub reads_on : (rest : List ℕ) → file_reads (front ++ rest) ≡ behind es (walked s (length front) (reading (length rest) (length front) rest))

-- beside the first or the second file, of this generation, this file doesn't count
abbrev pub IsBeside : Bool → ℕ → List ℕ → Type 0
IsBeside false g d = has_header d ≡ true → generation_of d ≤ g
IsBeside true g d = has_header d ≡ true → generation_of d < g

-- beside the first or the second file, of this generation, this file doesn't count, whatever its gate's byte is
abbrev pub IsLow : Bool → ℕ → List ℕ → Type 0
IsLow second g d = IsBeside second g (1 ∷ drop 1 d)

-- whether the gate is still to be closed, since a checkpoint failed at it
abbrev pub is_owed : OtherGate → Bool
is_owed Unread = false
is_owed Low = false
is_owed Shut = false
is_owed Owed = true

-- whether it is what a read tells
abbrev pub is_unread : OtherGate → Bool
is_unread Unread = true
is_unread Low = false
is_unread Shut = false
is_unread Owed = false

-- whether it is surely closed
abbrev pub is_shut : OtherGate → Bool
is_shut Unread = false
is_shut Low = false
is_shut Shut = true
is_shut Owed = false

-- what is known of it after a write of bytes behind it: they weren't opened, or may have been
abbrev pub gate_after : Bool → OtherGate
gate_after true = Shut
gate_after false = Owed

-- what a file says of its gate: it is closed, or the file is empty, or it is open
abbrev pub IsGateOf : OtherGate → List ℕ → Type 0
IsGateOf Unread d = ⊥
IsGateOf Low d = (d ≡ []) ⊎ (get_or d 0 0 ≡ 1)
IsGateOf Shut d = IsShut 0 d
IsGateOf Owed d = ⊥

-- behind a gate, in all images, stands a whole file of the next generation with this state, no entries and a closed gate
pub record HasNext (g : ℕ) (s : State) (image : List ℕ → Type 0) : Type 0 where
  pub more : g < 2 ^ 63
  pub back : List ℕ
  pub is_front : IsFront (1 ∷ back) (g + 1) s []
  pub stands : InAll image (IsBehind 0 (back ++ 0 ∷ []))

-- how the images of the file stand that doesn't count, by its gate, beside the first or the second file, of this generation and state
abbrev pub StandsBy : OtherGate → Bool → ℕ → State → (List ℕ → Type 0) → Type 0
StandsBy Unread second g s image = InAll image (IsBeside second g)
StandsBy Low second g s image = InAll image (IsLow second g)
StandsBy Shut second g s image = InAll image (IsShut 0)
StandsBy Owed second g s image = HasNext g s image

-- the file doesn't count, or it has the next generation, with this state and no entries
abbrev pub IsBesideOrNext : Bool → ℕ → State → List ℕ → Type 0
IsBesideOrNext second g s d = IsBeside second g d ⊎ ((more : g < 2 ^ 63) × (next : List ℕ) × IsFront next (g + 1) s [] × Ends next d)

-- these bytes are a whole file of the next generation with this state behind its gate, and the closed gate of the first record
pub record IsNextFile (g : ℕ) (s : State) (bytes : List ℕ) : Type 0 where
  pub more : g < 2 ^ 63
  pub back : List ℕ
  pub spelled : bytes ≡ back ++ 0 ∷ []
  pub is_front : IsFront (1 ∷ back) (g + 1) s []
