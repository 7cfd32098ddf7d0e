-- How a file with a journal ends, byte by byte.
use Rattle.std.specs.Prelude.{◌≡◌, ◌⊎◌, ℕ, Bool, true, false, List, ◌∷◌, ◌++◌, Option, None, Some, length}
use Rattle.db_outside.specs.Disk.{Begins, InAll}
use Rattle.db_outside.specs.Record.{record_of, ready}
use Rattle.gate_journal.specs.Gate.{IsShut, IsBehind}

-- a front with one open record more
abbrev pub with_record : List ℕ → List ℕ → List ℕ
with_record front body = front ++ 1 ∷ record_of body

-- the file begins so, and then there is a closed gate
pub record Ends (front c : List ℕ) : Type 0 where
  pub spelled : Begins front c
  pub shut : IsShut (length front) c

-- it ends so, or with one record more where there may be one more
abbrev pub MayEnd : List ℕ → Option (List ℕ) → List ℕ → Type 0
MayEnd front pending c = Ends front c ⊎ ((body : List ℕ) × (pending ≡ Some body) × Ends (with_record front body) c)

-- it ends so, with the pending record more, or with this batch more
abbrev pub EndsInOneOf : List ℕ → Option (List ℕ) → List ℕ → List ℕ → Type 0
EndsInOneOf front pending batch c = MayEnd front pending c ⊎ Ends (with_record front batch) c

-- Every image begins with the acknowledged records, and the journal's place is behind them. There the gate is shut, or the record of the batch whose append failed stands whole behind it.
pub record IsKept (at : ℕ) (clean : Bool) (image : List ℕ → Type 0) (front : List ℕ) (pending : Option (List ℕ)) : Type 0 where
  pub place : at ≡ length front
  pub begins : InAll image (λ c. Begins front c)
  pub shut : clean ≡ true → (pending ≡ None) × InAll image (IsShut at)
  pub behind : clean ≡ false → (body : List ℕ) × (pending ≡ Some body) × InAll image (IsBehind at (ready body))
