-- What a dataset keeps in its two files, and what these open to.
use Rattle.std.specs.Prelude.{◌≡◌, ◌⊎◌, ℕ, Bool, false, List, ◌++◌, Option, Some}
use Rattle.db_value.specs.declared.entry.Entry.{Entry}
use Rattle.db_store.specs.State.{State}
pub use Rattle.entry_codec.specs.Logs.{Follows}
use Rattle.generations.specs.Ends.{IsKept}
use Rattle.generations.specs.Files.{opened, counts, reads_by, number_of}
pub use Rattle.generations.specs.Asides.{IsFront, IsBeside, StandsBy, is_owed}
use Rattle.generations.specs.declared.other_gate.OtherGate.{OtherGate}

-- the two files open to this state, by the first or the second of them
abbrev pub OpensTo : Bool → ℕ → State → List Entry → List ℕ → List ℕ → Type 0
OpensTo second g s es c d = (at : ℕ) × (reads_by second c d ≡ counts (number_of second) g (opened s es at))

-- with the entries of one body more
abbrev pub OpensToMore : Bool → ℕ → State → List Entry → List ℕ → List ℕ → List ℕ → Type 0
OpensToMore second g s es body c d = (more : Follows s body) × OpensTo second g more.state (es ++ more.entries) c d

-- to the state, or to the one with the pending body more
abbrev pub MayOpenTo : Bool → ℕ → State → List Entry → Option (List ℕ) → List ℕ → List ℕ → Type 0
MayOpenTo second g s es pending c d = OpensTo second g s es c d ⊎ ((body : List ℕ) × (pending ≡ Some body) × OpensToMore second g s es body c d)

-- to one of these, or to the one with this batch more
abbrev pub OpensToOneOf : Bool → ℕ → State → List Entry → Option (List ℕ) → List ℕ → List ℕ → List ℕ → Type 0
OpensToOneOf second g s es pending batch c d = MayOpenTo second g s es pending c d ⊎ OpensToMore second g s es batch c d

-- the file that counts has the acknowledged entries in every image, and where its journal is not clean the pending record stands whole behind the gate
pub record KeepsFile (g at : ℕ) (clean : Bool) (image : List ℕ → Type 0) (s : State) (es : List Entry) (pending : Option (List ℕ)) : Type 0 where
  pub front : List ℕ
  pub is_front : IsFront front g s es
  pub kept : IsKept at clean image front pending
  pub fits : (body : List ℕ) → pending ≡ Some body → Follows s body

-- What a dataset keeps: the file that counts is kept, and the other one is as its gate tells. Either no image of that one counts, or a checkpoint failed at its gate, which is owed to be closed.
pub record KeepsBy (owed second : Bool) (g at : ℕ) (clean : Bool) (gate : OtherGate) (image beside : List ℕ → Type 0) (s : State) (es : List Entry) (pending : Option (List ℕ)) : Type 0 where
  pub file : KeepsFile g at clean image s es pending
  pub gate_is : is_owed gate ≡ owed
  pub other : StandsBy gate second g s beside

-- no image of the other file counts
abbrev pub Keeps : Bool → ℕ → ℕ → Bool → OtherGate → (List ℕ → Type 0) → (List ℕ → Type 0) → State → List Entry → Option (List ℕ) → Type 0
Keeps second g at clean gate image beside s es pending = KeepsBy false second g at clean gate image beside s es pending
