-- The state of a journal beside its disk, and what an append makes of it.
use Rattle.std.specs.Prelude.{◌≡◌, ◌+◌, ◌-◌, ◌^◌, ◌<◌, ◌≤◌, ◌&&◌, if◌then◌else◌, ℕ, Bool, true, false, List, length}
use Rattle.db_outside.specs.Disk.{InAll}
use Rattle.gate_journal.specs.Gate.{IsShut, IsBehind, IsOpen}
use Rattle.gate_journal.specs.declared.place.Journal.{Journal}

-- the gate's write wasn't called since it was closed, so it is closed in each image
pub record IsClean (image : List ℕ → Type 0) (j : Journal) : Type 0 where
  pub clean : j.clean ≡ true
  pub shut : InAll image (IsShut j.at)

-- the gate may be open, and its place is in each image
pub record IsUnclean (image : List ℕ → Type 0) (j : Journal) : Type 0 where
  pub unclean : j.clean ≡ false
  pub there : InAll image (λ c. j.at < length c)

-- the record stands open, and the journal goes on at the gate behind it, which is closed
pub record HasAppended (bytes : List ℕ) (image : List ℕ → Type 0) (old new : Journal) : Type 0 where
  pub opened : InAll image (IsOpen old.at bytes)
  pub moved : new.at ≡ old.at + length bytes
  pub next : IsClean image new

-- the journal stays where it is; if it is clean the gate is closed, and otherwise the record is whole behind the gate
pub record FailsToAppend (bytes : List ℕ) (image : List ℕ → Type 0) (old new : Journal) : Type 0 where
  pub stays : new.at ≡ old.at
  pub shut : new.clean ≡ true → InAll image (IsShut old.at)
  pub behind : new.clean ≡ false → InAll image (IsBehind old.at bytes)

-- the gate at this place is open before these bytes, and no more said to be surely closed; and they end before the greatest number of 64 bits
pub record IsPublished (at : ℕ) (bytes : List ℕ) (image : List ℕ → Type 0) (shut : Bool) : Type 0 where
  pub opened : InAll image (IsOpen at bytes)
  pub past : shut ≡ false
  pub end : at + 1 + length bytes ≤ 2 ^ 64 - 1

-- after a failure the gate at this place is closed, or its write was called and these bytes stand whole behind it
pub record IsUnopened (at : ℕ) (bytes : List ℕ) (image : List ℕ → Type 0) (shut : Bool) : Type 0 where
  pub closed : shut ≡ true → InAll image (IsShut at)
  pub behind : shut ≡ false → InAll image (IsBehind at bytes)

-- how many writes an append called: it is clean after a failure if the second, the gate's, wasn't called
abbrev pub writes_of : Bool → Bool → ℕ
writes_of failed clean = if failed && clean then 1 else 2
