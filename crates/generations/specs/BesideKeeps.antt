-- What the calls of the file that doesn't count keep.
use Rattle.std.specs.Prelude.{ℕ, Bool}
use Rattle.db_store.specs.State.{State}
use Rattle.db_outside.specs.Disk.{LeavesOnly}
use Rattle.db_outside.specs.declared.disk.Disk.{Ghosts}
use Rattle.generations.specs.declared.beside.Beside.{Beside}
use Rattle.generations.specs.Asides.{StandsBy, IsBesideOrNext}

-- its images stand by its gate, beside the first or the second file, of this generation and state
abbrev pub StandsIn : {D : Type 0} {g : Ghosts D} → Beside D g → Bool → ℕ → State → Type 0
StandsIn {D} {g} b second n s = StandsBy b.gate second n s (g.image b.disk)

-- at any moment of the calls its images don't count, or have the next generation with this state; and they stand by its gate after them
pub record KeepsBeside {D : Type 0} {g : Ghosts D} (old new : Beside D g) (second : Bool) (n : ℕ) (s : State) : Type 0 where
  pub any_moment : LeavesOnly g.moment g.since old.disk new.disk (IsBesideOrNext second n s)
  pub stands : StandsIn new second n s
