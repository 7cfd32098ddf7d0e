-- What an append does to a log.
use Rattle.std.specs.Prelude.{ℕ, List, ◌++◌, None, Result, OnOk, OnErr}
use Rattle.db_outside.specs.Device.{CountsFaults}
use Rattle.entry_codec.specs.declared.log.Log.{Ghosts}
use Rattle.entry_codec.specs.Logs.{WhereKept, GivesOnly, GivesOneOf, KeepsOneOf, StoresOwing, GoesOn}

-- All that a log promises of an append: a crash at any moment of it leaves the acknowledged entries, with the pending ones, with those of the batch, or with neither; and it
-- keeps the batch's entries behind the others, or what it kept.
pub record Appends {L S V P Q T E : Type 0} (g : Ghosts L S V P Q) (batch : List ℕ) (old new : L) (result : Result T E) : Type 0 where
  pub any_moment : WhereKept g.Keeps old batch (λ s es f follows. GivesOnly g.moment g.Quiet g.opens_since old new (GivesOneOf (g.generation old) s es f batch))
  pub done : OnOk result (WhereKept g.Keeps old batch (λ s es f follows. g.Keeps new follows.state (es ++ follows.entries) None))
  pub failed : OnErr result (WhereKept g.Keeps old batch (λ s es f follows. KeepsOneOf g.Keeps new s es f batch))
  pub owed : WhereKept g.Owes old batch (λ s es f follows. StoresOwing g.Keeps g.Owes g.generation g.moment g.opens_since old new result s es f batch follows)
  pub goes_on : GoesOn g.generation g.moment g.counts old new
  pub counts : CountsFaults g.faults old new result
