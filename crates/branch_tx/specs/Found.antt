-- Where a transaction finds the versions that it names.
use Rattle.std.specs.Prelude.{ℕ, ◌==◌, cond, List, [], ◌∷◌, Option, Some, None}
use Rattle.db_value.specs.declared.reply.Refusal.{Refusal}
use Rattle.db_value.specs.declared.reply.Refusal.TheVariants.{NoBranch as RefusedBranch, NoVersion as RefusedVersion}
use Rattle.db_store.specs.Table.{Table}
use Rattle.db_store.specs.Found.{Found, NoBranch, NoPosition, Head, Fixed}

-- where a transaction on branch b finds a version that is named: the plain name of its own branch means its working table
pub data Source : Type 0 where
  Own : Source
  Other : (table : Table) → Source
  Lacking : (why : Refusal) → Source

-- what a transaction on branch b reads if it asks for the named version
abbrev pub source_of : ℕ → Found → Source
source_of b (NoBranch name) = Lacking (RefusedBranch name)
source_of b (NoPosition c name n) = Lacking (RefusedVersion name n)
source_of b (Head at table) = cond (at.branch == b) Own (Other table)
source_of b (Fixed at table) = Other table

-- why a version isn't there
abbrev pub lacking : Source → Option Refusal
lacking Own = None
lacking (Other table) = None
lacking (Lacking why) = Some why

-- the first refusal of the two
abbrev pub lacking_or : Option Refusal → Option Refusal → Option Refusal
lacking_or None behind = behind
lacking_or (Some why) behind = Some why

-- why the first of several that isn't there isn't
abbrev pub first_lacking : List Source → Option Refusal
first_lacking [] = None
first_lacking (s ∷ ss) = lacking_or (lacking s) (first_lacking ss)
