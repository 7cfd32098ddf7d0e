-- The refusal of a statement whose change a working table didn't take.
use Rattle.std.specs.Prelude.{ℕ, List, Option, Some, None}
use Rattle.db_value.specs.declared.reply.Refusal.{Refusal}
use Rattle.db_value.specs.declared.reply.Refusal.TheVariants.{KeyThere as RefusedThere, KeyMissing as RefusedMissing, TableFull as RefusedFull, Room as RefusedRoom, BodyFull as RefusedBody}
use Rattle.db_store.specs.declared.work.WorkStop.{WorkStop}
use Rattle.db_store.specs.declared.work.WorkStop.TheVariants.{KeyThere, KeyMissing, TableFull, Room, BodyFull}

-- the refusal of a change that the working table stops
abbrev pub refusal_of : List ℕ → ℕ → ℕ → WorkStop → Refusal
refusal_of name key room KeyThere = RefusedThere name key
refusal_of name key room KeyMissing = RefusedMissing name key
refusal_of name key room (TableFull relation) = RefusedFull name
refusal_of name key room Room = RefusedRoom room
refusal_of name key room BodyFull = RefusedBody

-- the refusal of a change, if the working table stops it
abbrev pub refusal_if : List ℕ → ℕ → ℕ → Option WorkStop → Option Refusal
refusal_if name key room None = None
refusal_if name key room (Some stop) = Some (refusal_of name key room stop)
