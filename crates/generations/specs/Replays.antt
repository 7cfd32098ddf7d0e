-- What becomes of a state that takes the entries of bodies.
use Rattle.std.specs.Prelude.{◌≡◌, ℕ, List, [], length, Some, None}
use Rattle.db_value.specs.declared.entry.Entry.{Entry}
use Rattle.db_store.specs.State.{State}
use Rattle.entry_codec.specs.Grammar.{entries_in}
use Rattle.generations.specs.declared.replay.Taken.{Taken}
use Rattle.generations.specs.declared.replay.Taken.TheVariants.{All, NotEntries, Unfit}
use Rattle.generations.specs.declared.replay.Replayed.{Replayed}
use Rattle.generations.specs.declared.replay.Replayed.TheVariants.{All as AllOf, Damaged}
use Rattle.gate_journal.specs.Reading.{End}
use Rattle.generations.specs.Files.{damaged, applied, behind, walk}

-- a body's entries were added, or it is no entries, or one of them doesn't fit
abbrev pub TakesBody : Taken → State → List ℕ → State → Type 0
TakesBody (All n) s body t = (es : List Entry) × (entries_in body ≡ Some es) × (length es ≡ n) × (applied s es ≡ Some t)
TakesBody NotEntries s body t = entries_in body ≡ None
TakesBody Unfit s body t = (es : List Entry) × (entries_in body ≡ Some es) × (applied s es ≡ None)

-- however the journal ends, these entries were added to the state, or the bodies are damaged there
abbrev pub Replays : Replayed → State → ℕ → List (List ℕ) → State → Type 0
Replays (AllOf n) s at bodies t = (es : List Entry) × (length es ≡ n) × ((end : End) → walk s at bodies end ≡ behind es (walk t 0 [] end))
Replays (Damaged p cause) s at bodies t = (end : End) → walk s at bodies end ≡ damaged p cause
