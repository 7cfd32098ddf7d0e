-- A queue of entries that wait for the log, in batches, and the results of earlier batches.
use Rattle.std.specs.Prelude.{◌≡◌, ◌⊎◌, ◌<◌, ℕ, Bool, List, [], ◌∷◌, ◌++◌, length, Option, None, Some, slice_get}

-- the body of the batch that waits, and of each earlier batch whether it was written
pub record AtQueue : Type 0 where
  pub waiting : List ℕ
  pub results : List Bool

-- nothing waits, and there was no batch
abbrev pub no_batch : AtQueue
no_batch = record { waiting = []; results = [] }

-- a ticket tells the number of its batch: how many batches there were before it
abbrev pub next_ticket : AtQueue → ℕ
next_ticket q = length q.results

-- the queue gave this ticket: its batch is an earlier one, or waits
abbrev pub IsGiven : AtQueue → ℕ → Type 0
IsGiven q ticket = (ticket < length q.results) ⊎ ((ticket ≡ length q.results) × (q.waiting ≡ [] → ⊥))

-- whether the batch of a ticket was written, if it doesn't wait
abbrev pub outcome : AtQueue → ℕ → Option Bool
outcome q ticket = slice_get q.results ticket

-- the batch waits no longer: it was written, or it wasn't
abbrev pub settled : AtQueue → Bool → AtQueue
settled q written = record { waiting = []; results = q.results ++ written ∷ [] }

-- the queue after a ticket is settled that had this outcome: nothing is to do if its batch doesn't wait
abbrev pub settled_by : Option Bool → AtQueue → Bool → AtQueue
settled_by None q written = settled q written
settled_by (Some earlier) q written = q
