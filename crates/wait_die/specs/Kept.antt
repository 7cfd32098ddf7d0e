-- What holds of a table of waits after every list of calls, and that no chain of waits comes back to its start.
use Rattle.std.specs.Prelude.{◌≡◌, ℕ, ◌≤◌, true, List, [], ◌∷◌, length}
use Rattle.lock_table.specs.Grants.{Has}
use Rattle.wait_die.specs.declared.grant.Grant.{Grant}
use Rattle.wait_die.specs.declared.grant.Waiting.{Waiting}
use Rattle.wait_die.specs.Conflict.{conflicts}
use Rattle.wait_die.specs.Waiting.{WaitTable, is_older}

-- no two of the sessions are one
abbrev pub AllDiffer : List ℕ → Type 0
AllDiffer [] = Unit {0}
AllDiffer (s ∷ ss) = (Has ss s → ⊥) × AllDiffer ss

-- the waiter is the older of two open transactions, and the other has a granted want that conflicts with the waiter's
pub record IsWait (t : WaitTable) (x : Waiting) : Type 0 where
  pub waiter : Has t.begun x.waiter
  pub on : Has t.begun x.on
  pub older : is_older t.begun x.waiter x.on ≡ true
  pub held : (g : Grant) × Has t.grants g × (g.session ≡ x.on) × (conflicts x.wants g.want ≡ true)

-- each session stands at most once among the open transactions, which alone have granted wants, and each wait is of an older on a younger one
pub record IsKept (t : WaitTable) : Type 0 where
  pub once : AllDiffer t.begun
  pub admitted : (s : ℕ) → Has t.begun s → Has t.admitted s
  pub granted : (g : Grant) → Has t.grants g → Has t.begun g.session
  pub waits : (x : Waiting) → Has t.waits x → IsWait t x

-- and there is room for the transaction of each admitted session
pub record HasRoom (t : WaitTable) (room : ℕ) : Type 0 where
  pub kept : IsKept t
  pub enough : length t.admitted ≤ room

-- the first session waits on the second
abbrev pub WaitsOn : WaitTable → ℕ → ℕ → Type 0
WaitsOn t a b = (x : Waiting) × Has t.waits x × (x.waiter ≡ a) × (x.on ≡ b)

-- the first session waits on the first of the list, each of the list on the next one, and the last of them on the last session
abbrev pub IsChain : WaitTable → ℕ → List ℕ → ℕ → Type 0
IsChain t from [] to = WaitsOn t from to
IsChain t from (s ∷ ss) to = WaitsOn t from s × IsChain t s ss to

-- no chain of waits comes back to its start
abbrev pub HasNoCircle : WaitTable → Type 0
HasNoCircle t = (start : ℕ) (between : List ℕ) → IsChain t start between start → ⊥
