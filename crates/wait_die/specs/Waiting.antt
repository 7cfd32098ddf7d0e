-- Open transactions in the order of their beginnings, what is granted to them, and who waits on whom.
use Rattle.std.specs.Prelude.{ℕ, ◌==◌, cond, not, ◌&&◌, ◌||◌, Bool, true, false, List, [], ◌∷◌, ◌++◌, filter}
use Rattle.std.specs.List.{list_any}
use Rattle.lock_table.specs.Grants.{Has, joined}
use Rattle.wait_die.specs.declared.want.Want.{Want}
use Rattle.wait_die.specs.declared.grant.Grant.{Grant}
use Rattle.wait_die.specs.declared.grant.Waiting.{Waiting}
use Rattle.wait_die.specs.Conflict.{includes}

-- what a table of waits has
pub record WaitTable : Type 0 where
  -- the sessions with an open transaction, the one that began first at the front
  pub begun : List ℕ
  -- the granted wants of open transactions
  pub grants : List Grant
  -- the sessions that wait, each with what it wants and the session that it waits on
  pub waits : List Waiting
  -- the sessions that the table has room for
  pub admitted : List ℕ

-- the table has room for the session's transaction
abbrev pub IsAdmitted : WaitTable → ℕ → Type 0
IsAdmitted t session = Has t.admitted session

-- the session is in the list
abbrev pub is_among : ℕ → List ℕ → Bool
is_among session sessions = list_any (λ s. s == session) sessions

-- the session has an open transaction
abbrev pub is_open : WaitTable → ℕ → Bool
is_open t session = is_among session t.begun

-- the session waits
abbrev pub is_waiting : WaitTable → ℕ → Bool
is_waiting t session = list_any (λ x. x.waiter == session) t.waits

-- the first session is older: its transaction began before that of the second, which may have none
abbrev pub is_older : List ℕ → ℕ → ℕ → Bool
is_older [] a b = false
is_older (s ∷ ss) a b = cond (s == b) false (cond (s == a) true (is_older ss a b))

-- the session has a granted want that includes this one
abbrev pub has_want : ℕ → Want → List Grant → Bool
has_want session w [] = false
has_want session w (g ∷ gs) = (g.session == session && includes g.want w) || has_want session w gs

-- a want of a session
abbrev pub grant : ℕ → Want → Grant
grant session w = record { session = session; want = w }

-- a want is added, unless one that the session has includes it
abbrev pub granted : ℕ → Want → List Grant → List Grant
granted session w gs = cond (has_want session w gs) gs (gs ++ grant session w ∷ [])

-- the wants are added, one after the other
abbrev pub added : ℕ → List Want → List Grant → List Grant
added session [] gs = gs
added session (w ∷ ws) gs = added session ws (granted session w gs)

-- the session is another one
abbrev pub is_other : ℕ → ℕ → Bool
is_other session s = not (s == session)

-- the grant is another session's
abbrev pub is_of_other : ℕ → Grant → Bool
is_of_other session g = is_other session g.session

-- the session doesn't wait, and isn't waited on
abbrev pub is_apart : ℕ → Waiting → Bool
is_apart session x = is_other session x.waiter && is_other session x.on

-- a table with room for one session more, unless it has that already
abbrev pub admitting : WaitTable → ℕ → WaitTable
admitting t session = record t { admitted = joined session t.admitted }

-- the session's transaction begins, as the youngest one
abbrev pub started : WaitTable → ℕ → WaitTable
started t session = record t { begun = t.begun ++ session ∷ [] }

-- the session's transaction is gone, with its wants, its own wait and every wait on it
abbrev pub ended : WaitTable → ℕ → WaitTable
ended t session = record t {
  begun = filter (is_other session) t.begun;
  grants = filter (is_of_other session) t.grants;
  waits = filter (is_apart session) t.waits;
}
