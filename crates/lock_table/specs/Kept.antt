-- How the table keeps its rows: for each lock the sessions that have it.
use Rattle.std.specs.Prelude.{◌≡◌, ℕ, ◌+◌, ◌/◌, ◌<◌, ◌≤◌, ◌==◌, suc, cond, not, ◌&&◌, ◌||◌, Bool, true, false, List, [], ◌∷◌, ◌++◌, map, filter, length, get_or, All}
use Rattle.lock_table.specs.declared.lock.Grant.{Grant}
use Rattle.lock_table.specs.declared.need.TheConstants.{LOCKS}
use Rattle.lock_table.specs.declared.blocks.TheConstants.{BLOCK, BLOCKS}
use Rattle.lock_table.specs.Rows.{Row}
use Rattle.lock_table.specs.Grants.{Has, equal_bits}

-- the grants of one lock, in the order given, and how many there is room for
pub record LockGrants : Type 0 where
  pub grants : List Grant
  pub room : ℕ

-- the row that a grant of this lock stands for
abbrev pub row_of : ℕ → Grant → Row
row_of lock g = record { session = g.session; need = record { lock = lock; exclusive = g.exclusive } }

-- the rows of these locks, of which the first has this number
abbrev pub rows_from : ℕ → List LockGrants → List Row
rows_from lock [] = []
rows_from lock (k ∷ ks) = map (row_of lock) k.grants ++ rows_from (suc lock) ks

-- two grants are of one session and one kind
abbrev pub same_grant : Grant → Grant → Bool
same_grant g h = g.session == h.session && equal_bits g.exclusive h.exclusive

-- this grant is among the grants
abbrev pub has_grant : Grant → List Grant → Bool
has_grant g [] = false
has_grant g (h ∷ hs) = same_grant h g || has_grant g hs

-- a grant joins at the end, unless it is there
abbrev pub with_grant : Grant → LockGrants → LockGrants
with_grant g k = record { grants = cond (has_grant g k.grants) k.grants (k.grants ++ g ∷ []); room = k.room }

-- the grant is another session's
abbrev pub is_of_other : ℕ → Grant → Bool
is_of_other session g = not (g.session == session)

-- the grants of the other sessions stay
abbrev pub without_grants : ℕ → LockGrants → LockGrants
without_grants session k = record { grants = filter (is_of_other session) k.grants; room = k.room }

-- the same grants, and at least as much room
abbrev pub Grows : LockGrants → LockGrants → Type 0
Grows old new = (new.grants ≡ old.grants) × (old.room ≤ new.room)

-- no two of the grants are equal
abbrev pub AllDiffer : List Grant → Type 0
AllDiffer [] = Unit {0}
AllDiffer (g ∷ gs) = (Has gs g → ⊥) × AllDiffer gs

-- the grants of a lock are of admitted sessions, and there is room for both kinds of each
pub record HasRoom (admitted : List ℕ) (k : LockGrants) : Type 0 where
  pub differ : AllDiffer k.grants
  pub sessions : (g : Grant) → Has k.grants g → Has admitted g.session
  pub room : length admitted + length admitted ≤ k.room

-- each block of locks is marked, unless none of them has a grant
pub record IsMarked (busy : List Bool) (locks : List LockGrants) : Type 0 where
  pub count : length locks ≡ LOCKS
  pub blocks : length busy ≡ BLOCKS
  pub idle : (i : ℕ) (d : LockGrants) → i < LOCKS → get_or busy (i / BLOCK) true ≡ false → (get_or locks i d).grants ≡ []

-- what holds of the parts of a table: each lock is there, and has room
pub record IsKept (admitted : List ℕ) (locks : List LockGrants) : Type 0 where
  pub count : length locks ≡ LOCKS
  pub roomy : All (HasRoom admitted) locks
