-- The frame law: a transaction doesn't notice what others do outside its needs.
use Rattle.std.specs.Prelude.{◌≡◌, ◌<◌, ◌⊎◌, ℕ, nat_lt, ◌||◌, is_some, Bool, true, List, [], ◌∷◌, length}
use Rattle.db_value.specs.declared.entry.Entry.{Entry}
use Rattle.db_value.specs.declared.entry.Entry.TheVariants.{Commit, Branch as NewBranch}
use Rattle.db_value.specs.declared.reply.Reply.{Reply}
use Rattle.db_store.specs.Overlay.{Overlay, untouched, count_touched}
use Rattle.db_store.specs.Dataset.{Dataset, head_of, apply}
use Rattle.db_store.specs.Fits.{fits}
use Rattle.db_store.specs.Sound.{IsSound}
use Rattle.db_store.specs.Order.{IsOrdered}
use Rattle.lock_table.specs.declared.need.Need.{Need}
use Rattle.stmt_text.specs.declared.stmt.Stmt.{Stmt}
use Rattle.branch_tx.specs.Keeping.{over_table}
use Rattle.branch_tx.specs.Act.{Tx, Outcome}
use Rattle.branch_tx.specs.Alone.{fresh, step}
use Rattle.line_needs.specs.Needs.{catalogue, lock_of, needs}

-- what lines run alone gave: the transaction after them, and for each line its reply and its needs, newest first
pub record Whole : Type 0 where
  pub tx : Tx (List Overlay)
  pub replies : List Reply
  pub needs : List (List Need)

-- one line more
abbrev pub and_then : Whole → Outcome (List Overlay) → List Need → Whole
and_then w o ns = record { tx = o.tx; replies = o.reply ∷ w.replies; needs = ns ∷ w.needs }

-- whether something was changed, which depends on no table
abbrev pub is_changed : Tx (List Overlay) → Bool
is_changed tx = nat_lt 0 (count_touched tx.work) || is_some tx.second

-- one line on branch b, with changes over its head
abbrev pub step_over : Dataset → ℕ → Tx (List Overlay) → Stmt → Outcome (List Overlay)
step_over d b tx x = step (over_table (head_of d b)) d b tx x

-- the lines of one transaction, newest first, run alone on branch b of a dataset
abbrev pub whole : Dataset → ℕ → List Stmt → Whole
whole d b [] = record { tx = fresh untouched; replies = []; needs = [] }
whole d b (x ∷ xs) = and_then (whole d b xs) (step_over d b (whole d b xs).tx x) (needs d b (whole d b xs).tx.begun (is_changed (whole d b xs).tx) x)

-- a dataset after entries
abbrev pub apply_all : Dataset → List Entry → Dataset
apply_all d [] = d
apply_all d (e ∷ es) = apply_all (apply d e) es

-- each entry fits the dataset after those before it
abbrev pub AllFit : Dataset → List Entry → Type 0
AllFit d [] = Unit {0}
AllFit d (e ∷ es) = (fits d e ≡ true) × AllFit (apply d e) es

-- every need is on one of the locks
abbrev pub Within : (ℕ → Type 0) → List Need → Type 0
Within N [] = Unit {0}
Within N (n ∷ ns) = N n.lock × Within N ns

-- each line's needs are within those of the branches that N allows
abbrev pub AllWithin : (ℕ → Type 0) → List (List Need) → Type 0
AllWithin N [] = Unit {0}
AllWithin N (ns ∷ more) = Within N ns × AllWithin N more

-- no commit on a branch whose lock is among the locks, and no new branch where the catalogue is
abbrev pub Spares : (ℕ → Type 0) → Entry → Type 0
Spares N (Commit b second changes) = N (lock_of b) → ⊥
Spares N (NewBranch name origin) = N catalogue → ⊥

-- each entry leaves the branches that N names as they are
abbrev pub AllSpare : (ℕ → Type 0) → List Entry → Type 0
AllSpare N [] = Unit {0}
AllSpare N (e ∷ es) = Spares N e × AllSpare N es

-- one of the needs is on the lock
abbrev pub LockOf : List Need → ℕ → Type 0
LockOf [] lock = ⊥
LockOf (n ∷ ns) lock = (n.lock ≡ lock) ⊎ LockOf ns lock

-- after entries that spare the locks of its needs, a transaction gives the same replies, has the same needs and makes the same changes
abbrev pub FrameLaw : Type 0
FrameLaw = (s : Dataset) (b : ℕ) (lines : List Stmt) (locks : List Need) (es : List Entry) → IsSound s → IsOrdered s → AllFit s es → b < length s.branches
    → AllWithin (LockOf locks) (whole s b lines).needs → AllSpare (LockOf locks) es → whole (apply_all s es) b lines ≡ whole s b lines
