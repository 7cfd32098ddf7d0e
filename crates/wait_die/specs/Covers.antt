-- Wants by name cover needs by number: lines with conflicting needs have conflicting wants.
use Rattle.std.specs.Prelude.{◌≡◌, ℕ, ◌==◌, not, ◌&&◌, ◌||◌, Bool, true, false, List, Option, Some, None}
use Rattle.db_store.specs.Dataset.{Dataset, branch_named}
use Rattle.lock_table.specs.declared.need.Need.{Need}
use Rattle.lock_table.specs.Rows.{conflict as needs_conflict}
use Rattle.lock_table.specs.Grants.{Has}
use Rattle.stmt_text.specs.declared.stmt.Stmt.{Stmt}
use Rattle.line_needs.specs.Needs.{catalogue, lock_of, needs}
use Rattle.wait_die.specs.declared.want.WaitLock.{WaitLock}
use Rattle.wait_die.specs.declared.want.WaitLock.TheVariants.{Catalogue, Heads, Branch}
use Rattle.wait_die.specs.declared.want.Want.{Want}
use Rattle.wait_die.specs.Conflict.{conflict, includes}
use Rattle.wait_die.specs.Wants.{wants}

-- there is a branch, and this is its lock
abbrev pub is_lock_of : Option ℕ → ℕ → Bool
is_lock_of None lock = false
is_lock_of (Some b) lock = lock == lock_of b

-- the lock by name stands for the lock by number, or for all of its kind
abbrev pub stands_for : Dataset → WaitLock → ℕ → Bool
stands_for d Catalogue lock = lock == catalogue
stands_for d Heads lock = not (lock == catalogue)
stands_for d (Branch name) lock = is_lock_of (branch_named d name) lock

-- the want is on a lock that stands for the need's, and is exclusive where the need is
abbrev pub covers : Dataset → Want → Need → Bool
covers d w n = stands_for d w.lock n.lock && (w.exclusive || not n.exclusive)

-- one of the wants covers the need
abbrev pub IsCovered : Dataset → List Want → Need → Type 0
IsCovered d ws n = (w : Want) × Has ws w × (covers d w n ≡ true)

-- each need of a line on branch b is covered by what its statement wants, by the name of b
abbrev pub NeedsLaw : Type 0
NeedsLaw = (d : Dataset) (b : ℕ) (current : List ℕ) → branch_named d current ≡ Some b
    → (begun changed : Bool) (x : Stmt) (n : Need) → Has (needs d b begun changed x) n → IsCovered d (wants current x) n

-- wants that cover conflicting needs conflict
abbrev pub ConflictLaw : Type 0
ConflictLaw = (d : Dataset) (w v : Want) (n m : Need) → covers d w n ≡ true → covers d v m ≡ true → needs_conflict n m ≡ true → conflict w v ≡ true

-- a want covers what a want that it includes covers
abbrev pub CoverLaw : Type 0
CoverLaw = (d : Dataset) (v w : Want) (n : Need) → includes v w ≡ true → covers d w n ≡ true → covers d v n ≡ true

-- what a want covers stays so, as long as branches keep their names
abbrev pub StaysLaw : Type 0
StaysLaw = (d e : Dataset) → ((name : List ℕ) (b : ℕ) → branch_named d name ≡ Some b → branch_named e name ≡ Some b)
    → (w : Want) (n : Need) → covers d w n ≡ true → covers e w n ≡ true

-- two sessions' wants, one of each, conflict
abbrev pub HaveConflict : List Want → List Want → Type 0
HaveConflict ws vs = (w : Want) × (v : Want) × Has ws w × Has vs v × (conflict w v ≡ true)

-- lines with conflicting needs have conflicting wants
abbrev pub LinesLaw : Type 0
LinesLaw = (d : Dataset) (b c : ℕ) (of to : List ℕ) → branch_named d of ≡ Some b → branch_named d to ≡ Some c
    → (begun changed begun' changed' : Bool) (x y : Stmt) (n m : Need)
    → Has (needs d b begun changed x) n → Has (needs d c begun' changed' y) m → needs_conflict n m ≡ true
    → HaveConflict (wants of x) (wants to y)
