-- What a line needs in a transaction on branch b: locks of the catalogue and of branches.
use Rattle.std.specs.Prelude.{ℕ, zero, suc, ◌++◌, cond, Bool, true, false, List, [], ◌∷◌, length, Option, Some, None}
use Rattle.db_value.specs.declared.version.VersionName.{VersionName}
use Rattle.db_store.specs.Dataset.{Dataset, branch_named}
use Rattle.lock_table.specs.declared.need.Need.{Need}
use Rattle.stmt_text.specs.declared.stmt.Stmt.{Stmt}
use Rattle.stmt_text.specs.declared.stmt.Stmt.TheVariants.{On, LogOf, Graph, Segments, Branch, Merge, Insert, Update, Delete, Get, Scan, Join, Minus}
use Rattle.stmt_text.specs.declared.stmt.ScanOver.{ScanOver}
use Rattle.stmt_text.specs.declared.stmt.ScanOver.TheVariants.{Current, Named, Heads}
use Rattle.db_store.specs.Found.{Found, NoBranch, NoPosition, Head, Fixed, found}
use Rattle.line_needs.specs.Early.{is_early}

-- the lock of the catalogue, which is the list of branches
abbrev pub catalogue : ℕ
catalogue = 0

-- the lock of a branch
abbrev pub lock_of : ℕ → ℕ
lock_of b = suc b

-- a lock, beside others
abbrev pub shared : ℕ → Need
shared lock = record { lock = lock; exclusive = false }

-- a lock, for one session alone
abbrev pub exclusive : ℕ → Need
exclusive lock = record { lock = lock; exclusive = true }

-- a name needs what tells that it stands for nothing, or that a branch has no later version; a version that is made stays
abbrev pub found_needs : Found → List Need
found_needs (NoBranch name) = shared catalogue ∷ []
found_needs (NoPosition b name n) = shared (lock_of b) ∷ []
found_needs (Head at table) = shared (lock_of at.branch) ∷ []
found_needs (Fixed at table) = []

-- ---- needs

-- a look-up reads the current branch, where no version is named
abbrev pub source_needs : Dataset → ℕ → Option VersionName → List Need
source_needs d b None = shared (lock_of b) ∷ []
source_needs d b (Some v) = found_needs (found d v)

-- several names need what each of them does
abbrev pub names_needs : Dataset → List VersionName → List Need
names_needs d [] = []
names_needs d (v ∷ vs) = found_needs (found d v) ++ names_needs d vs

-- the locks of the first n branches
abbrev pub branch_needs : ℕ → List Need
branch_needs zero = []
branch_needs (suc n) = branch_needs n ++ shared (lock_of n) ∷ []

-- the catalogue and every branch
abbrev pub all_needs : Dataset → List Need
all_needs d = shared catalogue ∷ branch_needs (length d.branches)

-- a scan reads the current branch, where no version is named; that of all heads needs the catalogue and every branch
abbrev pub scan_needs : Dataset → ℕ → ScanOver → List Need
scan_needs d b Current = shared (lock_of b) ∷ []
scan_needs d b (Named names) = names_needs d names
scan_needs d b Heads = all_needs d

-- a branch stays, and only that it isn't there needs the catalogue
abbrev pub on_needs : Option ℕ → List Need
on_needs None = shared catalogue ∷ []
on_needs (Some b) = []

-- what a log needs: of one branch, or of all
abbrev pub log_needs : Option ℕ → List Need
log_needs None = shared catalogue ∷ []
log_needs (Some b) = shared (lock_of b) ∷ []

-- a merge reads the branch that it names and changes the current one
abbrev pub merge_needs : ℕ → Option ℕ → List Need
merge_needs b None = shared catalogue ∷ []
merge_needs b (Some c) = exclusive (lock_of b) ∷ shared (lock_of c) ∷ []

-- the needs of a line that isn't refused early
abbrev pub stmt_needs : Dataset → ℕ → Stmt → List Need
stmt_needs d b (On name) = on_needs (branch_named d name)
stmt_needs d b (LogOf name) = log_needs (branch_named d name)
stmt_needs d b Graph = all_needs d
stmt_needs d b Segments = all_needs d
stmt_needs d b (Branch name origin) = exclusive catalogue ∷ found_needs (found d origin)
stmt_needs d b (Merge name prefer) = merge_needs b (branch_named d name)
stmt_needs d b (Insert name key fields) = exclusive (lock_of b) ∷ []
stmt_needs d b (Update name key sets) = exclusive (lock_of b) ∷ []
stmt_needs d b (Delete name key) = exclusive (lock_of b) ∷ []
stmt_needs d b (Get name key at) = source_needs d b at
stmt_needs d b (Scan name over terms) = scan_needs d b over
stmt_needs d b (Join left right v w terms) = names_needs d (v ∷ w ∷ [])
stmt_needs d b (Minus name v w) = names_needs d (v ∷ w ∷ [])
stmt_needs d b _ = []

-- the needs of a line in a transaction, begun or not, which has changed something or not; a line that is refused later keeps them
abbrev pub needs : Dataset → ℕ → Bool → Bool → Stmt → List Need
needs d b begun changed x = cond (is_early d.schema begun changed x) [] (stmt_needs d b x)
