-- What a statement wants, by its text alone: the catalogue, all branches together, and branches by name.
use Rattle.std.specs.Prelude.{ℕ, true, false, List, [], ◌∷◌, ◌++◌, Option, Some, None}
use Rattle.db_value.specs.declared.version.VersionName.{VersionName}
use Rattle.stmt_text.specs.declared.stmt.Stmt.{Stmt}
use Rattle.stmt_text.specs.declared.stmt.Stmt.TheVariants.{On, LogOf, Graph, Segments, Branch as NewBranch, Merge, Insert, Update, Delete, Get, Scan, Join, Minus}
use Rattle.stmt_text.specs.declared.stmt.ScanOver.{ScanOver}
use Rattle.stmt_text.specs.declared.stmt.ScanOver.TheVariants.{Current, Named, Heads as AllHeads}
use Rattle.wait_die.specs.declared.want.WaitLock.{WaitLock}
use Rattle.wait_die.specs.declared.want.WaitLock.TheVariants.{Catalogue, Heads, Branch}
use Rattle.wait_die.specs.declared.want.Want.{Want}

-- a lock, beside others
abbrev pub shared : WaitLock → Want
shared lock = record { lock = lock; exclusive = false }

-- a lock, for one session alone
abbrev pub exclusive : WaitLock → Want
exclusive lock = record { lock = lock; exclusive = true }

-- a version's name wants the catalogue and the branch of that name
abbrev pub version_wants : VersionName → List Want
version_wants v = shared Catalogue ∷ shared (Branch v.branch) ∷ []

-- several names want what each of them does
abbrev pub names_wants : List VersionName → List Want
names_wants [] = []
names_wants (v ∷ vs) = version_wants v ++ names_wants vs

-- the catalogue and all branches
abbrev pub heads_wants : List Want
heads_wants = shared Catalogue ∷ shared Heads ∷ []

-- a look-up reads the current branch, unless it names a version
abbrev pub source_wants : List ℕ → Option VersionName → List Want
source_wants current None = shared (Branch current) ∷ []
source_wants current (Some v) = version_wants v

-- a scan reads the current branch, unless it names versions, or all heads
abbrev pub scan_wants : List ℕ → ScanOver → List Want
scan_wants current Current = shared (Branch current) ∷ []
scan_wants current (Named names) = names_wants names
scan_wants current AllHeads = heads_wants

-- what a statement wants of a session, by the name of the session's current branch
abbrev pub wants : List ℕ → Stmt → List Want
wants current (On name) = shared Catalogue ∷ []
wants current (LogOf name) = shared Catalogue ∷ shared (Branch name) ∷ []
wants current Graph = heads_wants
wants current Segments = heads_wants
wants current (NewBranch name origin) = exclusive Catalogue ∷ shared (Branch origin.branch) ∷ []
wants current (Merge name prefer) = shared Catalogue ∷ shared (Branch name) ∷ exclusive (Branch current) ∷ []
wants current (Insert relation key fields) = exclusive (Branch current) ∷ []
wants current (Update relation key sets) = exclusive (Branch current) ∷ []
wants current (Delete relation key) = exclusive (Branch current) ∷ []
wants current (Get relation key at) = source_wants current at
wants current (Scan relation over terms) = scan_wants current over
wants current (Join left right v w terms) = names_wants (v ∷ w ∷ [])
wants current (Minus relation v w) = names_wants (v ∷ w ∷ [])
wants current _ = []
