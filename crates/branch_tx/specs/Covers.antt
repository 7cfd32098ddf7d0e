-- Which statements a granted transaction answers by itself.
use Rattle.std.specs.Prelude.{◌≡◌, ℕ, ◌||◌, ◌&&◌, is_some, cond, Bool, true, false, List, Option, Some, None}
use Rattle.std.specs.List.{list_all}
use Rattle.db_value.specs.declared.version.VersionName.{VersionName}
use Rattle.db_store.specs.Dataset.{Dataset, head_of}
use Rattle.stmt_text.specs.declared.stmt.Stmt.{Stmt}
use Rattle.stmt_text.specs.declared.stmt.Stmt.TheVariants.{Insert, Update, Delete, Get, Scan, Join, Minus}
use Rattle.stmt_text.specs.declared.stmt.ScanOver.{ScanOver}
use Rattle.stmt_text.specs.declared.stmt.ScanOver.TheVariants.{Current, Named, Heads}
use Rattle.db_store.specs.Found.{found, branch_names, plain}
use Rattle.branch_tx.specs.Found.{source_of}
use Rattle.branch_tx.specs.Alone.{ground_of}
use Rattle.branch_tx.specs.Granted.{Granted, has_done, is_current, lent_table, source_in, ground_in, tx_in, acted}
use Rattle.line_needs.specs.Early.{is_early}
use Rattle.branch_tx.specs.Frame.{step_over}

-- its branch is granted exclusively
abbrev pub holds_alone : Option (Bool × Bool) → Bool
holds_alone None = false
holds_alone (Some h) = h.0

-- the version was lent, or its branch is granted where it is the branch's plain name
abbrev pub has_version : Granted → VersionName → Bool
has_version g v = cond (is_current g v) (is_some g.held) (is_some (lent_table g.lent v))

-- where no version is named, the branch is read
abbrev pub has_at : Granted → Option VersionName → Bool
has_at g None = is_some g.held
has_at g (Some v) = has_version g v

-- the branches were noted, and each was lent or is granted
abbrev pub has_heads : Granted → Option (List (List ℕ)) → Bool
has_heads g None = false
has_heads g (Some names) = list_all (λ name. has_version g (plain name)) names

-- whether each version that a scan reads is at hand
abbrev pub has_over : Granted → ScanOver → Bool
has_over g Current = is_some g.held
has_over g (Named names) = list_all (has_version g) names
has_over g Heads = has_heads g g.heads

-- all that the statement reads or changes is granted
abbrev pub is_granted : Granted → Stmt → Bool
is_granted g (Insert name key fields) = holds_alone g.held
is_granted g (Update name key sets) = holds_alone g.held
is_granted g (Delete name key) = holds_alone g.held
is_granted g (Get name key at) = has_at g at
is_granted g (Scan name over terms) = has_over g over
is_granted g (Join left right v w terms) = has_version g v && has_version g w
is_granted g (Minus name v w) = has_version g v && has_version g w
is_granted g _ = false

-- the statement is refused early, or all that it needs is granted
abbrev pub covers : Granted → Stmt → Bool
covers g x = is_early g.schema true (has_done g) x || is_granted g x

-- what was granted to it is what branch b of the dataset has, and its versions
pub record IsGrantedOn (g : Granted) (d : Dataset) (b : ℕ) : Type 0 where
  pub schema : g.schema ≡ d.schema
  pub head : is_some g.held ≡ true → g.head ≡ head_of d b
  pub ground : is_some g.held ≡ true → ground_in g ≡ ground_of d b
  pub sources : (v : VersionName) → has_version g v ≡ true → source_in g v ≡ source_of b (found d v)
  pub heads : (names : List (List ℕ)) → g.heads ≡ Some names → names ≡ branch_names d

-- what it answers to a statement that it covers is one line more of the transaction
abbrev pub CoveredLaw : Type 0
CoveredLaw = (g : Granted) (d : Dataset) (b : ℕ) (x : Stmt) → IsGrantedOn g d b → covers g x ≡ true → acted g x ≡ step_over d b (tx_in g) x
