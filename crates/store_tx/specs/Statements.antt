-- What statements do over the head of a branch.
use Rattle.std.specs.Prelude.{ℕ, Bool, List, None, Option, Some, [], false, length, map, true, ◌<◌, ◌∷◌, ◌≡◌, ◌⊎◌}
use Rattle.branch_tx.specs.Act.{Outcome, Tx, act, refused}
use Rattle.branch_tx.specs.Alone.{branch_as, branch_of, commit_entry, commit_reply, fresh, ground_of, merge_named, merge_of, on_of}
use Rattle.branch_tx.specs.Covers.{covers}
use Rattle.branch_tx.specs.Found.{first_lacking, lacking, source_of}
use Rattle.branch_tx.specs.Frame.{step_over}
use Rattle.branch_tx.specs.Granted.{Granted, tx_in, has_done}
use Rattle.branch_tx.specs.Keeping.{over_table}
use Rattle.branch_tx.specs.Shown.{Shown}
use Rattle.store_tx.specs.Ends.{entry_at}
use Rattle.store_tx.specs.Keeps.{Keeps, HasNeeds, KeepsWith, needs_in}
use Rattle.db_store.specs.Dataset.{Dataset, branch_named, head_of}
use Rattle.db_store.specs.Found.{branch_names, found, plain}
use Rattle.db_store.specs.Overlay.{Overlay, untouched}
use Rattle.db_store.specs.Report.{lines_of}
use Rattle.db_store.specs.State.{State, dataset_of}
use Rattle.db_value.specs.declared.condition.Prefer.{Prefer}
use Rattle.lock_table.specs.declared.need.Need.{Need}
use Rattle.db_value.specs.Text.{is_name}
use Rattle.line_needs.specs.Needs.{exclusive, lock_of}
use Rattle.db_value.specs.declared.entry.Entry.{Entry}
use Rattle.db_value.specs.declared.entry.Entry.TheVariants.{Branch as BranchEntry}
use Rattle.db_value.specs.declared.reply.Refusal.{Refusal}
use Rattle.db_value.specs.declared.reply.Reply.{Reply}
use Rattle.db_value.specs.declared.reply.Reply.TheVariants.{Layout}
use Rattle.db_value.specs.declared.version.VersionName.{VersionName}
use Rattle.db_value.specs.declared.version.VersionPlace.{VersionPlace}
use Rattle.lock_table.specs.Rows.{Row}
use Rattle.stmt_text.specs.declared.stmt.ScanOver.{ScanOver}
use Rattle.stmt_text.specs.declared.stmt.ScanOver.TheVariants.{Current, Heads, Named}
use Rattle.stmt_text.specs.declared.stmt.Stmt.{Stmt}
use Rattle.stmt_text.specs.declared.stmt.Stmt.TheVariants.{Abort, Begin, Branch, Checkpoint, Commit, Graph, LogOf, Merge, On, Segments}

-- a statement that reads or changes records, or merges
abbrev pub act_over : Dataset → ℕ → Tx (List Overlay) → Stmt → Outcome (List Overlay)
act_over d b tx (Merge name prefer) = merge_of (over_table (head_of d b)) d b tx name prefer
act_over d b tx x = act (over_table (head_of d b)) (ground_of d b) (λ v. source_of b (found d v)) (branch_names d) tx x

-- a statement that reads or changes records
abbrev pub IsAct : Stmt → Type 0
IsAct (Begin room) = ⊥
IsAct Commit = ⊥
IsAct Abort = ⊥
IsAct (On name) = ⊥
IsAct (LogOf name) = ⊥
IsAct Graph = ⊥
IsAct Segments = ⊥
IsAct Checkpoint = ⊥
IsAct (Branch name origin) = ⊥
IsAct (Merge name prefer) = ⊥
IsAct _ = Unit {0}

-- or it merges
abbrev pub IsWork : Stmt → Type 0
IsWork (Merge name prefer) = Unit {0}
IsWork x = IsAct x

-- the entry of changes over the head as a commit, and of the transaction whose last line is x
abbrev pub commit_over : Dataset → ℕ → Tx (List Overlay) → Option Entry
commit_over d b tx = commit_entry (over_table (head_of d b)) d.schema b tx

-- what a statement that ends a transaction on branch b logs
abbrev pub entry_over : Dataset → ℕ → Stmt → Tx (List Overlay) → Option Entry
entry_over d b x tx = entry_at (over_table (head_of d b)) d.schema x b tx

-- a statement inside an open transaction
abbrev pub step_in : Dataset → ℕ → Granted → Stmt → Outcome (List Overlay)
step_in d b g x = step_over d b (tx_in g) x

-- a statement that is a transaction of its own, or begins one
abbrev pub step_out : Dataset → ℕ → Stmt → Outcome (List Overlay)
step_out d b x = step_over d b (fresh untouched) x

-- the entry of such a transaction
abbrev pub entry_out : Dataset → ℕ → Stmt → Option Entry
entry_out d b x = entry_over d b x (step_out d b x).tx

-- what is told to a commit of changes over the head
abbrev pub told_over : Dataset → ℕ → Tx (List Overlay) → Reply
told_over d b tx = commit_reply (over_table (head_of d b)) d b tx

-- a transaction that was begun and has done nothing
abbrev pub begun_tx : ℕ → Tx (List Overlay)
begun_tx room = record { begun = true; room = room; work = untouched; second = None; made = None; moved = None }

-- a transaction on branch b has been opened
abbrev pub IsBegun : Dataset → ℕ → ℕ → Option Granted → Type 0
IsBegun d b room None = ⊥
IsBegun d b room (Some g) = ((rows : List Row) (s : ℕ) → Keeps d rows s b g) × (tx_in g ≡ begun_tx room)

-- a transaction under which the head of its branch was put, with what the view of it shows
abbrev pub held_by : Dataset → ℕ → Bool → Shown → Granted → Granted
held_by d b alone below g = record g { held = Some (alone, (ground_of d b).full); head = head_of d b; below = below }

-- why the version that a look-up names stands for nothing, if it does
abbrev pub lacking_at : Dataset → ℕ → Option VersionName → Option Refusal
lacking_at d b None = None
lacking_at d b (Some v) = lacking (source_of b (found d v))

-- why the first of several versions that isn't there isn't
abbrev pub lacking_of : Dataset → ℕ → List VersionName → Option Refusal
lacking_of d b names = first_lacking (map (λ v. source_of b (found d v)) names)

-- and the first that a scan goes over
abbrev pub lacking_over : Dataset → ℕ → ScanOver → Option Refusal
lacking_over d b Current = None
lacking_over d b (Named names) = lacking_of d b names
lacking_over d b Heads = lacking_of d b (map plain (branch_names d))

-- what a line is told on a state whose dataset gives r: `segments` is told the layout, and every other line r
abbrev pub told_on : State → Stmt → Reply → Reply
told_on s Segments r = Layout (lines_of s)
told_on s _ r = r

-- what a statement that reads or changes records, or merges, does in a transaction on a state
abbrev pub acted_over : State → ℕ → Granted → Stmt → Outcome (List Overlay)
acted_over st b g x = act_over (dataset_of st) b (tx_in g) x

-- and what the merge of another branch does
abbrev pub merged_over : State → ℕ → Granted → Prefer → ℕ → Outcome (List Overlay)
merged_over st b g prefer other = merge_named (over_table (head_of (dataset_of st) b)) (dataset_of st) b (tx_in g) [] prefer (Some other)

-- a statement that changes nothing is refused for this
abbrev pub IsRefusedFor : State → ℕ → Granted → Stmt → Refusal → Type 0
IsRefusedFor st b g x why = acted_over st b g x ≡ refused (tx_in g) why

-- the transaction is what the outcome makes of it, and keeps what it was granted for whoever has these needs
pub record GoesOn (st : State) (b : ℕ) (ns : List Need) (o : Outcome (List Overlay)) (g h : Granted) : Type 0 where
  pub tx : tx_in h ≡ o.tx
  pub keeps : KeepsWith st b ns g h

-- a transaction in which this statement can be done: some session has its needs, and if nothing was done, nothing is touched
pub record MayWork (st : State) (b : ℕ) (x : Stmt) (g : Granted) : Type 0 where
  pub needs : HasNeeds st b (needs_in st b g x) g
  pub clean : has_done g ≡ false → g.overlays ≡ untouched

-- the statement reads or changes records, and some session has its needs
pub record MayAct (st : State) (b : ℕ) (x : Stmt) (g : Granted) : Type 0 where
  pub acts : IsAct x
  pub needs : HasNeeds st b (needs_in st b g x) g

-- the statement reads or changes records, or merges, and it can be done in the transaction
pub record MayActOrMerge (st : State) (b : ℕ) (x : Stmt) (g : Granted) : Type 0 where
  pub works : IsWork x
  pub may : MayWork st b x g

-- the other branch is there, some session has the transaction's own branch alone, and nothing was done or touched
pub record MayMergeHead (st : State) (b other : ℕ) (g : Granted) : Type 0 where
  pub there : other < length (dataset_of st).branches
  pub needs : HasNeeds st b (exclusive (lock_of b) ∷ []) g
  pub first : has_done g ≡ false
  pub untouched : g.overlays ≡ untouched

-- a transaction answers a statement by itself, or the statement names a version that isn't there
abbrev pub IsReady : State → ℕ → Stmt → Granted → Type 0
IsReady st b x g = (covers g x ≡ true) ⊎ ((why : Refusal) × IsRefusedFor st b g x why)

-- a new branch that a statement makes has a name
abbrev pub HasName : Stmt → Type 0
HasName (Branch name origin) = is_name name ≡ true
HasName _ = Unit {0}

-- a new branch of a made place, and of a version that is named
abbrev pub branched : Dataset → List ℕ → VersionPlace → Outcome (List Overlay)
branched d name at = branch_as (fresh untouched) name at None (branch_named d name) (length d.branches)

-- the end of a `branch` outside a transaction
abbrev pub branch_out : Dataset → List ℕ → VersionName → Outcome (List Overlay)
branch_out d name origin = branch_of d (fresh untouched) name (found d origin)

-- what a made branch logs
abbrev pub branch_entry : Option (List ℕ × VersionPlace) → Option Entry
branch_entry None = None
branch_entry (Some new) = Some (BranchEntry new.0 new.1)

-- the session moves to the branch with a name
abbrev pub moved_out : Dataset → List ℕ → Outcome (List Overlay)
moved_out d name = on_of (fresh untouched) name (branch_named d name)
