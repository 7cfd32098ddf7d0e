-- One transaction run alone on a dataset, on a branch b. Lists of lines are newest first.
use Rattle.std.specs.Prelude.{ℕ, ◌||◌, nat_lt, nat_le, is_some, cond, Bool, true, false, List, [], ◌∷◌, length, Option, Some, None}
use Rattle.db_value.specs.declared.condition.Prefer.{Prefer}
use Rattle.db_value.specs.declared.schema.Relation.{Relation}
use Rattle.db_value.specs.declared.version.VersionPlace.{VersionPlace}
use Rattle.db_value.specs.declared.entry.Entry.{Entry}
use Rattle.db_value.specs.declared.entry.Entry.TheVariants.{Commit as CommitEntry, Branch as BranchEntry}
use Rattle.db_value.specs.declared.reply.Reply.{Reply}
use Rattle.db_value.specs.declared.reply.Reply.TheVariants.{Done, Made}
use Rattle.db_value.specs.declared.reply.Refusal.{Refusal}
use Rattle.db_value.specs.declared.reply.Refusal.TheVariants.{NoBranch as RefusedBranch, InTransaction, NoTransaction, NotFirst, BranchThere, BranchesFull}
use Rattle.db_store.specs.Overlay.{Overlay, untouched}
use Rattle.db_store.specs.RowWidths.{all_widths}
use Rattle.db_store.specs.Table.{Table}
use Rattle.db_store.specs.Dataset.{Dataset, branch_at, branch_named, head_of, head_place, table_at}
use Rattle.db_store.specs.Order.{common}
use Rattle.db_store.specs.Fits.{most_branches, most_versions}
use Rattle.stmt_text.specs.declared.stmt.Stmt.{Stmt}
use Rattle.stmt_text.specs.declared.stmt.Stmt.TheVariants.{Begin, Commit, Abort, On, LogOf, Graph, Segments, Checkpoint, Branch, Merge}
use Rattle.branch_tx.specs.Keeping.{Keeping, Private, private_copy, privately, over_table}
use Rattle.db_store.specs.Found.{Found, Fixed, Head, NoBranch, NoPosition, branch_names, found, lack}
use Rattle.version_log.specs.Log.{log_of}
use Rattle.version_log.specs.Graph.{graph_of}
use Rattle.branch_tx.specs.Found.{source_of}
use Rattle.branch_tx.specs.Act.{Tx, Outcome, Ground, refused, answered, act}
use Rattle.branch_tx.specs.Merging.{merge_in}

-- the room of a transaction for which none is told
abbrev pub usual_room : ℕ
usual_room = 1024

-- the room that `begin` asks for, or the usual room
abbrev pub room_of : Option ℕ → ℕ
room_of None = usual_room
room_of (Some n) = n

-- a transaction that has done nothing
abbrev pub fresh : {W : Type 0} → W → Tx W
fresh work = record { begun = false; room = usual_room; work = work; second = None; made = None; moved = None }

-- the branch's name and fullness, and the schema
abbrev pub ground_of : Dataset → ℕ → Ground
ground_of d b = record { schema = d.schema; name = (branch_at d b).name; full = nat_le most_versions (length (branch_at d b).versions) }

-- the version that a branch gets next
abbrev pub made_next : Dataset → ℕ → Reply
made_next d b = Made (branch_at d b).name (length (branch_at d b).versions)

-- a change that is a transaction of its own tells the version that it made
abbrev pub told : Dataset → ℕ → Bool → Reply → Reply
told d b true reply = reply
told d b false Done = made_next d b
told d b false reply = reply

-- a line's end, with the reply that its session is told
abbrev pub told_of : {W : Type 0} → Dataset → ℕ → Bool → Outcome W → Outcome W
told_of d b begun o = record { tx = o.tx; reply = told d b begun o.reply }

-- the table of the common ancestor of two branches' heads that was made last
abbrev pub common_table : Dataset → ℕ → ℕ → Table
common_table d b c = table_at d (common d (head_place d b) (head_place d c))

-- where the named version stands, if there is one
abbrev pub place_in : Found → VersionPlace
place_in (NoBranch name) = record { branch = 0; position = 0 }
place_in (NoPosition b name n) = record { branch = b; position = 0 }
place_in (Head at table) = at
place_in (Fixed at table) = at

-- `on` moves the session to the branch, if there is one of that name
abbrev pub on_of : {W : Type 0} → Tx W → List ℕ → Option ℕ → Outcome W
on_of tx name None = refused tx (RefusedBranch name)
on_of tx name (Some b) = answered (record tx { moved = Some b }) Done

-- a new branch of a version: the version's name is looked at first, then the branch's, then the number of branches
abbrev pub branch_as : {W : Type 0} → Tx W → List ℕ → VersionPlace → Option Refusal → Option ℕ → ℕ → Outcome W
branch_as tx name at (Some why) there count = refused tx why
branch_as tx name at None (Some old) count = refused tx (BranchThere name)
branch_as tx name at None None count = cond (nat_lt count most_branches) (answered (record tx { made = Some (name, at) }) (Made name 0)) (refused tx BranchesFull)

-- `branch` with the version that its origin names
abbrev pub branch_of : {W : Type 0} → Dataset → Tx W → List ℕ → Found → Outcome W
branch_of d tx name f = branch_as tx name (place_in f) (lack f) (branch_named d name) (length d.branches)

module _ {W : Type 0} (k : Keeping W) where
  -- a transaction has something to commit where it touched a key or merged
  abbrev pub has_changed : Tx W → Bool
  has_changed tx = nat_lt 0 (k.touches tx.work) || is_some tx.second

  abbrev pub commit_reply : Dataset → ℕ → Tx W → Reply
  commit_reply d b tx = cond (has_changed tx) (made_next d b) Done

  -- The head of a named branch is merged into branch b, over the common ancestor that was made last. Nothing is touched yet, so the working table is the head of b.
  abbrev pub merge_named : Dataset → ℕ → Tx W → List ℕ → Prefer → Option ℕ → Outcome W
  merge_named d b tx name prefer None = refused tx (RefusedBranch name)
  merge_named d b tx name prefer (Some c) = merge_in k (ground_of d b) tx (head_place d c) prefer (common_table d b c) (head_of d b) (head_of d c)

  -- a merge comes before every change
  abbrev pub merge_of : Dataset → ℕ → Tx W → List ℕ → Prefer → Outcome W
  merge_of d b tx name prefer = cond (has_changed tx) (refused tx NotFirst) (merge_named d b tx name prefer (branch_named d name))

  -- one line, after lines that left tx; what `segments` is told of the layout, and what `checkpoint` asks of a log, isn't said here, since a dataset has none
  abbrev pub step : Dataset → ℕ → Tx W → Stmt → Outcome W
  step d b tx (Begin room) = cond tx.begun (refused tx InTransaction) (answered (record tx { begun = true; room = room_of room }) Done)
  step d b tx Commit = cond tx.begun (answered tx (commit_reply d b tx)) (refused tx NoTransaction)
  step d b tx Abort = cond tx.begun (answered tx Done) (refused tx NoTransaction)
  step d b tx (On name) = cond tx.begun (refused tx InTransaction) (on_of tx name (branch_named d name))
  step d b tx (LogOf name) = answered tx (log_of d name (branch_named d name))
  step d b tx Graph = answered tx (graph_of d)
  step d b tx Segments = answered tx Done
  step d b tx Checkpoint = cond tx.begun (refused tx InTransaction) (answered tx Done)
  step d b tx (Branch name origin) = cond tx.begun (refused tx InTransaction) (branch_of d tx name (found d origin))
  step d b tx (Merge name prefer) = told_of d b tx.begun (merge_of d b tx name prefer)
  step d b tx x = told_of d b tx.begun (act k (ground_of d b) (λ v. source_of b (found d v)) (branch_names d) tx x)

  abbrev pub after_lines : W → Dataset → ℕ → List Stmt → Tx W
  after_lines start d b [] = fresh start
  after_lines start d b (x ∷ xs) = (step d b (after_lines start d b xs) x).tx

  -- the reply to a line after others of its transaction
  abbrev pub reply_after : W → Dataset → ℕ → List Stmt → Stmt → Reply
  reply_after start d b xs x = (step d b (after_lines start d b xs) x).reply

  -- its changes as a commit on a branch of a dataset with a schema, whose widths they have
  abbrev pub commit_entry : List Relation → ℕ → Tx W → Option Entry
  commit_entry schema b tx = cond (has_changed tx) (Some (CommitEntry b tx.second (k.changes (all_widths schema) tx.work))) None

  abbrev pub entry_made : List Relation → ℕ → Tx W → Option (List ℕ × VersionPlace) → Option Entry
  entry_made schema b tx None = commit_entry schema b tx
  entry_made schema b tx (Some new) = Some (BranchEntry new.0 new.1)

  -- the entry of a transaction that ends
  abbrev pub entry_of : List Relation → ℕ → Tx W → Option Entry
  entry_of schema b tx = entry_made schema b tx tx.made

-- a transaction's lines on a whole private table, which is a copy of the branch's head
abbrev pub alone : Dataset → ℕ → List Stmt → Tx Private
alone d b xs = after_lines privately (private_copy (head_of d b)) d b xs

-- the reply to a line after others of its transaction
abbrev pub reply_alone : Dataset → ℕ → List Stmt → Stmt → Reply
reply_alone d b xs x = reply_after privately (private_copy (head_of d b)) d b xs x

-- the same with changes over the head
abbrev pub overlaid : Dataset → ℕ → List Stmt → Tx (List Overlay)
overlaid d b xs = after_lines (over_table (head_of d b)) untouched d b xs
