-- What a transaction keeps of a dataset, and the needs that are granted for it.
use Rattle.std.specs.Prelude.{ℕ, Bool, List, None, Option, Some, [], false, is_some, length, map, take, true, ◌<◌, ◌++◌, ◌∷◌, ◌≡◌}
use Rattle.branch_tx.specs.Alone.{ground_of}
use Rattle.branch_tx.specs.Found.{Other, source_of}
use Rattle.branch_tx.specs.Frame.{Within}
use Rattle.branch_tx.specs.Granted.{Granted, tx_in, has_done, AreAllOf}
use Rattle.db_store.specs.Dataset.{Dataset, branch_at, head_of}
use Rattle.db_store.specs.Found.{branch_names, found}
use Rattle.db_store.specs.Overlay.{untouched}
use Rattle.db_store.specs.State.{State, dataset_of}
use Rattle.stmt_text.specs.declared.stmt.Stmt.{Stmt}
use Rattle.db_store.specs.Table.{Table}
use Rattle.db_value.specs.declared.version.VersionName.{VersionName}
use Rattle.line_needs.specs.Needs.{catalogue, exclusive, found_needs, lock_of, needs}
use Rattle.lock_table.specs.Grants.{Has, row}
use Rattle.lock_table.specs.Rows.{Row}
use Rattle.lock_table.specs.declared.need.Need.{Need}

-- a session has these needs too
abbrev pub tagged : ℕ → List Need → List Row → List Row
tagged session ns rows = map (row session) ns ++ rows

-- the session has a need on the lock
abbrev pub OwnedBy : List Row → ℕ → ℕ → Type 0
OwnedBy rows s lock = (e : Bool) × Has rows (row s (record { lock = lock; exclusive = e }))

-- the session has all of these needs
abbrev pub AllGranted : List Row → ℕ → List Need → Type 0
AllGranted rows s ns = (n : Need) → Has ns n → Has rows (row s n)

-- the branch's head is under the working table, with whether the branch is full, and the session has a need on the branch
pub record HasHead (d : Dataset) (rows : List Row) (s b : ℕ) (g : Granted) (full : Bool) : Type 0 where
  pub head_is : g.head ≡ head_of d b
  pub full_is : full ≡ (ground_of d b).full
  pub owned : OwnedBy rows s (lock_of b)

-- nothing is touched, and nothing merged
abbrev pub IsClean : Granted → Type 0
IsClean g = (g.overlays ≡ untouched) × (g.second ≡ None)

-- how a branch is held: as long as it isn't held exclusively, nothing is touched or merged
abbrev pub HeldFor : Dataset → List Row → ℕ → ℕ → Granted → Option (Bool × Bool) → Type 0
HeldFor d rows s b g None = IsClean g
HeldFor d rows s b g (Some (false, full)) = IsClean g × HasHead d rows s b g full
HeldFor d rows s b g (Some (true, full)) = Has rows (row s (exclusive (lock_of b))) × HasHead d rows s b g full

-- each version that was lent is what its name stands for, and the session has the needs of the name
abbrev pub AllLent : Dataset → List Row → ℕ → ℕ → List (VersionName × Table) → Type 0
AllLent d rows s b [] = Unit {0}
AllLent d rows s b (l ∷ ls) = ((source_of b (found d l.0) ≡ Other l.1) × Within (OwnedBy rows s) (found_needs (found d l.0))) × AllLent d rows s b ls

-- the list of all branches, once it was noted, is that of the dataset, and the session has a need on the catalogue
abbrev pub HeadsFor : Dataset → List Row → ℕ → Option (List (List ℕ)) → Type 0
HeadsFor d rows s None = Unit {0}
HeadsFor d rows s (Some names) = (names ≡ branch_names d) × OwnedBy rows s catalogue

-- what a transaction of the session keeps of branch b and of other versions is that of the dataset
pub record Keeps (d : Dataset) (rows : List Row) (s b : ℕ) (g : Granted) : Type 0 where
  pub schema : g.schema ≡ d.schema
  pub name : g.name ≡ (branch_at d b).name
  pub held : HeldFor d rows s b g g.held
  pub lent : AllLent d rows s b g.lent
  pub heads : HeadsFor d rows s g.heads

-- the branch is there, and the transaction has the schema and views of the state
pub record IsOn (st : State) (b : ℕ) (g : Granted) : Type 0 where
  pub there : b < length (dataset_of st).branches
  pub schema : g.schema ≡ (dataset_of st).schema
  pub shown : AreAllOf st g

-- the branch is there, for some session the transaction keeps what it was granted, and its views are of the state
pub record IsKept (st : State) (b : ℕ) (g : Granted) : Type 0 where
  pub there : b < length (dataset_of st).branches
  pub rows : List Row
  pub session : ℕ
  pub keeps : Keeps (dataset_of st) rows session b g
  pub shown : AreAllOf st g

-- and that session has these needs
pub record HasNeeds (st : State) (b : ℕ) (ns : List Need) (g : Granted) : Type 0 where
  pub kept : IsKept st b g
  pub granted : AllGranted kept.rows kept.session ns

-- where a session has these needs, the transaction keeps for it what it kept before, and what it was granted since
abbrev pub KeepsWith : State → ℕ → List Need → Granted → Granted → Type 0
KeepsWith st b ns g h = (rows : List Row) (s : ℕ) → Keeps (dataset_of st) rows s b g → AllGranted rows s ns → Keeps (dataset_of st) rows s b h

-- the same for one need
abbrev pub KeepsBy : State → ℕ → Need → Granted → Granted → Type 0
KeepsBy st b n g h = (rows : List Row) (s : ℕ) → Keeps (dataset_of st) rows s b g → Has rows (row s n) → Keeps (dataset_of st) rows s b h

-- what a transaction needs of its own branch
abbrev pub head_need : ℕ → Bool → Need
head_need b alone = record { lock = lock_of b; exclusive = alone }

-- what a statement needs in an open transaction
abbrev pub needs_in : State → ℕ → Granted → Stmt → List Need
needs_in st b g x = needs (dataset_of st) b true (has_done g) x

-- A transaction that was taken back: it is what its lines made, and keeps of any dataset whatever it kept.
abbrev pub IsBack : ℕ → Granted → Granted → Type 0
IsBack b g h = (tx_in h ≡ tx_in g) × ((d : Dataset) (rows : List Row) (s : ℕ) → Keeps d rows s b g → Keeps d rows s b h)

-- a transaction that was granted more, and changed nothing
pub record IsMore (g h : Granted) : Type 0 where
  pub schema : h.schema ≡ g.schema
  pub name : h.name ≡ g.name
  pub held : is_some g.held ≡ true → is_some h.held ≡ true
  pub head : is_some g.held ≡ true → h.head ≡ g.head
  pub overlays : h.overlays ≡ g.overlays
  pub room : h.room ≡ g.room
  pub second : h.second ≡ g.second
  pub lent : take (length g.lent) h.lent ≡ g.lent
  pub heads : is_some g.heads ≡ true → h.heads ≡ g.heads

-- and its views are of the state
pub record GrantsMore (st : State) (g h : Granted) : Type 0 where
  pub more : IsMore g h
  pub shown : AreAllOf st h
