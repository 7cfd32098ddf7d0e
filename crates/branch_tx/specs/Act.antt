-- What a statement that reads or changes records does in a transaction.
use Rattle.std.specs.Prelude.{ℕ, ◌||◌, nat_lt, nat_le, cond, Bool, true, false, List, [], ◌∷◌, length, map, Option, Some, None, Result, Ok, Err}
use Rattle.std.specs.FinMap as finite
use Rattle.std.specs.List.{filter}
use Rattle.db_value.specs.Value.{Value}
use Rattle.db_value.specs.Relations.{columns_at, widths_at}
use Rattle.db_value.specs.Condition.{holds}
use Rattle.db_value.specs.declared.schema.Relation.{Relation}
use Rattle.db_value.specs.declared.record.Record.{Record}
use Rattle.db_value.specs.declared.condition.Set.{Set}
use Rattle.db_value.specs.declared.condition.Term.{Term}
use Rattle.db_value.specs.declared.version.VersionName.{VersionName}
use Rattle.db_value.specs.declared.version.VersionPlace.{VersionPlace}
use Rattle.db_value.specs.declared.reply.Reply.{Reply}
use Rattle.db_value.specs.declared.reply.Reply.TheVariants.{Done, One, Listed, Paired, Refused}
use Rattle.db_value.specs.declared.reply.Refusal.{Refusal}
use Rattle.db_value.specs.declared.reply.Refusal.TheVariants.{Line, InTransaction, NotFirst, NoRelation, NoColumn, KeyThere, KeyMissing, Room, VersionsFull, TableFull, BodyFull}
use Rattle.db_store.specs.Table.{Contents, relation_at, rows_of}
use Rattle.db_store.specs.Fits.{most_keys}
use Rattle.db_store.specs.Body.{commit_size, most_entry}
use Rattle.db_store.specs.RowWidths.{all_widths}
pub use Rattle.db_store.specs.Work.{updated}
pub use Rattle.db_store.specs.Rows.{marked}
pub use Rattle.multi_scan.specs.Multi.{union_marked}
pub use Rattle.version_join.specs.Join.{pairs_of, unlike}
use Rattle.stmt_text.specs.declared.stmt.Stmt.{Stmt}
use Rattle.stmt_text.specs.declared.stmt.Stmt.TheVariants.{Begin, On, Checkpoint, Branch, Merge, Insert, Update, Delete, Get, Scan, Join, Minus}
use Rattle.stmt_text.specs.declared.stmt.NamedSet.{NamedSet}
use Rattle.stmt_text.specs.declared.stmt.ScanOver.{ScanOver}
use Rattle.stmt_text.specs.declared.stmt.ScanOver.TheVariants.{Current, Named, Heads}
use Rattle.line_needs.specs.Columns.{relation_named, resolved}
use Rattle.line_needs.specs.Misfits.{sets_misfit}
use Rattle.line_needs.specs.Early.{row_refusal, terms_refusal}
use Rattle.branch_tx.specs.Keeping.{Keeping}
use Rattle.db_store.specs.Found.{plain}
use Rattle.branch_tx.specs.Found.{Source, Own, Other, Lacking, first_lacking}

-- a transaction: whether `begin` opened it, its room for touched keys, and how it keeps its working table; the second parent that a merge gives, a branch that it makes, and the branch to which it moves its session
pub record Tx (W : Type 0) : Type 0 where
  pub begun : Bool
  pub room : ℕ
  pub work : W
  pub second : Option VersionPlace
  pub made : Option (List ℕ × VersionPlace)
  pub moved : Option ℕ

-- a transaction after a line, and the line's reply
pub record Outcome (W : Type 0) : Type 0 where
  pub tx : Tx W
  pub reply : Reply

-- what a transaction knows of the branch that it works on: the schema, the branch's name, and whether it has as many versions as it can have
pub record Ground : Type 0 where
  pub schema : List Relation
  pub name : List ℕ
  pub full : Bool

-- why a record isn't inserted: the branch is full, the key is there, the relation is full, or the room is used up
abbrev pub insert_refusal : List ℕ → ℕ → ℕ → Option (List Value) → Bool → Bool → Option Refusal
insert_refusal name key room (Some old) space free = Some (KeyThere name key)
insert_refusal name key room None false free = Some (TableFull name)
insert_refusal name key room None true false = Some (Room room)
insert_refusal name key room None true true = None

-- why a record isn't updated or deleted: the branch is full, the key isn't there, or the room is used up
abbrev pub change_refusal : List ℕ → ℕ → ℕ → Option (List Value) → Bool → Option Refusal
change_refusal name key room None free = Some (KeyMissing name key)
change_refusal name key room (Some old) false = Some (Room room)
change_refusal name key room (Some old) true = None

-- what would make the transaction's entry too large is refused
abbrev pub body_refusal : Bool → Option Refusal
body_refusal true = None
body_refusal false = Some BodyFull

-- the record of a key with these fields, if it has any
abbrev pub record_with : ℕ → Option (List Value) → Option Record
record_with key None = None
record_with key (Some fields) = Some (record { key = key; fields = fields })

-- a refused statement leaves the transaction
abbrev pub refused : {W : Type 0} → Tx W → Refusal → Outcome W
refused tx why = record { tx = tx; reply = Refused why }

-- a line with this reply leaves the transaction so
abbrev pub answered : {W : Type 0} → Tx W → Reply → Outcome W
answered tx reply = record { tx = tx; reply = reply }

-- a question is refused where it has a cause for that
abbrev pub unless : {W : Type 0} → Tx W → Option Refusal → Outcome W → Outcome W
unless tx None o = o
unless tx (Some why) o = refused tx why

-- a question with a condition on the rows of a relation
abbrev pub where_known : {W : Type 0} → Tx W → List Relation → ℕ → List Term → ((Record → Bool) → Outcome W) → Outcome W
where_known tx schema r terms ask = unless tx (terms_refusal schema r terms) (ask (holds (columns_at schema r) terms))

-- a branch with as many versions as it can have takes no change
abbrev pub unless_full : {W : Type 0} → Ground → Tx W → Outcome W → Outcome W
unless_full g tx o = cond g.full (refused tx (VersionsFull g.name)) o

module _ {W : Type 0} (k : Keeping W) where
  -- what the working table has at a key
  abbrev pub fields_at : Tx W → ℕ → ℕ → Option (List Value)
  fields_at tx r key = finite.get (k.contents tx.work r) key

  -- there is space for one key more
  abbrev pub has_space : Tx W → ℕ → Bool
  has_space tx r = nat_lt (finite.len (k.contents tx.work r)) most_keys

  -- a key that is touched already needs no room
  abbrev pub has_room : Tx W → ℕ → ℕ → Bool
  has_room tx r key = k.is_touched tx.work r key || nat_lt (k.touches tx.work) tx.room

  -- the entry that a working table makes isn't too large
  abbrev pub is_body : List Relation → Option VersionPlace → W → Bool
  is_body schema second work = nat_le (commit_size second (k.changes (all_widths schema) work)) most_entry

  -- a working table with a second parent after a change or a merge, unless its entry would be too large
  abbrev pub taken_to : List Relation → Tx W → Option VersionPlace → W → Outcome W
  taken_to schema tx second work = unless tx (body_refusal (is_body schema second work)) (answered (record tx { work = work; second = second }) Done)

  -- an accepted change sets one key and touches it
  abbrev pub changed_to : List Relation → Tx W → ℕ → ℕ → Option (List Value) → Option Refusal → Outcome W
  changed_to schema tx r key state (Some why) = refused tx why
  changed_to schema tx r key state None = taken_to schema tx tx.second (k.put tx.work r key state)

  -- a change on a branch that isn't full
  abbrev pub insert_free : List Relation → Tx W → ℕ → List ℕ → ℕ → List Value → Outcome W
  insert_free schema tx r name key fields = changed_to schema tx r key (Some fields) (insert_refusal name key tx.room (fields_at tx r key) (has_space tx r) (has_room tx r key))

  abbrev pub update_free : List Relation → Tx W → ℕ → List ℕ → ℕ → List Set → Outcome W
  update_free schema tx r name key sets = changed_to schema tx r key (updated sets (fields_at tx r key)) (change_refusal name key tx.room (fields_at tx r key) (has_room tx r key))

  abbrev pub delete_free : List Relation → Tx W → ℕ → List ℕ → ℕ → Outcome W
  delete_free schema tx r name key = changed_to schema tx r key None (change_refusal name key tx.room (fields_at tx r key) (has_room tx r key))

  abbrev pub insert_in : Ground → Tx W → ℕ → List ℕ → ℕ → List Value → Outcome W
  insert_in g tx r name key fields = unless_full g tx (insert_free g.schema tx r name key fields)

  abbrev pub insert_of : Ground → Tx W → List ℕ → ℕ → List Value → Option ℕ → Outcome W
  insert_of g tx name key fields None = refused tx (NoRelation name)
  insert_of g tx name key fields (Some r) = unless tx (row_refusal g.schema name fields (Some r)) (insert_in g tx r name key fields)

  abbrev pub update_in : Ground → Tx W → ℕ → List ℕ → ℕ → Result (List Set) (List ℕ) → Option Refusal → Outcome W
  update_in g tx r name key (Err column) misfit = refused tx (NoColumn column)
  update_in g tx r name key (Ok sets) misfit = unless tx misfit (unless_full g tx (update_free g.schema tx r name key sets))

  abbrev pub update_of : Ground → Tx W → List ℕ → ℕ → List NamedSet → Option ℕ → Outcome W
  update_of g tx name key sets None = refused tx (NoRelation name)
  update_of g tx name key sets (Some r) = update_in g tx r name key (resolved (columns_at g.schema r) sets) (sets_misfit (widths_at g.schema r) (columns_at g.schema r) sets)

  abbrev pub delete_of : Ground → Tx W → List ℕ → ℕ → Option ℕ → Outcome W
  delete_of g tx name key None = refused tx (NoRelation name)
  delete_of g tx name key (Some r) = unless_full g tx (delete_free g.schema tx r name key)

  abbrev pub get_from : Tx W → ℕ → ℕ → Source → Outcome W
  get_from tx r key Own = answered tx (One (record_with key (fields_at tx r key)))
  get_from tx r key (Other table) = answered tx (One (record_with key (finite.get (relation_at table r) key)))
  get_from tx r key (Lacking why) = refused tx why

  -- where a look-up reads: the working table, where no version is named
  abbrev pub source_at : (VersionName → Source) → Option VersionName → Source
  source_at sources None = Own
  source_at sources (Some v) = sources v

  abbrev pub get_of : (VersionName → Source) → Tx W → List ℕ → ℕ → Option VersionName → Option ℕ → Outcome W
  get_of sources tx name key at None = refused tx (NoRelation name)
  get_of sources tx name key at (Some r) = get_from tx r key (source_at sources at)

  -- what a version has of a relation
  abbrev pub contents_from : Tx W → ℕ → Source → Contents
  contents_from tx r Own = k.contents tx.work r
  contents_from tx r (Other table) = relation_at table r
  contents_from tx r (Lacking why) = finite.empty

  -- the rows of it for which a condition holds, by key
  abbrev pub rows_from : (Record → Bool) → Tx W → ℕ → Source → List Record
  rows_from p tx r source = filter p (rows_of (contents_from tx r source))

  -- the rows of several versions, each with the versions that have it
  abbrev pub scan_versions : (VersionName → Source) → Tx W → ℕ → (Record → Bool) → List VersionName → Outcome W
  scan_versions sources tx r p names = unless tx (first_lacking (map sources names)) (answered tx (Listed names (union_marked (map (λ v. rows_from p tx r (sources v)) names))))

  abbrev pub scan_over : (VersionName → Source) → List (List ℕ) → Tx W → ℕ → (Record → Bool) → ScanOver → Outcome W
  scan_over sources heads tx r p Current = answered tx (Listed [] (map marked (rows_from p tx r Own)))
  scan_over sources heads tx r p (Named names) = scan_versions sources tx r p names
  scan_over sources heads tx r p Heads = scan_versions sources tx r p (map plain heads)

  abbrev pub scan_of : List Relation → (VersionName → Source) → List (List ℕ) → Tx W → List ℕ → ScanOver → List Term → Option ℕ → Outcome W
  scan_of schema sources heads tx name over terms None = refused tx (NoRelation name)
  scan_of schema sources heads tx name over terms (Some r) = where_known tx schema r terms (λ p. scan_over sources heads tx r p over)

  -- the rows of relation r of a version beside those with their keys of relation s of another
  abbrev pub join_in : Tx W → ℕ → ℕ → Source → Source → (Record → Bool) → Outcome W
  join_in tx r s left right p = unless tx (first_lacking (left ∷ right ∷ [])) (answered tx (Paired (pairs_of (rows_from p tx r left) (contents_from tx s right))))

  abbrev pub join_with : List Relation → Tx W → ℕ → List ℕ → Source → Source → List Term → Option ℕ → Outcome W
  join_with schema tx r name left right terms None = refused tx (NoRelation name)
  join_with schema tx r name left right terms (Some s) = where_known tx schema r terms (join_in tx r s left right)

  abbrev pub join_of : List Relation → Tx W → List ℕ → List ℕ → Source → Source → List Term → Option ℕ → Option ℕ → Outcome W
  join_of schema tx name other left right terms None o = refused tx (NoRelation name)
  join_of schema tx name other left right terms (Some r) o = join_with schema tx r other left right terms o

  -- the rows of a version that another one lacks or has changed
  abbrev pub minus_in : Tx W → ℕ → Source → Source → Outcome W
  minus_in tx r left right = unless tx (first_lacking (left ∷ right ∷ [])) (answered tx (Listed [] (map marked (unlike (rows_of (contents_from tx r left)) (contents_from tx r right)))))

  abbrev pub minus_of : Tx W → List ℕ → Source → Source → Option ℕ → Outcome W
  minus_of tx name left right None = refused tx (NoRelation name)
  minus_of tx name left right (Some r) = minus_in tx r left right

  -- A statement in an open transaction, which isn't an end of it, with the names of all branches. A merge stands here only where it isn't the first to change something. What asks for a log, or for a report, is told elsewhere, and is a bad line here.
  abbrev pub act : Ground → (VersionName → Source) → List (List ℕ) → Tx W → Stmt → Outcome W
  act g sources heads tx (Begin room) = refused tx InTransaction
  act g sources heads tx (On name) = refused tx InTransaction
  act g sources heads tx Checkpoint = refused tx InTransaction
  act g sources heads tx (Branch name origin) = refused tx InTransaction
  act g sources heads tx (Merge name prefer) = refused tx NotFirst
  act g sources heads tx (Insert name key fields) = insert_of g tx name key fields (relation_named g.schema name)
  act g sources heads tx (Update name key sets) = update_of g tx name key sets (relation_named g.schema name)
  act g sources heads tx (Delete name key) = delete_of g tx name key (relation_named g.schema name)
  act g sources heads tx (Get name key at) = get_of sources tx name key at (relation_named g.schema name)
  act g sources heads tx (Scan name over terms) = scan_of g.schema sources heads tx name over terms (relation_named g.schema name)
  act g sources heads tx (Join left right v w terms) = join_of g.schema tx left right (sources v) (sources w) terms (relation_named g.schema left) (relation_named g.schema right)
  act g sources heads tx (Minus name v w) = minus_of tx name (sources v) (sources w) (relation_named g.schema name)
  act g sources heads tx _ = refused tx Line
