-- A granted transaction by itself: what it holds of its branch, what it has changed, and which versions were lent to it.
use Rattle.std.specs.Prelude.{ℕ, ◌==◌, ◌&&◌, nat_lt, not, is_some, cond, Bool, true, false, List, [], ◌∷◌, length, take, Option, Some, None, refl}
use Rattle.std.specs.Coded.{Coded, code_by, coded×, coded_ℕ, coded_bool, coded_list, coded_option}
use Rattle.db_value.specs.Text.{same}
use Rattle.db_value.specs.Spelling.{fields_bytes}
use Rattle.db_value.specs.declared.schema.Relation.{Relation}
use Rattle.db_value.specs.declared.schema.Column.{Column}
use Rattle.db_value.specs.declared.record.Record.{Record}
use Rattle.db_value.specs.declared.entry.Change.{Change}
use Rattle.db_value.specs.declared.version.VersionName.{VersionName}
use Rattle.db_value.specs.declared.version.VersionPlace.{VersionPlace}
use Rattle.db_value.specs.declared.condition.Prefer.{Prefer}
use Rattle.db_value.specs.declared.reply.Reply.{Reply}
use Rattle.db_value.specs.declared.reply.Reply.TheVariants.{One}
use Rattle.db_value.specs.declared.reply.Refusal.TheVariants.{Line}
use Rattle.db_store.specs.Table.{Table, table_code, with_changes}
use Rattle.db_store.specs.Adopt.{full_from}
use Rattle.db_store.specs.Overlay.{Overlay, overlay_code, laid}
use Rattle.stmt_text.specs.declared.stmt.Stmt.{Stmt}
use Rattle.stmt_text.specs.declared.stmt.Stmt.TheVariants.{Get, Scan, Join, Minus}
use Rattle.stmt_text.specs.declared.stmt.ScanOver.{ScanOver}
use Rattle.line_needs.specs.declared.known.Known.{Known}
use Rattle.line_needs.specs.Known.{known_of}
use Rattle.branch_tx.specs.Keeping.{over_table}
use Rattle.branch_tx.specs.Found.{Source, Own, Other, Lacking}
use Rattle.branch_tx.specs.Act.{Tx, Outcome, Ground, act, get_from, scan_over, join_in, minus_in}
use Rattle.branch_tx.specs.Merging.{merge_in, merged_to, merge_refusal}
use Rattle.branch_tx.specs.Frame.{is_changed}
use Rattle.branch_tx.specs.Shown.{Shown, shown_code, ViewsOf}
use Rattle.db_store.specs.State.{State}

-- a transaction with what it was granted: all that a covered line needs to be answered
pub record Granted : Type 0 where
  pub schema : List Relation
  -- the branch that it works on
  pub name : List ℕ
  -- once the branch is granted: whether exclusively, and whether it has as many versions as it can have
  pub held : Option (Bool × Bool)
  -- the branch's table, what was changed over it, and room for touched keys
  pub head : Table
  pub overlays : List Overlay
  pub room : ℕ
  -- the second parent, once it merged
  pub second : Option VersionPlace
  -- the versions that were lent, with their tables
  pub lent : List (VersionName × Table)
  -- what the view under the working table shows, and what the views of the versions that were lent show
  pub below : Shown
  pub shown : List Shown
  -- the names of all branches, once they were noted
  pub heads : Option (List (List ℕ))

-- a column can be written as numbers
abbrev pub column_code : Coded Column
column_code = code_by (List ℕ × ℕ) (coded× (coded_list coded_ℕ) coded_ℕ) (λ c. (c.name, c.width)) (λ p. record { name = p.0; width = p.1 }) (λ _. refl)

-- a relation can be written as numbers
abbrev pub relation_code : Coded Relation
relation_code = code_by (List ℕ × List Column) (coded× (coded_list coded_ℕ) (coded_list column_code)) (λ r. (r.name, r.columns)) (λ p. record { name = p.0; columns = p.1 }) (λ _. refl)

-- the name of a version can be written as numbers
abbrev pub version_code : Coded VersionName
version_code = code_by (List ℕ × Option ℕ) (coded× (coded_list coded_ℕ) (coded_option coded_ℕ)) (λ v. (v.branch, v.position)) (λ p. record { branch = p.0; position = p.1 }) (λ _. refl)

-- the place of a version can be written as numbers
abbrev pub place_code : Coded VersionPlace
place_code = code_by (ℕ × ℕ) (coded× coded_ℕ coded_ℕ) (λ p. (p.branch, p.position)) (λ p. record { branch = p.0; position = p.1 }) (λ _. refl)

-- a granted transaction can be told apart from others
abbrev pub granted_code : Coded Granted
granted_code = code_by
    (List Relation × (List ℕ × (Option (Bool × Bool) × (Table × (List Overlay × (ℕ × (Option VersionPlace × (List (VersionName × Table) × (Shown × (List Shown × Option (List (List ℕ))))))))))))
    (coded× (coded_list relation_code) (coded× (coded_list coded_ℕ) (coded× (coded_option (coded× coded_bool coded_bool)) (coded× table_code (coded× (coded_list overlay_code) (coded× coded_ℕ (coded× (coded_option place_code) (coded× (coded_list (coded× version_code table_code)) (coded× shown_code (coded× (coded_list shown_code) (coded_option (coded_list (coded_list coded_ℕ)))))))))))))
    (λ g. (g.schema, (g.name, (g.held, (g.head, (g.overlays, (g.room, (g.second, (g.lent, (g.below, (g.shown, g.heads)))))))))))
    (λ p. record { schema = p.0; name = p.1.0; held = p.1.1.0; head = p.1.1.1.0; overlays = p.1.1.1.1.0; room = p.1.1.1.1.1.0; second = p.1.1.1.1.1.1.0; lent = p.1.1.1.1.1.1.1.0; below = p.1.1.1.1.1.1.1.1.0; shown = p.1.1.1.1.1.1.1.1.1.0; heads = p.1.1.1.1.1.1.1.1.1.1 })
    (λ _. refl)

-- a transaction to which nothing is granted yet
abbrev pub ungranted : List Relation → List ℕ → Table → Shown → List Overlay → ℕ → Granted
ungranted schema name head below overlays room = record { schema = schema; name = name; held = None; head = head; overlays = overlays; room = room; second = None; lent = []; below = below; shown = []; heads = None }

-- what all its views show
abbrev pub views_of : Granted → List Shown
views_of g = g.below ∷ g.shown

-- all its views are of one state
abbrev pub AreAllOf : State → Granted → Type 0
AreAllOf s g = ViewsOf s (views_of g)

-- whether the granted branch has as many versions as it can have
abbrev pub held_full : Option (Bool × Bool) → Bool
held_full None = false
held_full (Some h) = h.1

-- whether two names give the same position, or both give none
abbrev pub same_position : Option ℕ → Option ℕ → Bool
same_position None None = true
same_position None (Some m) = false
same_position (Some n) None = false
same_position (Some n) (Some m) = n == m

-- two spellings are one
abbrev pub same_version : VersionName → VersionName → Bool
same_version a b = same a.branch b.branch && same_position a.position b.position

-- the table of the version that was lent under a name
abbrev pub lent_table : List (VersionName × Table) → VersionName → Option Table
lent_table [] v = None
lent_table (l ∷ ls) v = cond (same_version l.0 v) (Some l.1) (lent_table ls v)

-- the plain name of the branch that it works on
abbrev pub is_current : Granted → VersionName → Bool
is_current g v = same v.branch g.name && not (is_some v.position)

-- a version that wasn't lent is lacking
abbrev pub lent_source : Option Table → Source
lent_source None = Lacking Line
lent_source (Some t) = Other t

-- what the transaction reads if it asks for a version
abbrev pub source_in : Granted → VersionName → Source
source_in g v = cond (is_current g v) Own (lent_source (lent_table g.lent v))

-- the names of all branches; none before they are noted
abbrev pub names_or_none : Option (List (List ℕ)) → List (List ℕ)
names_or_none None = []
names_or_none (Some names) = names

-- what the transaction knows of its branch
abbrev pub ground_in : Granted → Ground
ground_in g = record { schema = g.schema; name = g.name; full = held_full g.held }

-- the transaction itself
abbrev pub tx_in : Granted → Tx (List Overlay)
tx_in g = record { begun = true; room = g.room; work = g.overlays; second = g.second; made = None; moved = None }

-- whether it has changed something: it touched a key, or merged
abbrev pub has_done : Granted → Bool
has_done g = is_changed (tx_in g)

-- what it knows of a statement, before any lock is looked at
abbrev pub known_in : Granted → Stmt → Known
known_in g x = known_of g.schema true (has_done g) x

-- what a statement does in it
abbrev pub acted : Granted → Stmt → Outcome (List Overlay)
acted g x = act (over_table g.head) (ground_in g) (source_in g) (names_or_none g.heads) (tx_in g) x

-- the bytes that a record's fields may have in the reply itself
abbrev pub most_near : ℕ
most_near = 62

-- the record has more of them, so its fields stand in memory of their own
abbrev pub is_far : Option Record → Bool
is_far None = false
is_far (Some row) = nat_lt most_near (length (fields_bytes row.fields))

-- the reply has such a record
abbrev pub tells_far : Reply → Bool
tells_far (One row) = is_far row
tells_far _ = false

-- the statements that take memory: they list rows, or look at a record that doesn't stand in the reply itself; no change of a record does
abbrev pub takes_memory : Granted → Stmt → Bool
takes_memory g (Get relation key at) = tells_far (acted g (Get relation key at)).reply
takes_memory g (Scan relation over terms) = true
takes_memory g (Join l r first second terms) = true
takes_memory g (Minus relation first second) = true
takes_memory g _ = false

-- it after what was done in it
abbrev pub with_work : Granted → Outcome (List Overlay) → Granted
with_work g o = record g { overlays = o.tx.work }

-- it after a statement
abbrev pub left : Granted → Stmt → Granted
left g x = with_work g (acted g x)

-- what a merge of a table that stands at a place does in it, over the common ancestor's table
abbrev pub merged : Granted → VersionPlace → Prefer → Table → Table → Outcome (List Overlay)
merged g from prefer base right = merge_in (over_table g.head) (ground_in g) (tx_in g) from prefer base g.head right

-- it after a merge
abbrev pub with_merge : Granted → Outcome (List Overlay) → Granted
with_merge g o = record g { overlays = o.tx.work; second = o.tx.second }

-- what its merge does once the changes of left are found
abbrev pub adopted : Granted → VersionPlace → List Change → Outcome (List Overlay)
adopted g from cs = merged_to (over_table g.head) g.schema (tx_in g) from cs (merge_refusal g.schema g.room (length cs) None (full_from 0 (with_changes g.head cs)))

-- what a look-up in a relation, a scan, a join and a difference do
abbrev pub looked_up : Granted → ℕ → ℕ → Source → Outcome (List Overlay)
looked_up g r key source = get_from (over_table g.head) (tx_in g) r key source

-- the end of a scan of the rows for which p holds
abbrev pub scanned : Granted → ℕ → (Record → Bool) → ScanOver → Outcome (List Overlay)
scanned g r p over = scan_over (over_table g.head) (source_in g) (names_or_none g.heads) (tx_in g) r p over

-- the end of a join of the pairs for which p holds
abbrev pub joined : Granted → ℕ → ℕ → VersionName → VersionName → (Record → Bool) → Outcome (List Overlay)
joined g r s v w p = join_in (over_table g.head) (tx_in g) r s (source_in g v) (source_in g w) p

-- the end of `minus`
abbrev pub told_apart : Granted → ℕ → VersionName → VersionName → Outcome (List Overlay)
told_apart g r v w = minus_in (over_table g.head) (tx_in g) r (source_in g v) (source_in g w)

-- it after what it was granted since a mark is taken back
abbrev pub back_at : Granted → Option (Bool × Bool) × (ℕ × Bool) → Granted
back_at g mark = record g { held = mark.0; lent = take mark.1.0 g.lent; shown = take mark.1.0 g.shown; heads = cond mark.1.1 g.heads None }

-- the table that it sees from a source
abbrev pub table_from : Granted → Source → Table
table_from g Own = laid g.head g.overlays
table_from g (Other t) = t
table_from g (Lacking why) = []
