-- A line that is refused early: its reply depends on the schema and on whether a transaction is open and has changed something, and it leaves the transaction.
use Rattle.std.proofs.Common.{◌≡◌, ℕ, is_some, Bool, true, false, cond, List, [], ◌∷◌, map, refl, ap, sym, ◌∙◌, Option, Some, None}
use Rattle.std.specs.Prelude.{Result, Ok, Err}
use Rattle.db_value.specs.Value.{Value}
use Rattle.db_value.specs.Relations.{columns_at, widths_at}
use Rattle.db_value.specs.declared.record.Record.{Record}
use Rattle.db_value.specs.declared.schema.Relation.{Relation}
use Rattle.db_value.specs.declared.condition.Set.{Set}
use Rattle.db_value.specs.declared.condition.Term.{Term}
use Rattle.db_value.specs.declared.version.VersionName.{VersionName}
use Rattle.db_value.specs.declared.reply.Reply.{Reply}
use Rattle.db_value.specs.declared.reply.Reply.TheVariants.{Done}
use Rattle.db_value.specs.declared.reply.Refusal.{Refusal}
use Rattle.db_value.specs.declared.reply.Refusal.TheVariants.{Line, InTransaction, NoTransaction, NotFirst}
use Rattle.db_store.specs.Dataset.{Dataset}
use Rattle.stmt_text.specs.declared.stmt.Stmt.{Stmt}
use Rattle.stmt_text.specs.declared.stmt.Stmt.TheVariants.{Begin, Commit, Abort, On, LogOf, Graph, Segments, Checkpoint, Branch, Merge, Insert, Update, Delete, Get, Scan, Join, Minus}
use Rattle.stmt_text.specs.declared.stmt.NamedSet.{NamedSet}
use Rattle.stmt_text.specs.declared.stmt.ScanOver.{ScanOver}
use Rattle.stmt_text.specs.declared.stmt.ScanOver.TheVariants.{Current, Named, Heads}
use Rattle.branch_tx.specs.Keeping.{Keeping}
use Rattle.db_store.specs.Found.{plain}
use Rattle.branch_tx.specs.Found.{Source, first_lacking}
use Rattle.branch_tx.specs.Act.{Tx, Outcome, Ground, refused, unless, insert_of, update_in, update_of, delete_of, get_of, scan_over, scan_of, join_of, minus_of, act}
use Rattle.line_needs.specs.declared.known.Known.TheVariants.{Refused as KnownRefused}
use Rattle.line_needs.specs.Columns.{relation_named, resolved}
use Rattle.line_needs.specs.Known.{known_of, refusal_in}
use Rattle.line_needs.proofs.Knowing.{known_why}
use Rattle.line_needs.specs.Misfits.{sets_misfit}
use Rattle.branch_tx.specs.Alone.{ground_of, told, told_of, has_changed, step}
use Rattle.line_needs.specs.Early.{outside_refusal, inside_refusal, first_refusal, relation_refusal, row_refusal, unresolved_refusal, set_refusal, terms_refusal, ask_refusal, join_refusal, early_refusal, is_early}
use Rattle.branch_tx.proofs.Acts.{is_done}

-- ---- why it is refused

abbrev why_of : Option Refusal → Refusal
why_of None = Line
why_of (Some why) = why

abbrev pub early_why : List Relation → Bool → Bool → Stmt → Refusal
early_why schema begun changed x = why_of (early_refusal schema begun changed x)

-- an early line is refused, and by nothing else
early_some : (o : Option Refusal) → is_some o ≡ true → o ≡ Some (why_of o)
early_some None e = absurd cc
early_some (Some why) e = refl

pub early_is : (schema : List Relation) (begun changed : Bool) (x : Stmt) → is_early schema begun changed x ≡ true → early_refusal schema begun changed x ≡ Some (early_why schema begun changed x)
early_is schema begun changed x e = early_some (early_refusal schema begun changed x) e

-- ---- a reply that isn't of a change is told as it is

told_reply : (d : Dataset) (b : ℕ) (q : Bool) (r : Reply) → is_done r ≡ false → told d b q r ≡ r
told_reply d b true r e = refl
told_reply d b false Done e = absurd cc
told_reply d b false _ e = refl

module _ {W : Type 0} (k : Keeping W) where
  pub told_answer : (d : Dataset) (b : ℕ) (q : Bool) (o : Outcome W) → is_done o.reply ≡ false → told_of d b q o ≡ o
  told_answer d b q o e = λ i. record { tx = o.tx; reply = told_reply d b q o.reply e i }

  pub told_refusal : (d : Dataset) (b : ℕ) (q : Bool) (tx : Tx W) (why : Refusal) → told_of d b q (refused tx why) ≡ refused tx why
  told_refusal d b q tx why = told_answer d b q (refused tx why) refl

  -- ---- each form

  outside_early : (tx : Tx W) (q : Bool) (x : Outcome W) → is_some (outside_refusal q) ≡ true → cond q (refused tx InTransaction) x ≡ refused tx (why_of (outside_refusal q))
  outside_early tx true x e = refl
  outside_early tx false x e = absurd cc

  inside_early : (tx : Tx W) (q : Bool) (x : Outcome W) → is_some (inside_refusal q) ≡ true → cond q x (refused tx NoTransaction) ≡ refused tx (why_of (inside_refusal q))
  inside_early tx true x e = absurd cc
  inside_early tx false x e = refl

  first_early : (tx : Tx W) (q : Bool) (x : Outcome W) → is_some (first_refusal q) ≡ true → cond q (refused tx NotFirst) x ≡ refused tx (why_of (first_refusal q))
  first_early tx true x e = refl
  first_early tx false x e = absurd cc

  first_refused : (tx : Tx W) (q : Bool) → is_some (first_refusal q) ≡ true → refused tx NotFirst ≡ refused tx (why_of (first_refusal q))
  first_refused tx true e = refl
  first_refused tx false e = absurd cc

  unless_early : (tx : Tx W) (o : Option Refusal) (x : Outcome W) → is_some o ≡ true → unless tx o x ≡ refused tx (why_of o)
  unless_early tx None x e = absurd cc
  unless_early tx (Some why) x e = refl

  pub insert_early : (g : Ground) (tx : Tx W) (name : List ℕ) (key : ℕ) (fields : List Value) (o : Option ℕ) → is_some (row_refusal g.schema name fields o) ≡ true → insert_of k g tx name key fields o ≡ refused tx (why_of (row_refusal g.schema name fields o))
  insert_early g tx name key fields None e = refl
  insert_early g tx name key fields (Some r) e = unless_early tx (row_refusal g.schema name fields (Some r)) _ e

  update_early : (g : Ground) (tx : Tx W) (r : ℕ) (name : List ℕ) (key : ℕ) (sets : Result (List Set) (List ℕ)) (misfit : Option Refusal) → is_some (unresolved_refusal sets misfit) ≡ true → update_in k g tx r name key sets misfit ≡ refused tx (why_of (unresolved_refusal sets misfit))
  update_early g tx r name key (Ok sets) misfit e = unless_early tx misfit _ e
  update_early g tx r name key (Err column) misfit e = refl

  pub update_of_early : (g : Ground) (tx : Tx W) (name : List ℕ) (key : ℕ) (sets : List NamedSet) (o : Option ℕ) → is_some (set_refusal g.schema name sets o) ≡ true → update_of k g tx name key sets o ≡ refused tx (why_of (set_refusal g.schema name sets o))
  update_of_early g tx name key sets None e = refl
  update_of_early g tx name key sets (Some r) e = update_early g tx r name key (resolved (columns_at g.schema r) sets) (sets_misfit (widths_at g.schema r) (columns_at g.schema r) sets) e

  pub delete_early : (g : Ground) (tx : Tx W) (name : List ℕ) (key : ℕ) (o : Option ℕ) → is_some (relation_refusal name o) ≡ true → delete_of k g tx name key o ≡ refused tx (why_of (relation_refusal name o))
  delete_early g tx name key None e = refl
  delete_early g tx name key (Some r) e = absurd cc

  pub get_early : (sources : VersionName → Source) (tx : Tx W) (name : List ℕ) (key : ℕ) (at : Option VersionName) (o : Option ℕ) → is_some (relation_refusal name o) ≡ true → get_of k sources tx name key at o ≡ refused tx (why_of (relation_refusal name o))
  get_early sources tx name key at None e = refl
  get_early sources tx name key at (Some r) e = absurd cc

  pub scan_early : (schema : List Relation) (sources : VersionName → Source) (heads : List (List ℕ)) (tx : Tx W) (name : List ℕ) (over : ScanOver) (terms : List Term) (o : Option ℕ) → is_some (ask_refusal schema name terms o) ≡ true
      → scan_of k schema sources heads tx name over terms o ≡ refused tx (why_of (ask_refusal schema name terms o))
  scan_early schema sources heads tx name over terms None e = refl
  scan_early schema sources heads tx name over terms (Some r) e = unless_early tx (terms_refusal schema r terms) _ e

  pub join_early : (schema : List Relation) (tx : Tx W) (name other : List ℕ) (left right : Source) (terms : List Term) (o q : Option ℕ) → is_some (join_refusal schema name other terms o q) ≡ true
      → join_of k schema tx name other left right terms o q ≡ refused tx (why_of (join_refusal schema name other terms o q))
  join_early schema tx name other left right terms None q e = refl
  join_early schema tx name other left right terms (Some r) None e = refl
  join_early schema tx name other left right terms (Some r) (Some s) e = unless_early tx (terms_refusal schema r terms) _ e

  pub minus_early : (tx : Tx W) (name : List ℕ) (left right : Source) (o : Option ℕ) → is_some (relation_refusal name o) ≡ true → minus_of k tx name left right o ≡ refused tx (why_of (relation_refusal name o))
  minus_early tx name left right None e = refl
  minus_early tx name left right (Some r) e = absurd cc

  -- ---- questions tell what they tell as it is

  asks : (tx : Tx W) (o : Option Refusal) (x : Outcome W) → is_done x.reply ≡ false → is_done (unless tx o x).reply ≡ false
  asks tx None x e = e
  asks tx (Some why) x e = refl

  over_asks : (sources : VersionName → Source) (heads : List (List ℕ)) (tx : Tx W) (r : ℕ) (p : Record → Bool) (over : ScanOver) → is_done (scan_over k sources heads tx r p over).reply ≡ false
  over_asks sources heads tx r p Current = refl
  over_asks sources heads tx r p (Named names) = asks tx (first_lacking (map sources names)) _ refl
  over_asks sources heads tx r p Heads = asks tx (first_lacking (map sources (map plain heads))) _ refl

  pub scan_asks : (schema : List Relation) (sources : VersionName → Source) (heads : List (List ℕ)) (tx : Tx W) (name : List ℕ) (over : ScanOver) (terms : List Term) (o : Option ℕ) → is_done (scan_of k schema sources heads tx name over terms o).reply ≡ false
  scan_asks schema sources heads tx name over terms None = refl
  scan_asks schema sources heads tx name over terms (Some r) = asks tx (terms_refusal schema r terms) _ (over_asks sources heads tx r _ over)

  pub join_asks : (schema : List Relation) (tx : Tx W) (name other : List ℕ) (left right : Source) (terms : List Term) (o q : Option ℕ) → is_done (join_of k schema tx name other left right terms o q).reply ≡ false
  join_asks schema tx name other left right terms None q = refl
  join_asks schema tx name other left right terms (Some r) None = refl
  join_asks schema tx name other left right terms (Some r) (Some s) = asks tx (terms_refusal schema r terms) _ (asks tx (first_lacking (left ∷ right ∷ [])) _ refl)

  pub minus_asks : (tx : Tx W) (name : List ℕ) (left right : Source) (o : Option ℕ) → is_done (minus_of k tx name left right o).reply ≡ false
  minus_asks tx name left right None = refl
  minus_asks tx name left right (Some r) = asks tx (first_lacking (left ∷ right ∷ [])) _ refl

  -- as a line tells it
  told_early : (d : Dataset) (b : ℕ) (tx : Tx W) (o : Outcome W) (why : Refusal) → o ≡ refused tx why → told_of d b tx.begun o ≡ refused tx why
  told_early d b tx o why e = ap (told_of d b tx.begun) e ∙ told_refusal d b tx.begun tx why

  pub early_refused : (d : Dataset) (b : ℕ) (tx : Tx W) (x : Stmt) → is_early d.schema tx.begun (has_changed k tx) x ≡ true → step k d b tx x ≡ refused tx (early_why d.schema tx.begun (has_changed k tx) x)
  early_refused d b tx (Begin room) e = outside_early tx tx.begun _ e
  early_refused d b tx Commit e = inside_early tx tx.begun _ e
  early_refused d b tx Abort e = inside_early tx tx.begun _ e
  early_refused d b tx (On name) e = outside_early tx tx.begun _ e
  early_refused d b tx (LogOf name) e = absurd cc
  early_refused d b tx Graph e = absurd cc
  early_refused d b tx Segments e = absurd cc
  early_refused d b tx Checkpoint e = outside_early tx tx.begun _ e
  early_refused d b tx (Branch name origin) e = outside_early tx tx.begun _ e
  early_refused d b tx (Merge name prefer) e = told_early d b tx _ _ (first_early tx (has_changed k tx) _ e)
  early_refused d b tx (Insert name key fields) e = told_early d b tx _ _ (insert_early (ground_of d b) tx name key fields (relation_named d.schema name) e)
  early_refused d b tx (Update name key sets) e = told_early d b tx _ _ (update_of_early (ground_of d b) tx name key sets (relation_named d.schema name) e)
  early_refused d b tx (Delete name key) e = told_early d b tx _ _ (delete_early (ground_of d b) tx name key (relation_named d.schema name) e)
  early_refused d b tx (Get name key at) e = told_early d b tx _ _ (get_early _ tx name key at (relation_named d.schema name) e)
  early_refused d b tx (Scan name over terms) e = told_early d b tx _ _ (scan_early d.schema _ _ tx name over terms (relation_named d.schema name) e)
  early_refused d b tx (Join left right v w terms) e = told_early d b tx _ _ (join_early d.schema tx left right _ _ terms (relation_named d.schema left) (relation_named d.schema right) e)
  early_refused d b tx (Minus name v w) e = told_early d b tx _ _ (minus_early tx name _ _ (relation_named d.schema name) e)

  -- the same of a statement in an open transaction, by what it knows
  pub act_early : (g : Ground) (sources : VersionName → Source) (heads : List (List ℕ)) (tx : Tx W) (changed : Bool) (x : Stmt) → is_early g.schema true changed x ≡ true → act k g sources heads tx x ≡ refused tx (early_why g.schema true changed x)
  act_early g sources heads tx changed (Begin room) e = refl
  act_early g sources heads tx changed Commit e = absurd cc
  act_early g sources heads tx changed Abort e = absurd cc
  act_early g sources heads tx changed (On name) e = refl
  act_early g sources heads tx changed (LogOf name) e = absurd cc
  act_early g sources heads tx changed Graph e = absurd cc
  act_early g sources heads tx changed Segments e = absurd cc
  act_early g sources heads tx changed Checkpoint e = refl
  act_early g sources heads tx changed (Branch name origin) e = refl
  act_early g sources heads tx changed (Merge name prefer) e = first_refused tx changed e
  act_early g sources heads tx changed (Insert name key fields) e = insert_early g tx name key fields (relation_named g.schema name) e
  act_early g sources heads tx changed (Update name key sets) e = update_of_early g tx name key sets (relation_named g.schema name) e
  act_early g sources heads tx changed (Delete name key) e = delete_early g tx name key (relation_named g.schema name) e
  act_early g sources heads tx changed (Get name key at) e = get_early sources tx name key at (relation_named g.schema name) e
  act_early g sources heads tx changed (Scan name over terms) e = scan_early g.schema sources heads tx name over terms (relation_named g.schema name) e
  act_early g sources heads tx changed (Join left right v w terms) e = join_early g.schema tx left right (sources v) (sources w) terms (relation_named g.schema left) (relation_named g.schema right) e
  act_early g sources heads tx changed (Minus name v w) e = minus_early tx name (sources v) (sources w) (relation_named g.schema name) e

  -- and of one that is known to be refused
  pub act_known : (g : Ground) (sources : VersionName → Source) (heads : List (List ℕ)) (tx : Tx W) (changed : Bool) (x : Stmt) (why : Refusal) → known_of g.schema true changed x ≡ KnownRefused why → act k g sources heads tx x ≡ refused tx why
  act_known g sources heads tx changed x why e =
      let early : early_refusal g.schema true changed x ≡ Some why = sym (known_why g.schema true changed x) ∙ ap refusal_in e in
      act_early g sources heads tx changed x (ap is_some early) ∙ ap (λ (o : Option Refusal). refused tx (why_of o)) early
