-- What a statement does in a granted transaction, by what is known of it.
use Rattle.std.proofs.Common.{◌≡◌, ℕ, ◌<◌, true, List, length, ap, sym, ◌∙◌, Option, Some, None}
use Rattle.std.specs.Prelude.{Result, Ok}
use Rattle.db_value.specs.Value.{Value}
use Rattle.db_value.specs.Relations.{columns_at, widths_at}
use Rattle.db_value.specs.Widths.{meets}
use Rattle.db_value.specs.Condition.{holds}
use Rattle.db_value.specs.Pred.{stop_by, condition_stop}
use Rattle.db_value.specs.declared.record.Record.{Record}
use Rattle.db_value.specs.declared.condition.Set.{Set}
use Rattle.db_value.specs.declared.condition.Term.{Term}
use Rattle.db_value.specs.declared.version.VersionName.{VersionName}
use Rattle.db_value.specs.declared.reply.Refusal.{Refusal}
use Rattle.db_store.specs.Overlay.{Overlay}
use Rattle.db_store.specs.Work.{fields_at, insert_stop, change_stop, updated as updated_with}
use Rattle.db_store.specs.declared.work.WorkStop.{WorkStop}
use Rattle.stmt_text.specs.declared.stmt.Stmt.{Stmt}
use Rattle.stmt_text.specs.declared.stmt.Stmt.TheVariants.{Insert, Update, Delete, Get, Scan, Join, Minus}
use Rattle.stmt_text.specs.declared.stmt.NamedSet.{NamedSet}
use Rattle.stmt_text.specs.declared.stmt.ScanOver.{ScanOver}
use Rattle.line_needs.specs.declared.known.Known.{Known}
use Rattle.line_needs.specs.declared.known.Known.TheVariants.{Refused as KnownRefused, Of, With, Both}
use Rattle.line_needs.specs.Columns.{relation_named, sets_at}
use Rattle.line_needs.specs.Early.{condition_refusal, terms_refusal}
use Rattle.line_needs.proofs.MisfitLemmas.{met_refusal}
use Rattle.line_needs.proofs.SetLemmas.{AreFitting}
use Rattle.line_needs.proofs.Knowing.{Stops, AreAsked, relation_is, known_insert, known_update, known_scan, known_join, relation_stops, insert_stops, update_stops, scan_stops, join_stops}
use Rattle.branch_tx.specs.Keeping.{over_table}
use Rattle.branch_tx.specs.Act.{Outcome, refused, unless, unless_full, insert_in, insert_of, update_in, update_of, delete_of, source_at, get_of, scan_of, join_with, join_of, minus_of}
use Rattle.branch_tx.specs.Granted.{Granted, ground_in, source_in, names_or_none, tx_in, has_done, known_in, acted, looked_up, scanned, joined, told_apart}
use Rattle.branch_tx.proofs.Images.{named_within}
use Rattle.branch_tx.proofs.EarlyLines.{act_known}
use Rattle.branch_tx.proofs.Stopping.{working_in, changed_by, insert_by, update_by, delete_by}

-- ---- a statement that is refused

-- it is known to be refused for a cause, and does nothing else
abbrev pub IsStopped : Granted → Stmt → Known → Type 0
IsStopped g x k = (why : Refusal) × (k ≡ KnownRefused why) × (acted g x ≡ refused (tx_in g) why)

stopped : (g : Granted) (x : Stmt) (k : Known) → k ≡ known_in g x → Stops (known_in g x) → IsStopped g x k
stopped g x k e s = (s.0, e ∙ s.1, act_known (over_table g.head) (ground_in g) (source_in g) (names_or_none g.heads) (tx_in g) (has_done g) x s.0 s.1)

module _ (g : Granted) (k : Known) where
  pub insert_stopped : (name : List ℕ) (key : ℕ) (fields : List Value) → k ≡ known_in g (Insert name key fields) → ((r : ℕ) → k ≡ Of r → ⊥) → IsStopped g (Insert name key fields) k
  insert_stopped name key fields e n = stopped g (Insert name key fields) k e (insert_stops g.schema true (has_done g) name key fields (λ r f. n r (e ∙ f)))

  pub update_stopped : (name : List ℕ) (key : ℕ) (named : List NamedSet) → k ≡ known_in g (Update name key named) → ((r : ℕ) (columns : List ℕ) → k ≡ With r columns → ⊥) → IsStopped g (Update name key named) k
  update_stopped name key named e n = stopped g (Update name key named) k e (update_stops g.schema true (has_done g) name key named (λ r columns f. n r columns (e ∙ f)))

  pub delete_stopped : (name : List ℕ) (key : ℕ) → k ≡ known_in g (Delete name key) → ((r : ℕ) → k ≡ Of r → ⊥) → IsStopped g (Delete name key) k
  delete_stopped name key e n = stopped g (Delete name key) k e (relation_stops name (relation_named g.schema name) (λ r f. n r (e ∙ f)))

  pub get_stopped : (name : List ℕ) (key : ℕ) (at : Option VersionName) → k ≡ known_in g (Get name key at) → ((r : ℕ) → k ≡ Of r → ⊥) → IsStopped g (Get name key at) k
  get_stopped name key at e n = stopped g (Get name key at) k e (relation_stops name (relation_named g.schema name) (λ r f. n r (e ∙ f)))

  pub scan_stopped : (name : List ℕ) (over : ScanOver) (terms : List Term) → k ≡ known_in g (Scan name over terms) → ((r : ℕ) → k ≡ Of r → ⊥) → IsStopped g (Scan name over terms) k
  scan_stopped name over terms e n = stopped g (Scan name over terms) k e (scan_stops g.schema true (has_done g) name over terms (λ r f. n r (e ∙ f)))

  pub join_stopped : (name other : List ℕ) (v w : VersionName) (terms : List Term) → k ≡ known_in g (Join name other v w terms) → ((r s : ℕ) → k ≡ Both r s → ⊥) → IsStopped g (Join name other v w terms) k
  join_stopped name other v w terms e n = stopped g (Join name other v w terms) k e (join_stops g.schema true (has_done g) name other v w terms (λ r s f. n r s (e ∙ f)))

  pub minus_stopped : (name : List ℕ) (v w : VersionName) → k ≡ known_in g (Minus name v w) → ((r : ℕ) → k ≡ Of r → ⊥) → IsStopped g (Minus name v w) k
  minus_stopped name v w e n = stopped g (Minus name v w) k e (relation_stops name (relation_named g.schema name) (λ r f. n r (e ∙ f)))

-- ---- any other statement: its relation is there, and this is what it does

module _ (g : Granted) where
  -- what a change of a key does, once its relation is known and nothing but the working table stops it
  abbrev pub changed : ℕ → List ℕ → ℕ → Option (List Value) → Option WorkStop → Outcome (List Overlay)
  changed r name key state stop = unless_full (ground_in g) (tx_in g) (changed_by g r name key state stop)

  -- an insertion
  abbrev pub inserted : ℕ → List ℕ → Record → Outcome (List Overlay)
  inserted r name row = changed r name row.key (Some row.fields) (insert_stop (working_in g) r row)

  -- an update
  abbrev pub updated : ℕ → List ℕ → ℕ → List Set → Outcome (List Overlay)
  updated r name key sets = changed r name key (updated_with sets (fields_at (working_in g) r key)) (change_stop (working_in g) r key (updated_with sets (fields_at (working_in g) r key)))

  -- a deletion
  abbrev pub deleted : ℕ → List ℕ → ℕ → Outcome (List Overlay)
  deleted r name key = changed r name key None (change_stop (working_in g) r key None)

  pub insert_is : (name : List ℕ) (key : ℕ) (fields : List Value) (r : ℕ) → known_in g (Insert name key fields) ≡ Of r
      → (r < length g.schema) × (acted g (Insert name key fields) ≡ inserted r name (record { key = key; fields = fields })) × (meets (widths_at g.schema r) fields ≡ true)
  insert_is name key fields r e =
      let is = known_insert g.schema true (has_done g) name key fields r e in (
        named_within g.schema name r is.0,
        ap (insert_of (over_table g.head) (ground_in g) (tx_in g) name key fields) is.0
            ∙ ap (λ (o : Option Refusal). unless (tx_in g) o (insert_in (over_table g.head) (ground_in g) (tx_in g) r name key fields)) (sym (met_refusal g.schema name fields r is.1))
            ∙ ap (unless_full (ground_in g) (tx_in g)) (insert_by g r name (record { key = key; fields = fields })),
        is.1,
      )

  pub update_is : (name : List ℕ) (key : ℕ) (named : List NamedSet) (r : ℕ) (columns : List ℕ) → known_in g (Update name key named) ≡ With r columns
      → (r < length g.schema) × (length columns ≡ length named) × (acted g (Update name key named) ≡ updated r name key (sets_at columns named)) × AreFitting (widths_at g.schema r) (sets_at columns named)
  update_is name key named r columns e =
      let is = known_update g.schema true (has_done g) name key named r columns e in (
        named_within g.schema name r is.0,
        is.1.long,
        ap (update_of (over_table g.head) (ground_in g) (tx_in g) name key named) is.0
            ∙ (λ i. update_in (over_table g.head) (ground_in g) (tx_in g) r name key (is.1.found i) (is.1.taken i))
            ∙ ap (unless_full (ground_in g) (tx_in g)) (update_by g r name key (sets_at columns named)),
        is.1.fitting,
      )

  pub delete_is : (name : List ℕ) (key r : ℕ) → known_in g (Delete name key) ≡ Of r → (r < length g.schema) × (acted g (Delete name key) ≡ deleted r name key)
  delete_is name key r e =
      let is = relation_is name (relation_named g.schema name) r e in (
        named_within g.schema name r is,
        ap (delete_of (over_table g.head) (ground_in g) (tx_in g) name key) is ∙ ap (unless_full (ground_in g) (tx_in g)) (delete_by g r name key),
      )

  pub get_is : (name : List ℕ) (key : ℕ) (at : Option VersionName) (r : ℕ) → known_in g (Get name key at) ≡ Of r
      → (r < length g.schema) × (acted g (Get name key at) ≡ looked_up g r key (source_at (over_table g.head) (source_in g) at))
  get_is name key at r e =
      let is = relation_is name (relation_named g.schema name) r e in
      (named_within g.schema name r is, ap (get_of (over_table g.head) (source_in g) (tx_in g) name key at) is)

  -- a condition names columns that are there, and of the kinds of their values
  asked : (r : ℕ) (terms : List Term) (o : Outcome (List Overlay)) → AreAsked g.schema r terms → unless (tx_in g) (terms_refusal g.schema r terms) o ≡ o
  asked r terms o e = λ i. unless (tx_in g) (condition_refusal (e.0 i) (e.1 i)) o

  none_stops : (r : ℕ) (terms : List Term) → AreAsked g.schema r terms → condition_stop (columns_at g.schema r) (widths_at g.schema r) terms ≡ None
  none_stops r terms e = λ i. stop_by (e.0 i) (e.1 i)

  pub scan_is : (name : List ℕ) (over : ScanOver) (terms : List Term) (r : ℕ) → known_in g (Scan name over terms) ≡ Of r
      → (r < length g.schema) × (condition_stop (columns_at g.schema r) (widths_at g.schema r) terms ≡ None) × (acted g (Scan name over terms) ≡ scanned g r (holds (columns_at g.schema r) terms) over)
  scan_is name over terms r e =
      let is = known_scan g.schema true (has_done g) name over terms r e in (
        named_within g.schema name r is.0,
        none_stops r terms is.1,
        ap (scan_of (over_table g.head) g.schema (source_in g) (names_or_none g.heads) (tx_in g) name over terms) is.0
            ∙ asked r terms (scanned g r (holds (columns_at g.schema r) terms) over) is.1,
      )

  pub join_is : (name other : List ℕ) (v w : VersionName) (terms : List Term) (r s : ℕ) → known_in g (Join name other v w terms) ≡ Both r s
      → (r < length g.schema) × (s < length g.schema) × (condition_stop (columns_at g.schema r) (widths_at g.schema r) terms ≡ None)
      × (acted g (Join name other v w terms) ≡ joined g r s v w (holds (columns_at g.schema r) terms))
  join_is name other v w terms r s e =
      let is = known_join g.schema true (has_done g) name other v w terms r s e in
      let k = over_table g.head in (
        named_within g.schema name r is.0,
        named_within g.schema other s is.1,
        none_stops r terms is.2,
        ap (λ (o : Option ℕ). join_of k g.schema (tx_in g) name other (source_in g v) (source_in g w) terms o (relation_named g.schema other)) is.0
            ∙ ap (join_with k g.schema (tx_in g) r other (source_in g v) (source_in g w) terms) is.1
            ∙ asked r terms (joined g r s v w (holds (columns_at g.schema r) terms)) is.2,
      )

  pub minus_is : (name : List ℕ) (v w : VersionName) (r : ℕ) → known_in g (Minus name v w) ≡ Of r → (r < length g.schema) × (acted g (Minus name v w) ≡ told_apart g r v w)
  minus_is name v w r e =
      let is = relation_is name (relation_named g.schema name) r e in
      (named_within g.schema name r is, ap (minus_of (over_table g.head) (tx_in g) name (source_in g v) (source_in g w)) is)
