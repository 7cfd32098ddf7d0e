-- What stands of a transaction stands after a line, by what the line needs. So a transaction that changes something has needed its branch exclusively, and one that makes a branch the catalogue.
use Rattle.std.proofs.Common.{◌≡◌, ◌⊎◌, inl, inr, ⊎_elim, ℕ, nat_lt, ◌||◌, is_some, Bool, true, false, cond, List, [], ◌∷◌, length, refl, ap, sym, ◌∙◌, subst, Option, Some}
use Rattle.std.proofs.lemmas.Bool.{false≢true}
use Rattle.db_value.specs.declared.version.VersionName.{VersionName}
use Rattle.db_value.specs.declared.version.VersionPlace.{VersionPlace}
use Rattle.db_store.specs.Overlay.{Overlay}
use Rattle.db_store.specs.Dataset.{Dataset, branch_named, head_of}
use Rattle.db_store.proofs.OverlayLemmas.{count_untouched}
use Rattle.lock_table.specs.declared.need.Need.{Need}
use Rattle.lock_table.specs.Grants.{Has}
use Rattle.stmt_text.specs.declared.stmt.Stmt.{Stmt}
use Rattle.stmt_text.specs.declared.stmt.Stmt.TheVariants.{Begin, Commit, Abort, On, LogOf, Graph, Segments, Checkpoint, Branch, Merge, Insert, Update, Delete, Get, Scan, Join, Minus}
use Rattle.branch_tx.specs.Keeping.{Keeping, over_table}
use Rattle.db_store.specs.Found.{branch_names, found, lack}
use Rattle.branch_tx.specs.Found.{Source, source_of}
use Rattle.branch_tx.specs.Act.{Tx, Outcome}
use Rattle.line_needs.specs.Columns.{relation_named}
use Rattle.branch_tx.specs.Alone.{ground_of, room_of, place_in}
use Rattle.line_needs.specs.Early.{is_early}
use Rattle.line_needs.specs.Needs.{catalogue, lock_of, exclusive, merge_needs, stmt_needs, needs}
use Rattle.branch_tx.specs.Frame.{is_changed, whole, step_over, Within, AllWithin}
use Rattle.branch_tx.proofs.Keeps.{IsBranch, cond_keeps, act_keeps, get_keeps, scan_keeps, join_keeps, minus_keeps, on_keeps, branch_keeps, merge_keeps}
use Rattle.branch_tx.proofs.EarlyLines.{early_refused}

-- ---- one line

module _ (P : Tx (List Overlay) → Type 0) (d : Dataset) (b : ℕ) (tx : Tx (List Overlay)) (h : P tx) (opens : (room : ℕ) → P (record tx { begun = true; room = room }))
    (moves : (name : List ℕ) (i : ℕ) → branch_named d name ≡ Some i → P (record tx { moved = Some i })) where
  abbrev Changes : List Need → Type 0
  Changes ns = Has ns (exclusive (lock_of b)) → (work : List Overlay) (second : Option VersionPlace) → P (record tx { work = work; second = second })

  abbrev Makes : List Need → Type 0
  Makes ns = Has ns (exclusive catalogue) → (name : List ℕ) (v : VersionName) → IsBranch d name (found d v) → P (record tx { made = Some (name, place_in (found d v)) })

  abbrev k : Keeping (List Overlay)
  k = over_table (head_of d b)

  abbrev sources : VersionName → Source
  sources v = source_of b (found d v)

  late_keeps : (x : Stmt) → Changes (stmt_needs d b x) → Makes (stmt_needs d b x) → P (step_over d b tx x).tx
  late_keeps (Begin room) change make = cond_keeps k P tx.begun _ _ h (opens (room_of room))
  late_keeps Commit change make = cond_keeps k P tx.begun _ _ h h
  late_keeps Abort change make = cond_keeps k P tx.begun _ _ h h
  late_keeps (On name) change make = cond_keeps k P tx.begun _ _ h (on_keeps k P tx name (branch_named d name) h (moves name))
  late_keeps (LogOf name) change make = h
  late_keeps Graph change make = h
  late_keeps Segments change make = h
  late_keeps Checkpoint change make = cond_keeps k P tx.begun _ _ h h
  late_keeps (Branch name origin) change make = cond_keeps k P tx.begun _ _ h
      (branch_keeps k P tx name (place_in (found d origin)) (lack (found d origin)) (branch_named d name) (length d.branches) h
      (λ a c l. make (inl refl) name origin (record { origin = a; new = c; room = l })))
  late_keeps (Merge name prefer) change make = cond_keeps k P (is_changed tx) _ _ h
      (merge_keeps k P d b tx name prefer (branch_named d name) h (λ c e l a s. change (subst (λ (o : Option ℕ). Has (merge_needs b o) (exclusive (lock_of b))) (sym e) (inl refl)) _ _))
  late_keeps (Insert name key fields) change make = act_keeps k P (ground_of d b) sources (branch_names d) tx (Insert name key fields) h (λ r key st is. change (inl refl) (k.put tx.work r key st) tx.second)
  late_keeps (Update name key sets) change make = act_keeps k P (ground_of d b) sources (branch_names d) tx (Update name key sets) h (λ r key st is. change (inl refl) (k.put tx.work r key st) tx.second)
  late_keeps (Delete name key) change make = act_keeps k P (ground_of d b) sources (branch_names d) tx (Delete name key) h (λ r key st is. change (inl refl) (k.put tx.work r key st) tx.second)
  late_keeps (Get name key at) change make = get_keeps k P sources tx name key at (relation_named d.schema name) h
  late_keeps (Scan name over terms) change make = scan_keeps k P d.schema sources (branch_names d) tx name over terms (relation_named d.schema name) h
  late_keeps (Join left right v w terms) change make = join_keeps k P d.schema tx left right (sources v) (sources w) terms (relation_named d.schema left) (relation_named d.schema right) h
  late_keeps (Minus name v w) change make = minus_keeps k P tx name (sources v) (sources w) (relation_named d.schema name) h

  line_at : (x : Stmt) (q : Bool) → is_early d.schema tx.begun (is_changed tx) x ≡ q → Changes (cond q [] (stmt_needs d b x)) → Makes (cond q [] (stmt_needs d b x)) → P (step_over d b tx x).tx
  line_at x true e change make = subst (λ (o : Outcome (List Overlay)). P o.tx) (sym (early_refused k d b tx x e)) h
  line_at x false e change make = late_keeps x change make

  -- what stands of a transaction stands after a line
  pub line_keeps : (x : Stmt) → Changes (needs d b tx.begun (is_changed tx) x) → Makes (needs d b tx.begun (is_changed tx) x) → P (step_over d b tx x).tx
  line_keeps x change make = line_at x (is_early d.schema tx.begun (is_changed tx) x) refl change make

-- ---- many lines

-- one of the lines has this need
abbrev pub AnyHas : List (List Need) → Need → Type 0
AnyHas [] n = ⊥
AnyHas (ns ∷ more) n = Has ns n ⊎ AnyHas more n

-- a transaction that changed something has needed its branch exclusively
pub changed_needed : (d : Dataset) (b : ℕ) (xs : List Stmt) → is_changed (whole d b xs).tx ≡ true → AnyHas (whole d b xs).needs (exclusive (lock_of b))
changed_needed d b [] e = false≢true (sym (ap (λ n. nat_lt 0 n || false) count_untouched) ∙ e)
changed_needed d b (x ∷ xs) e =
    let tx : Tx (List Overlay) = (whole d b xs).tx in
    let old : is_changed tx ≡ true → AnyHas (whole d b (x ∷ xs)).needs (exclusive (lock_of b)) = λ g. inr (changed_needed d b xs g) in
    line_keeps (λ (t : Tx (List Overlay)). is_changed t ≡ true → AnyHas (whole d b (x ∷ xs)).needs (exclusive (lock_of b))) d b tx old (λ room. old) (λ name i is. old) x
    (λ has work second g. inl has) (λ has name v is. old) e

-- one that makes a branch has needed the catalogue exclusively
pub made_needed : (d : Dataset) (b : ℕ) (xs : List Stmt) → is_some (whole d b xs).tx.made ≡ true → AnyHas (whole d b xs).needs (exclusive catalogue)
made_needed d b [] e = false≢true e
made_needed d b (x ∷ xs) e =
    let tx : Tx (List Overlay) = (whole d b xs).tx in
    let old : is_some tx.made ≡ true → AnyHas (whole d b (x ∷ xs)).needs (exclusive catalogue) = λ g. inr (made_needed d b xs g) in
    line_keeps (λ (t : Tx (List Overlay)). is_some t.made ≡ true → AnyHas (whole d b (x ∷ xs)).needs (exclusive catalogue)) d b tx old (λ room. old) (λ name i is. old) x
    (λ has work second. old) (λ has name v is g. inl has) e

-- ---- needs within locks

within_has : (N : ℕ → Type 0) (ns : List Need) (n : Need) → Within N ns → Has ns n → N n.lock
within_has N [] n w h = absurd h
within_has N (m ∷ ms) n w h = ⊎_elim (λ (e : m ≡ n). subst (λ (k : Need). N k.lock) e w.0) (λ (g : Has ms n). within_has N ms n w.1 g) h

pub within_any : (N : ℕ → Type 0) (ns : List (List Need)) (n : Need) → AllWithin N ns → AnyHas ns n → N n.lock
within_any N [] n w h = absurd h
within_any N (m ∷ ms) n w h = ⊎_elim (λ (g : Has m n). within_has N m n w.0 g) (λ (g : AnyHas ms n). within_any N ms n w.1 g) h
