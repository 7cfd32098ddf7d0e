-- What a transaction does that keeps what it was granted.
use Rattle.std.proofs.Common.{◌≡◌, ℕ, zero, suc, ◌+◌, ◌<◌, ◌==◌, ◌||◌, Bool, true, false, cond, List, [], ◌∷◌, ◌++◌, length, map, drop, take, get_or, ap, sym, ◌∙◌, refl, subst, Option, Some, None, inl, inr, ⊎_elim, arith}
use Rattle.std.specs.Prelude.{is_some, IfSome}
use Rattle.std.specs.FinMap as finite
use Rattle.std.specs.List.{filter, list_all}
use Rattle.std.proofs.lemmas.Bool.{and_parts, and_from, eqb-true, eqb-false, false≢true, true≢false}
use Rattle.std.proofs.lemmas.List.{drop_all, drop_more}
use Rattle.std.proofs.lemmas.List.Folds.{list_all-map}
use Rattle.std.proofs.Math.Seq.{take-append_seam}
use Rattle.db_value.specs.declared.schema.Relation.{Relation}
use Rattle.db_value.specs.declared.version.VersionName.{VersionName}
use Rattle.db_value.specs.Relations.{columns_at}
use Rattle.db_value.specs.Condition.{holds}
use Rattle.db_value.specs.declared.record.Record.{Record}
use Rattle.db_value.specs.declared.condition.Term.{Term}
use Rattle.db_value.specs.declared.condition.Prefer.{Prefer}
use Rattle.db_value.specs.declared.reply.Reply.TheVariants.{One, Listed, Paired}
use Rattle.db_value.specs.declared.reply.Refusal.{Refusal}
use Rattle.db_store.specs.Table.{Table, rows_of}
use Rattle.db_store.specs.Overlay.{Overlay}
use Rattle.db_store.specs.Dataset.{Branch as BranchOf, Dataset, no_branch, branch_at, branch_named, head_of}
use Rattle.db_store.specs.Sound.{IsSound}
use Rattle.lock_table.specs.declared.need.Need.{Need}
use Rattle.lock_table.specs.Rows.{Row}
use Rattle.lock_table.specs.Grants.{Has, row}
use Rattle.stmt_text.specs.declared.stmt.Stmt.{Stmt}
use Rattle.stmt_text.specs.declared.stmt.Stmt.TheVariants.{Begin, Commit, Abort, On, LogOf, Graph, Segments, Checkpoint, Branch, Merge, Insert, Update, Delete, Get, Scan, Join, Minus}
use Rattle.stmt_text.specs.declared.stmt.ScanOver.{ScanOver}
use Rattle.stmt_text.specs.declared.stmt.ScanOver.TheVariants.{Current, Named, Heads}
use Rattle.branch_tx.specs.Keeping.{Keeping, over_table}
use Rattle.db_store.specs.Found.{head_found, plain, found, branch_names}
use Rattle.branch_tx.specs.Found.{Source, Own, Other, Lacking, lacking, first_lacking, source_of}
use Rattle.branch_tx.specs.Act.{Tx, Outcome, refused, answered, unless, record_with, get_from, get_of, marked, union_marked, pairs_of, unlike, contents_from, rows_from, scan_versions, scan_over, scan_of, join_of, minus_of, act}
use Rattle.line_needs.specs.Columns.{relation_named}
use Rattle.line_needs.specs.Known.{known_of}
use Rattle.line_needs.specs.declared.known.Known.{Known}
use Rattle.line_needs.specs.Early.{terms_refusal, relation_refusal, join_refusal, is_early}
use Rattle.branch_tx.specs.Alone.{ground_of}
use Rattle.branch_tx.specs.Frame.{is_changed}
use Rattle.branch_tx.specs.Granted.{Granted, has_done, known_in, is_current, lent_table, lent_source, source_in, names_or_none, held_full, ground_in, tx_in, acted, left}
use Rattle.branch_tx.specs.Covers.{holds_alone, has_version, has_heads, has_over, is_granted, covers}
use Rattle.line_needs.specs.Needs.{catalogue, lock_of, shared, found_needs, names_needs, branch_needs, scan_needs, stmt_needs, needs}
use Rattle.branch_tx.proofs.Acts.{act_does}
use Rattle.branch_tx.proofs.EarlyLines.{early_why, act_early}
use Rattle.branch_tx.proofs.SeenLemmas.{scan_left, join_left, minus_left}
use Rattle.lock_table.proofs.Kept.{has_left, has_right}
use Rattle.store_tx.specs.Ends.{is_end}
use Rattle.db_store.specs.State.{State, dataset_of}
use Rattle.store_tx.specs.Statements.{IsReady, IsRefusedFor, IsAct, IsWork, lacking_of, act_over, step_in}
use Rattle.branch_tx.specs.Shown.{Shown}
use Rattle.store_tx.specs.Keeps.{AllGranted, HeldFor, AllLent, HeadsFor, Keeps, IsMore}
use Rattle.store_tx.proofs.Tagged.{within_granted}
use Rattle.store_tx.proofs.Lends.{own_source, own_in, lent_is, lent_more, lent_last, lent_front}

-- ---- a statement that goes on in an open transaction

pub goes_on : (x : Stmt) → is_end x ≡ false → ((room : Option ℕ) → x ≡ Begin room → ⊥) → ((name : List ℕ) → x ≡ On name → ⊥) → ((name : List ℕ) → x ≡ LogOf name → ⊥) → ((name : List ℕ) (origin : VersionName) → x ≡ Branch name origin → ⊥) → (x ≡ Graph → ⊥) → (x ≡ Segments → ⊥) → (x ≡ Checkpoint → ⊥) → IsWork x
goes_on (Begin room) e b o l n h k c = b room refl
goes_on Commit e b o l n h k c = absurd (true≢false e)
goes_on Abort e b o l n h k c = absurd (true≢false e)
goes_on (On name) e b o l n h k c = o name refl
goes_on (LogOf name) e b o l n h k c = l name refl
goes_on Graph e b o l n h k c = h refl
goes_on Segments e b o l n h k c = k refl
goes_on Checkpoint e b o l n h k c = c refl
goes_on (Branch name origin) e b o l n h k c = n name origin refl
goes_on _ e b o l n h k c = tt

-- what is no merge reads or changes records
pub no_merge : (x : Stmt) → IsWork x → ((name : List ℕ) (prefer : Prefer) → x ≡ Merge name prefer → ⊥) → IsAct x
no_merge (Merge name prefer) a n = n name prefer refl
no_merge x a n = a

pub act_is : (d : Dataset) (b : ℕ) (tx : Tx (List Overlay)) (x : Stmt) → IsAct x → act_over d b tx x ≡ act (over_table (head_of d b)) (ground_of d b) (λ v. source_of b (found d v)) (branch_names d) tx x
act_is d b tx (Begin room) a = absurd a
act_is d b tx Commit a = absurd a
act_is d b tx Abort a = absurd a
act_is d b tx (On name) a = absurd a
act_is d b tx (LogOf name) a = absurd a
act_is d b tx Graph a = absurd a
act_is d b tx Segments a = absurd a
act_is d b tx Checkpoint a = absurd a
act_is d b tx (Branch name origin) a = absurd a
act_is d b tx (Merge name prefer) a = absurd a
act_is d b tx _ a = refl

pub step_acts : (d : Dataset) (b : ℕ) (g : Granted) (x : Stmt) → IsWork x → step_in d b g x ≡ act_over d b (tx_in g) x
step_acts d b g (Begin room) a = absurd a
step_acts d b g Commit a = absurd a
step_acts d b g Abort a = absurd a
step_acts d b g (On name) a = absurd a
step_acts d b g (LogOf name) a = absurd a
step_acts d b g Graph a = absurd a
step_acts d b g Segments a = absurd a
step_acts d b g Checkpoint a = absurd a
step_acts d b g (Branch name origin) a = absurd a
step_acts d b g _ a = refl

-- ---- a statement that is covered does what it does over the head

-- a version that is granted is there, and is the same as in the dataset
pub record IsSame (d : Dataset) (b : ℕ) (g : Granted) (v : VersionName) : Type 0 where
  pub there : lacking (source_of b (found d v)) ≡ None
  pub source : source_in g v ≡ source_of b (found d v)
  pub contents : (r : ℕ) → contents_from (over_table g.head) (tx_in g) r (source_in g v) ≡ contents_from (over_table (head_of d b)) (tx_in g) r (source_of b (found d v))

-- a look-up tells what the version has at the key, if it is there
get_seen : {W : Type 0} (k : Keeping W) (tx : Tx W) (r key : ℕ) (s : Source) → get_from k tx r key s ≡ unless tx (lacking s) (answered tx (One (record_with key (finite.get (contents_from k tx r s) key))))
get_seen k tx r key Own = refl
get_seen k tx r key (Other t) = refl
get_seen k tx r key (Lacking why) = refl

module _ (d : Dataset) (rows : List Row) (s b : ℕ) (g : Granted) (k : Keeps d rows s b g) where
  pub head_by : (o : Option (Bool × Bool)) → HeldFor d rows s b g o → is_some o ≡ true → (g.head ≡ head_of d b) × (held_full o ≡ (ground_of d b).full)
  head_by None h e = absurd (false≢true e)
  head_by (Some (false, full)) h e = (h.1.head_is, h.1.full_is)
  head_by (Some (true, full)) h e = (h.1.head_is, h.1.full_is)

  held_acts : (sources : VersionName → Source) (heads : List (List ℕ)) (x : Stmt) → is_some g.held ≡ true → act (over_table g.head) (ground_in g) sources heads (tx_in g) x ≡ act (over_table (head_of d b)) (ground_of d b) sources heads (tx_in g) x
  held_acts sources heads x e =
      let two : (g.head ≡ head_of d b) × (held_full g.held ≡ (ground_of d b).full) = head_by g.held k.held e in
      λ i. act (over_table (two.0 i)) (record { schema = k.schema i; name = k.name i; full = two.1 i }) sources heads (tx_in g) x

  alone_held : (o : Option (Bool × Bool)) → holds_alone o ≡ true → is_some o ≡ true
  alone_held None e = absurd (false≢true e)
  alone_held (Some h) e = refl

  abbrev sources : VersionName → Source
  sources v = source_of b (found d v)

  early_acts : (x : Stmt) → IsAct x → is_early g.schema true (has_done g) x ≡ true → acted g x ≡ act_over d b (tx_in g) x
  early_acts x a e =
      act_early (over_table g.head) (ground_in g) (source_in g) (names_or_none g.heads) (tx_in g) (has_done g) x e
      ∙ ap (λ (schema : List Relation). refused (tx_in g) (early_why schema true (has_done g) x)) k.schema
      ∙ sym (act_early (over_table (head_of d b)) (ground_of d b) sources (branch_names d) (tx_in g) (has_done g) x (ap (λ (schema : List Relation). is_early schema true (has_done g) x) (sym k.schema) ∙ e))
      ∙ sym (act_is d b (tx_in g) x a)

  -- a version that is named
  own_same : (v : VersionName) → is_some g.held ≡ true → source_in g v ≡ Own → sources v ≡ Own → IsSame d b g v
  own_same v h e f = record {
    there = ap lacking f;
    source = e ∙ sym f;
    contents = λ r.
        ap (contents_from (over_table g.head) (tx_in g) r) e
        ∙ ap (λ (t : Table). contents_from (over_table t) (tx_in g) r Own) (head_by g.held k.held h).0
        ∙ sym (ap (contents_from (over_table (head_of d b)) (tx_in g) r) f);
  }

  other_same : (v : VersionName) (t : Table) → source_in g v ≡ Other t → sources v ≡ Other t → IsSame d b g v
  other_same v t e f = record {
    there = ap lacking f;
    source = e ∙ sym f;
    contents = λ r. ap (contents_from (over_table g.head) (tx_in g) r) e ∙ sym (ap (contents_from (over_table (head_of d b)) (tx_in g) r) f);
  }

  lent_same : (v : VersionName) (o : Option Table) → is_current g v ≡ false → lent_table g.lent v ≡ o → is_some o ≡ true → IsSame d b g v
  lent_same v None c l e = absurd (false≢true e)
  lent_same v (Some t) c l e = other_same v t (ap (λ q. cond q Own (lent_source (lent_table g.lent v))) c ∙ ap lent_source l) (lent_is d rows s b g.lent v t k.lent l)

  module _ (sound : IsSound d) (there : b < length d.branches) where
    same_by : (v : VersionName) (q : Bool) → is_current g v ≡ q → cond q (is_some g.held) (is_some (lent_table g.lent v)) ≡ true → IsSame d b g v
    same_by v true c e = own_same v e (own_in g v c) (own_source d b g v k.name (sound.named b there) c)
    same_by v false c e = lent_same v (lent_table g.lent v) c refl e

    pub has_same : (v : VersionName) → has_version g v ≡ true → IsSame d b g v
    has_same v e = same_by v (is_current g v) refl e

    get_acts : (name : List ℕ) (key : ℕ) (v : VersionName) (o : Option ℕ) → IsSame d b g v → get_of (over_table g.head) (source_in g) (tx_in g) name key (Some v) o ≡ get_of (over_table (head_of d b)) sources (tx_in g) name key (Some v) o
    get_acts name key v None same = refl
    get_acts name key v (Some r) same =
        let source = same.source in
        let contents = same.contents r in
        get_seen (over_table g.head) (tx_in g) r key (source_in g v)
        ∙ (λ i. unless (tx_in g) (lacking (source i)) (answered (tx_in g) (One (record_with key (finite.get (contents i) key)))))
        ∙ sym (get_seen (over_table (head_of d b)) (tx_in g) r key (sources v))

    -- several versions
    sources_same : (names : List VersionName) → list_all (has_version g) names ≡ true → map (source_in g) names ≡ map sources names
    sources_same [] e = refl
    sources_same (v ∷ vs) e =
        let parts = and_parts (has_version g v) (list_all (has_version g) vs) e in
        let one = (has_same v parts.0).source in
        let more = sources_same vs parts.1 in
        λ i. one i ∷ more i

    rows_same : (p : Record → Bool) (r : ℕ) (names : List VersionName) → list_all (has_version g) names ≡ true
        → map (λ v. rows_from (over_table g.head) p (tx_in g) r (source_in g v)) names ≡ map (λ v. rows_from (over_table (head_of d b)) p (tx_in g) r (sources v)) names
    rows_same p r [] e = refl
    rows_same p r (v ∷ vs) e =
        let parts = and_parts (has_version g v) (list_all (has_version g) vs) e in
        let one = (has_same v parts.0).contents r in
        let more = rows_same p r vs parts.1 in
        λ i. filter p (rows_of (one i)) ∷ more i

    versions_acts : (r : ℕ) (p : Record → Bool) (names : List VersionName) → list_all (has_version g) names ≡ true → scan_versions (over_table g.head) (source_in g) (tx_in g) r p names ≡ scan_versions (over_table (head_of d b)) sources (tx_in g) r p names
    versions_acts r p names e =
        let found_same = sources_same names e in
        let rows = rows_same p r names e in
        λ i. unless (tx_in g) (first_lacking (found_same i)) (answered (tx_in g) (Listed names (union_marked (rows i))))

    heads_acts : (r : ℕ) (p : Record → Bool) (o : Option (List (List ℕ))) → HeadsFor d rows s o → has_heads g o ≡ true
        → scan_versions (over_table g.head) (source_in g) (tx_in g) r p (map plain (names_or_none o)) ≡ scan_versions (over_table (head_of d b)) sources (tx_in g) r p (map plain (branch_names d))
    heads_acts r p None h e = absurd (false≢true e)
    heads_acts r p (Some names) h e =
        versions_acts r p (map plain names) (list_all-map (has_version g) plain names ∙ e)
        ∙ ap (λ (ns : List (List ℕ)). scan_versions (over_table (head_of d b)) sources (tx_in g) r p (map plain ns)) h.0

    over_acts : (r : ℕ) (p : Record → Bool) (over : ScanOver) → has_over g over ≡ true
        → scan_over (over_table g.head) (source_in g) (names_or_none g.heads) (tx_in g) r p over ≡ scan_over (over_table (head_of d b)) sources (branch_names d) (tx_in g) r p over
    over_acts r p Current e = ap (λ (t : Table). answered (tx_in g) (Listed [] (map marked (rows_from (over_table t) p (tx_in g) r Own)))) (head_by g.held k.held e).0
    over_acts r p (Named names) e = versions_acts r p names e
    over_acts r p Heads e = heads_acts r p g.heads k.heads e

    scan_acts : (schema : List Relation) (name : List ℕ) (over : ScanOver) (terms : List Term) (o : Option ℕ) → has_over g over ≡ true
        → scan_of (over_table g.head) schema (source_in g) (names_or_none g.heads) (tx_in g) name over terms o ≡ scan_of (over_table (head_of d b)) schema sources (branch_names d) (tx_in g) name over terms o
    scan_acts schema name over terms None e = refl
    scan_acts schema name over terms (Some r) e = ap (unless (tx_in g) (terms_refusal schema r terms)) (over_acts r (holds (columns_at schema r) terms) over e)

    -- two versions
    join_acts : (schema : List Relation) (name other : List ℕ) (v w : VersionName) (terms : List Term) (o q : Option ℕ) → IsSame d b g v → IsSame d b g w
        → join_of (over_table g.head) schema (tx_in g) name other (source_in g v) (source_in g w) terms o q ≡ join_of (over_table (head_of d b)) schema (tx_in g) name other (sources v) (sources w) terms o q
    join_acts schema name other v w terms None q one two = refl
    join_acts schema name other v w terms (Some r) None one two = refl
    join_acts schema name other v w terms (Some r) (Some t) one two =
        let first = one.source in
        let second = two.source in
        let rows = one.contents r in
        let others = two.contents t in
        λ i. unless (tx_in g) (terms_refusal schema r terms) (unless (tx_in g) (first_lacking (first i ∷ second i ∷ [])) (answered (tx_in g) (Paired (pairs_of (filter (holds (columns_at schema r) terms) (rows_of (rows i))) (others i)))))

    minus_acts : (name : List ℕ) (v w : VersionName) (o : Option ℕ) → IsSame d b g v → IsSame d b g w
        → minus_of (over_table g.head) (tx_in g) name (source_in g v) (source_in g w) o ≡ minus_of (over_table (head_of d b)) (tx_in g) name (sources v) (sources w) o
    minus_acts name v w None one two = refl
    minus_acts name v w (Some r) one two =
        let first = one.source in
        let second = two.source in
        let rows = one.contents r in
        let others = two.contents r in
        λ i. unless (tx_in g) (first_lacking (first i ∷ second i ∷ [])) (answered (tx_in g) (Listed [] (map marked (unlike (rows_of (rows i)) (others i)))))

    granted_acts : (x : Stmt) → IsAct x → is_granted g x ≡ true → acted g x ≡ act_over d b (tx_in g) x
    granted_acts (Insert name key fields) a e = held_acts (source_in g) (branch_names d) (Insert name key fields) (alone_held g.held e)
    granted_acts (Update name key sets) a e = held_acts (source_in g) (branch_names d) (Update name key sets) (alone_held g.held e)
    granted_acts (Delete name key) a e = held_acts (source_in g) (branch_names d) (Delete name key) (alone_held g.held e)
    granted_acts (Get name key None) a e = held_acts (source_in g) (branch_names d) (Get name key None) e ∙ by_relation (relation_named d.schema name)
      where
        by_relation : (o : Option ℕ) → get_of (over_table (head_of d b)) (source_in g) (tx_in g) name key None o ≡ get_of (over_table (head_of d b)) sources (tx_in g) name key None o
        by_relation None = refl
        by_relation (Some r) = refl
    granted_acts (Get name key (Some v)) a e =
        get_acts name key v (relation_named g.schema name) (has_same v e)
        ∙ ap (λ (schema : List Relation). get_of (over_table (head_of d b)) sources (tx_in g) name key (Some v) (relation_named schema name)) k.schema
    granted_acts (Scan name over terms) a e =
        scan_acts g.schema name over terms (relation_named g.schema name) e
        ∙ ap (λ (schema : List Relation). scan_of (over_table (head_of d b)) schema sources (branch_names d) (tx_in g) name over terms (relation_named schema name)) k.schema
    granted_acts (Join left right v w terms) a e =
        let parts = and_parts (has_version g v) (has_version g w) e in
        join_acts g.schema left right v w terms (relation_named g.schema left) (relation_named g.schema right) (has_same v parts.0) (has_same w parts.1)
        ∙ ap (λ (schema : List Relation). join_of (over_table (head_of d b)) schema (tx_in g) left right (sources v) (sources w) terms (relation_named schema left) (relation_named schema right)) k.schema
    granted_acts (Minus name v w) a e =
        let parts = and_parts (has_version g v) (has_version g w) e in
        minus_acts name v w (relation_named g.schema name) (has_same v parts.0) (has_same w parts.1)
        ∙ ap (λ (schema : List Relation). minus_of (over_table (head_of d b)) (tx_in g) name (sources v) (sources w) (relation_named schema name)) k.schema
    granted_acts _ a e = absurd (false≢true e)

    by_early : (x : Stmt) → IsAct x → (q : Bool) → is_early g.schema true (has_done g) x ≡ q → (q || is_granted g x) ≡ true → acted g x ≡ act_over d b (tx_in g) x
    by_early x a true f e = early_acts x a f
    by_early x a false f e = granted_acts x a e

    pub covered_acts : (x : Stmt) → IsAct x → covers g x ≡ true → acted g x ≡ act_over d b (tx_in g) x
    covered_acts x a e = by_early x a (is_early g.schema true (has_done g) x) refl e

-- ---- what it leaves

-- a statement that needs no branch alone changes nothing
get_leaves : (k : Keeping (List Overlay)) (sources : VersionName → Source) (tx : Tx (List Overlay)) (name : List ℕ) (key : ℕ) (s : Source) (r : ℕ) → (get_from k tx r key s).tx ≡ tx
get_leaves k sources tx name key Own r = refl
get_leaves k sources tx name key (Other t) r = refl
get_leaves k sources tx name key (Lacking why) r = refl

early_leaves : (g : Granted) (x : Stmt) → IsAct x → is_early g.schema true (has_done g) x ≡ true → (acted g x).tx.work ≡ g.overlays
early_leaves g x a e = ap (λ (o : Outcome (List Overlay)). o.tx.work) (act_early (over_table g.head) (ground_in g) (source_in g) (names_or_none g.heads) (tx_in g) (has_done g) x e)

look_leaves : (g : Granted) (x : Stmt) → IsAct x → is_granted g x ≡ true → holds_alone g.held ≡ false → (acted g x).tx.work ≡ g.overlays
look_leaves g (Insert name key fields) a e h = absurd (true≢false (sym e ∙ h))
look_leaves g (Update name key sets) a e h = absurd (true≢false (sym e ∙ h))
look_leaves g (Delete name key) a e h = absurd (true≢false (sym e ∙ h))
look_leaves g (Get name key at) a e h = by_relation (relation_named g.schema name)
  where
    by_at : (at : Option VersionName) (r : ℕ) → (get_of (over_table g.head) (source_in g) (tx_in g) name key at (Some r)).tx.work ≡ g.overlays
    by_at None r = refl
    by_at (Some v) r = ap (λ (tx : Tx (List Overlay)). tx.work) (get_leaves (over_table g.head) (source_in g) (tx_in g) name key (source_in g v) r)

    by_relation : (o : Option ℕ) → (get_of (over_table g.head) (source_in g) (tx_in g) name key at o).tx.work ≡ g.overlays
    by_relation None = refl
    by_relation (Some r) = by_at at r
look_leaves g (Scan name over terms) a e h = ap (λ (o : Granted). o.overlays) (sym (scan_left g name over terms))
look_leaves g (Join left right v w terms) a e h = ap (λ (o : Granted). o.overlays) (sym (join_left g left right v w terms))
look_leaves g (Minus name v w) a e h = ap (λ (o : Granted). o.overlays) (sym (minus_left g name v w))
look_leaves g _ a e h = absurd (false≢true e)

leaves_by : (g : Granted) (x : Stmt) → IsAct x → (q : Bool) → is_early g.schema true (has_done g) x ≡ q → (q || is_granted g x) ≡ true → holds_alone g.held ≡ false → (acted g x).tx.work ≡ g.overlays
leaves_by g x a true f e h = early_leaves g x a f
leaves_by g x a false f e h = look_leaves g x a e h

left_held : (d : Dataset) (rows : List Row) (s b : ℕ) (g : Granted) (os : List Overlay) (o : Option (Bool × Bool)) → HeldFor d rows s b g o → (holds_alone o ≡ false → os ≡ g.overlays) → HeldFor d rows s b (record g { overlays = os }) o
left_held d rows s b g os None h same = (same refl ∙ h.0, h.1)
left_held d rows s b g os (Some (false, full)) h same = ((same refl ∙ h.0.0, h.0.1), record { head_is = h.1.head_is; full_is = h.1.full_is; owned = h.1.owned })
left_held d rows s b g os (Some (true, full)) h same = (h.0, record { head_is = h.1.head_is; full_is = h.1.full_is; owned = h.1.owned })

-- it keeps what was granted
pub left_keeps : (d : Dataset) (rows : List Row) (s b : ℕ) (g : Granted) (x : Stmt) → IsAct x → covers g x ≡ true → Keeps d rows s b g → Keeps d rows s b (left g x)
left_keeps d rows s b g x a e k = record {
  schema = k.schema;
  name = k.name;
  held = left_held d rows s b g (acted g x).tx.work g.held k.held (leaves_by g x a (is_early g.schema true (has_done g) x) refl e);
  lent = k.lent;
  heads = k.heads;
}

pub left_is : (g : Granted) (x : Stmt) → tx_in (left g x) ≡ (acted g x).tx
left_is g x = sym (act_does (over_table g.head) (length g.schema) (tx_in g) (λ o. o.tx ≡ record (tx_in g) { work = o.tx.work }) (λ why. refl) (λ reply e. refl) (λ r key state h. refl) (ground_in g) (source_in g) (names_or_none g.heads) x refl)

-- ---- granted more

pub more_none : (g : Granted) → IsMore g g
more_none g = record { schema = refl; name = refl; held = λ e. e; head = λ e. refl; overlays = refl; room = refl; second = refl; lent = take_all g.lent; heads = λ e. refl }
  where
    take_all : (ls : List (VersionName × Table)) → take (length ls) ls ≡ ls
    take_all [] = refl
    take_all (l ∷ ls) = ap (λ (t : List (VersionName × Table)). l ∷ t) (take_all ls)

-- and more again
take_in : (xs ys zs : List (VersionName × Table)) → take (length xs) ys ≡ xs → take (length ys) zs ≡ ys → take (length xs) zs ≡ xs
take_in [] ys zs e f = refl
take_in (x ∷ xs) [] zs e f = absurd cc
take_in (x ∷ xs) (y ∷ ys) [] e f = absurd cc
take_in (x ∷ xs) (y ∷ ys) (z ∷ zs) e f =
    let first : z ≡ x = cc in
    let front : take (length xs) ys ≡ xs = cc in
    let more : take (length ys) zs ≡ ys = cc in
    let all = take_in xs ys zs front more in
    λ i. first i ∷ all i

pub more_more : (g h k : Granted) → IsMore g h → IsMore h k → IsMore g k
more_more g h k m n = record {
  schema = n.schema ∙ m.schema;
  name = n.name ∙ m.name;
  held = λ e. n.held (m.held e);
  head = λ e. n.head (m.held e) ∙ m.head e;
  overlays = n.overlays ∙ m.overlays;
  room = n.room ∙ m.room;
  second = n.second ∙ m.second;
  lent = take_in g.lent h.lent k.lent m.lent n.lent;
  heads = λ e. n.heads (ap (λ (o : Option (List (List ℕ))). is_some o) (m.heads e) ∙ e) ∙ m.heads e;
}

-- what was granted stays granted
module _ (g h : Granted) (m : IsMore g h) where
  stays_by : (v : VersionName) (q : Bool) → is_current g v ≡ q → cond q (is_some g.held) (is_some (lent_table g.lent v)) ≡ true → cond q (is_some h.held) (is_some (lent_table h.lent v)) ≡ true
  stays_by v true c e = m.held e
  stays_by v false c e = lent_front g.lent h.lent v m.lent e

  pub version_stays : (v : VersionName) → has_version g v ≡ true → has_version h v ≡ true
  version_stays v e =
      ap (λ (name : List ℕ). cond (is_current (record g { name = name }) v) (is_some h.held) (is_some (lent_table h.lent v))) m.name
      ∙ stays_by v (is_current g v) refl e

  pub versions_stay : (names : List VersionName) → list_all (has_version g) names ≡ true → list_all (has_version h) names ≡ true
  versions_stay [] e = refl
  versions_stay (v ∷ vs) e =
      let parts = and_parts (has_version g v) (list_all (has_version g) vs) e in
      and_from (has_version h v) (list_all (has_version h) vs) (version_stays v parts.0) (versions_stay vs parts.1)

pub more_tx : (g h : Granted) → IsMore g h → tx_in h ≡ tx_in g
more_tx g h m = λ i. record { begun = true; room = m.room i; work = m.overlays i; second = m.second i; made = None; moved = None }

-- what is known of a statement in the transaction is known in one that was granted more
pub known_more : (d : Dataset) (g h : Granted) (x : Stmt) (k : Known) → k ≡ known_of d.schema true (has_done g) x → g.schema ≡ d.schema → IsMore g h → k ≡ known_in h x
known_more d g h x k e s m =
    let schema = m.schema ∙ s in
    let tx = more_tx g h m in
    e ∙ sym (λ i. known_of (schema i) true (is_changed (tx i)) x)

-- what was granted more is taken back
back_held : (d : Dataset) (rows : List Row) (s b : ℕ) (g h : Granted) (o : Option (Bool × Bool)) (ls : List (VersionName × Table)) (ss : List Shown) (hs : Option (List (List ℕ))) → h.overlays ≡ g.overlays → h.second ≡ g.second → (is_some o ≡ true → h.head ≡ g.head) → HeldFor d rows s b g o
    → HeldFor d rows s b (record h { held = o; lent = ls; shown = ss; heads = hs }) o
back_held d rows s b g h None ls ss hs w two head k = (w ∙ k.0, two ∙ k.1)
back_held d rows s b g h (Some (false, full)) ls ss hs w two head k = ((w ∙ k.0.0, two ∙ k.0.1), record { head_is = head refl ∙ k.1.head_is; full_is = k.1.full_is; owned = k.1.owned })
back_held d rows s b g h (Some (true, full)) ls ss hs w two head k = (k.0, record { head_is = head refl ∙ k.1.head_is; full_is = k.1.full_is; owned = k.1.owned })

back_heads : (d : Dataset) (rows : List Row) (s : ℕ) (o p : Option (List (List ℕ))) → (is_some o ≡ true → p ≡ o) → HeadsFor d rows s o → HeadsFor d rows s (cond (is_some o) p None)
back_heads d rows s None p e h = tt
back_heads d rows s (Some names) p e h = subst (HeadsFor d rows s) (sym (e refl)) h

pub back_keeps : (d : Dataset) (rows : List Row) (s b : ℕ) (g h : Granted) → IsMore g h → Keeps d rows s b g → Keeps d rows s b (record h { held = g.held; lent = take (length g.lent) h.lent; shown = take (length g.lent) h.shown; heads = cond (is_some g.heads) h.heads None })
back_keeps d rows s b g h m k = record {
  schema = m.schema ∙ k.schema;
  name = m.name ∙ k.name;
  held = back_held d rows s b g h g.held (take (length g.lent) h.lent) (take (length g.lent) h.shown) (cond (is_some g.heads) h.heads None) m.overlays m.second m.head k.held;
  lent = subst (AllLent d rows s b) (sym m.lent) k.lent;
  heads = back_heads d rows s g.heads h.heads m.heads k.heads;
}

-- ---- one version more

abbrev pub with_lent : Granted → VersionName → Table → Shown → Granted
with_lent g v t shown = record g { lent = g.lent ++ (v, t) ∷ []; shown = g.shown ++ shown ∷ [] }

lent_held : (d : Dataset) (rows : List Row) (s b : ℕ) (g : Granted) (ls : List (VersionName × Table)) (ss : List Shown) (o : Option (Bool × Bool)) → HeldFor d rows s b g o → HeldFor d rows s b (record g { lent = ls; shown = ss }) o
lent_held d rows s b g ls ss None h = h
lent_held d rows s b g ls ss (Some (false, full)) h = (h.0, record { head_is = h.1.head_is; full_is = h.1.full_is; owned = h.1.owned })
lent_held d rows s b g ls ss (Some (true, full)) h = (h.0, record { head_is = h.1.head_is; full_is = h.1.full_is; owned = h.1.owned })

pub lent_keeps : (d : Dataset) (rows : List Row) (s b : ℕ) (g : Granted) (v : VersionName) (t : Table) (shown : Shown) → Keeps d rows s b g → source_of b (found d v) ≡ Other t → AllGranted rows s (found_needs (found d v)) → Keeps d rows s b (with_lent g v t shown)
lent_keeps d rows s b g v t shown k e n = record {
  schema = k.schema;
  name = k.name;
  held = lent_held d rows s b g (g.lent ++ (v, t) ∷ []) (g.shown ++ shown ∷ []) g.held k.held;
  lent = lent_more d rows s b g.lent v t k.lent e (within_granted rows s (found_needs (found d v)) n);
  heads = k.heads;
}

pub lent_has : (g : Granted) (v : VersionName) (t : Table) (shown : Shown) → is_current g v ≡ false → has_version (with_lent g v t shown) v ≡ true
lent_has g v t shown c = ap (λ q. cond q (is_some g.held) (is_some (lent_table (g.lent ++ (v, t) ∷ []) v))) c ∙ lent_last g.lent v t

pub more_lent : (g : Granted) (v : VersionName) (t : Table) (shown : Shown) → IsMore g (with_lent g v t shown)
more_lent g v t shown = record { schema = refl; name = refl; held = λ e. e; head = λ e. refl; overlays = refl; room = refl; second = refl; lent = take-append_seam g.lent ((v, t) ∷ []); heads = λ e. refl }

-- ---- several versions

-- the needs of one of the names are among those of all
pub named_needs : (d : Dataset) (rows : List Row) (s : ℕ) (names : List VersionName) (i : ℕ) (v o : VersionName) → i < length names → get_or names i o ≡ v → AllGranted rows s (names_needs d names) → AllGranted rows s (found_needs (found d v))
named_needs d rows s [] i v o h e a = absurd (omega (arith, h))
named_needs d rows s (u ∷ us) zero v o h e a = λ n f. a n (has_left (found_needs (found d u)) (names_needs d us) n (subst (λ (w : VersionName). Has (found_needs (found d w)) n) (sym e) f))
named_needs d rows s (u ∷ us) (suc i) v o h e a = named_needs d rows s us i v o (omega (arith, h)) e (λ n f. a n (has_right (found_needs (found d u)) (names_needs d us) n f))

-- ---- the heads of all branches

branch_need : (m i : ℕ) → i < m → Has (branch_needs m) (shared (lock_of i))
branch_need zero i h = absurd (omega (arith, h))
branch_need (suc m) i h = at (λ l. branch_need m i l) (i == m) refl
  where
    at : (i < m → Has (branch_needs m) (shared (lock_of i))) → (q : Bool) → (i == m) ≡ q → Has (branch_needs (suc m)) (shared (lock_of i))
    at below true e = has_right (branch_needs m) (shared (lock_of m) ∷ []) (shared (lock_of i)) (inl (ap (λ n. shared (lock_of n)) (sym (eqb-true i m e))))
    at below false e = let other = eqb-false i m e in has_left (branch_needs m) (shared (lock_of m) ∷ []) (shared (lock_of i)) (below (omega (arith, h, other)))

pub head_needs : (d : Dataset) (i : ℕ) → branch_named d (branch_at d i).name ≡ Some i → found_needs (found d (plain (branch_at d i).name)) ≡ shared (lock_of i) ∷ []
head_needs d i e = ap (λ (o : Option ℕ). found_needs (head_found d (branch_at d i).name o)) e

module _ (d : Dataset) (rows : List Row) (s b : ℕ) (sound : IsSound d) (a : AllGranted rows s (scan_needs d b Heads)) where
  abbrev names_from : ℕ → List VersionName
  names_from i = map plain (map (λ branch. branch.name) (drop i d.branches))

  -- n branches are left
  needs_from : (n i : ℕ) → n + i ≡ length d.branches → AllGranted rows s (names_needs d (names_from i))
  needs_from zero i e = subst (λ (bs : List BranchOf). AllGranted rows s (names_needs d (map plain (map (λ branch. branch.name) bs)))) (sym (drop_all i d.branches (omega (arith, e)))) (λ n h. absurd h)
  needs_from (suc n) i e =
      let there : i < length d.branches = omega (arith, e) in
      let v : VersionName = plain (branch_at d i).name in
      let one : found_needs (found d v) ≡ shared (lock_of i) ∷ [] = head_needs d i (sound.named i there) in
      let more : AllGranted rows s (names_needs d (names_from (i + 1))) = needs_from n (i + 1) (omega (arith, e)) in
      subst (λ (bs : List BranchOf). AllGranted rows s (names_needs d (map plain (map (λ branch. branch.name) bs)))) (sym (drop_more d.branches i no_branch there))
      (subst (λ (ns : List Need). AllGranted rows s (ns ++ names_needs d (names_from (i + 1)))) (sym one)
      (λ n h. ⊎_elim (λ (f : shared (lock_of i) ≡ n). a n (inr (subst (Has (branch_needs (length d.branches))) f (branch_need (length d.branches) i there)))) (λ (f : Has (names_needs d (names_from (i + 1))) n). more n f) h))

  pub heads_needs : AllGranted rows s (names_needs d (map plain (branch_names d)))
  heads_needs = needs_from (length d.branches) 0 (omega arith)

abbrev pub with_heads : Granted → List (List ℕ) → Granted
with_heads g names = record g { heads = Some names }

heads_held : (d : Dataset) (rows : List Row) (s b : ℕ) (g : Granted) (names : List (List ℕ)) (o : Option (Bool × Bool)) → HeldFor d rows s b g o → HeldFor d rows s b (with_heads g names) o
heads_held d rows s b g names None h = h
heads_held d rows s b g names (Some (false, full)) h = (h.0, record { head_is = h.1.head_is; full_is = h.1.full_is; owned = h.1.owned })
heads_held d rows s b g names (Some (true, full)) h = (h.0, record { head_is = h.1.head_is; full_is = h.1.full_is; owned = h.1.owned })

pub heads_keeps : (d : Dataset) (rows : List Row) (s b : ℕ) (g : Granted) → Keeps d rows s b g → AllGranted rows s (scan_needs d b Heads) → Keeps d rows s b (with_heads g (branch_names d))
heads_keeps d rows s b g k a = record {
  schema = k.schema;
  name = k.name;
  held = heads_held d rows s b g (branch_names d) g.held k.held;
  lent = k.lent;
  heads = (refl, (false, a (shared catalogue) (inl refl)));
}

pub heads_had : (g : Granted) (names : List (List ℕ)) → list_all (has_version g) (map plain names) ≡ true → has_heads (with_heads g names) (Some names) ≡ true
heads_had g names e = sym (list_all-map (has_version g) plain names) ∙ e

noted_same : (d : Dataset) (rows : List Row) (s : ℕ) (o : Option (List (List ℕ))) → HeadsFor d rows s o → is_some o ≡ true → Some (branch_names d) ≡ o
noted_same d rows s None h e = absurd (false≢true e)
noted_same d rows s (Some names) h e = ap Some (sym h.0)

pub more_heads : (d : Dataset) (rows : List Row) (s b : ℕ) (g : Granted) → Keeps d rows s b g → IsMore g (with_heads g (branch_names d))
more_heads d rows s b g k =
    let m = more_none g in
    record { schema = refl; name = refl; held = λ e. e; head = λ e. refl; overlays = refl; room = refl; second = refl; lent = m.lent; heads = noted_same d rows s g.heads k.heads }

-- ---- what a statement needs that isn't covered

uncovered_late : (p q : Bool) → (p || q) ≡ false → p ≡ false
uncovered_late true q e = absurd (true≢false e)
uncovered_late false q e = refl

pub late : (d : Dataset) (g : Granted) (x : Stmt) → g.schema ≡ d.schema → covers g x ≡ false → is_early d.schema true (has_done g) x ≡ false
late d g x schema e = ap (λ (s : List Relation). is_early s true (has_done g) x) (sym schema) ∙ uncovered_late (is_early g.schema true (has_done g) x) (is_granted g x) e

pub needs_late : (d : Dataset) (rows : List Row) (s b : ℕ) (changed : Bool) (x : Stmt) → is_early d.schema true changed x ≡ false → AllGranted rows s (needs d b true changed x) → AllGranted rows s (stmt_needs d b x)
needs_late d rows s b changed x e a = subst (λ (q : Bool). AllGranted rows s (cond q [] (stmt_needs d b x))) e a

pub needed : (d : Dataset) (rows : List Row) (s b : ℕ) (g : Granted) (x y : Stmt) → Keeps d rows s b g → covers g x ≡ false → x ≡ y → AllGranted rows s (needs d b true (has_done g) x) → AllGranted rows s (stmt_needs d b y)
needed d rows s b g x y k e is a = subst (λ (z : Stmt). AllGranted rows s (stmt_needs d b z)) is (needs_late d rows s b (has_done g) x (late d g x k.schema e) a)

-- the first of the needs
pub first_need : (d : Dataset) (rows : List Row) (s b : ℕ) (g : Granted) (x : Stmt) (n : Need) → Keeps d rows s b g → covers g x ≡ false → stmt_needs d b x ≡ n ∷ [] → AllGranted rows s (needs d b true (has_done g) x) → Has rows (row s n)
first_need d rows s b g x n k e is a = needs_late d rows s b (has_done g) x (late d g x k.schema e) a n (subst (λ (ns : List Need). Has ns n) (sym is) (inl refl))

-- a look-up in a version that isn't there is refused
lacking_source : (s : Source) (why : Refusal) → lacking s ≡ Some why → s ≡ Lacking why
lacking_source Own why e = absurd cc
lacking_source (Other t) why e = absurd cc
lacking_source (Lacking w) why e = let q : w ≡ why = cc in ap Lacking q

there_is : (name : List ℕ) (o : Option ℕ) → is_some (relation_refusal name o) ≡ false → (r : ℕ) × (o ≡ Some r)
there_is name None e = absurd (true≢false e)
there_is name (Some r) e = (r, refl)

-- so is a question to versions of which one isn't there
none_is : (o : Option Refusal) → is_some o ≡ false → o ≡ None
none_is None e = refl
none_is (Some why) e = absurd (true≢false e)

both_there : (schema : List Relation) (left right : List ℕ) (terms : List Term) (o q : Option ℕ) → is_some (join_refusal schema left right terms o q) ≡ false
    → (r : ℕ) × (t : ℕ) × (o ≡ Some r) × (q ≡ Some t) × (terms_refusal schema r terms ≡ None)
both_there schema left right terms None q e = absurd (true≢false e)
both_there schema left right terms (Some r) None e = absurd (true≢false e)
both_there schema left right terms (Some r) (Some t) e = (r, t, refl, refl, none_is (terms_refusal schema r terms) e)

pub join_lacking : (d : Dataset) (b : ℕ) (tx : Tx (List Overlay)) (left right : List ℕ) (v w : VersionName) (terms : List Term) (why : Refusal) → is_early d.schema true false (Join left right v w terms) ≡ false → lacking_of d b (v ∷ w ∷ []) ≡ Some why
    → act_over d b tx (Join left right v w terms) ≡ refused tx why
join_lacking d b tx left right v w terms why e l =
    let k : Keeping (List Overlay) = over_table (head_of d b) in
    let one : Source = source_of b (found d v) in
    let two : Source = source_of b (found d w) in
    let p = both_there d.schema left right terms (relation_named d.schema left) (relation_named d.schema right) e in
    let r : ℕ = p.0 in
    let t : ℕ = p.1 in
    let rows : List Record = rows_from k (holds (columns_at d.schema r) terms) tx r one in
    ap (λ (o : Option ℕ). join_of k d.schema tx left right one two terms o (relation_named d.schema right)) p.2
    ∙ ap (λ (o : Option ℕ). join_of k d.schema tx left right one two terms (Some r) o) p.3
    ∙ ap (λ (o : Option Refusal). unless tx o (unless tx (lacking_of d b (v ∷ w ∷ [])) (answered tx (Paired (pairs_of rows (contents_from k tx t two)))))) p.4
    ∙ ap (λ (o : Option Refusal). unless tx o (answered tx (Paired (pairs_of rows (contents_from k tx t two))))) l

pub minus_lacking : (d : Dataset) (b : ℕ) (tx : Tx (List Overlay)) (name : List ℕ) (v w : VersionName) (why : Refusal) → is_early d.schema true false (Minus name v w) ≡ false → lacking_of d b (v ∷ w ∷ []) ≡ Some why → act_over d b tx (Minus name v w) ≡ refused tx why
minus_lacking d b tx name v w why e l =
    let k : Keeping (List Overlay) = over_table (head_of d b) in
    let one : Source = source_of b (found d v) in
    let two : Source = source_of b (found d w) in
    let r = there_is name (relation_named d.schema name) e in
    ap (minus_of k tx name one two) r.1
    ∙ ap (λ (o : Option Refusal). unless tx o (answered tx (Listed [] (map marked (unlike (rows_of (contents_from k tx r.0 one)) (contents_from k tx r.0 two)))))) l

-- a refusal is that of the statement
pub refused_as : (d : Dataset) (b : ℕ) (g : Granted) (x y : Stmt) (P : Refusal → Type 0) (o : Option Refusal) → g.schema ≡ d.schema → covers g x ≡ false → x ≡ y
    → ((why : Refusal) → is_early d.schema true (has_done g) y ≡ false → P why → act_over d b (tx_in g) y ≡ refused (tx_in g) why) → IfSome o P → IfSome o (λ why. act_over d b (tx_in g) x ≡ refused (tx_in g) why)
refused_as d b g x y P None schema e is f h = h
refused_as d b g x y P (Some why) schema e is f h =
    ap (act_over d b (tx_in g)) is ∙ f why (subst (λ (z : Stmt). is_early d.schema true (has_done g) z ≡ false) is (late d g x schema e)) h

-- what was granted suffices, or a version isn't there
pub ready_of : (st : State) (b : ℕ) (x : Stmt) (g h : Granted) (o : Option Refusal) → IsMore g h → (o ≡ None → covers h x ≡ true) → IfSome o (IsRefusedFor st b g x) → IsReady st b x h
ready_of st b x g h None m c l = inl (c refl)
ready_of st b x g h (Some why) m c l = inr (why, subst (λ (t : Tx (List Overlay)). act_over (dataset_of st) b t x ≡ refused t why) (sym (more_tx g h m)) l)
