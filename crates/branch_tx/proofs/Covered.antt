-- What a granted transaction answers to a statement that it covers is what the rules give on the dataset from which it was granted.
use Rattle.std.proofs.Common.{◌≡◌, ℕ, ◌||◌, ◌&&◌, is_some, Bool, true, false, cond, List, [], ◌∷◌, map, refl, ap, sym, ◌∙◌, Option, Some, None}
use Rattle.std.specs.List.{filter, list_all}
use Rattle.std.proofs.lemmas.Bool.{and_parts}
use Rattle.db_value.specs.Relations.{columns_at}
use Rattle.db_value.specs.Condition.{holds}
use Rattle.db_value.specs.declared.record.Record.{Record}
use Rattle.db_value.specs.declared.schema.Relation.{Relation}
use Rattle.db_value.specs.declared.condition.Term.{Term}
use Rattle.db_value.specs.declared.version.VersionName.{VersionName}
use Rattle.db_value.specs.declared.reply.Reply.TheVariants.{Listed, Paired}
use Rattle.db_store.specs.Table.{Table, Contents, rows_of}
use Rattle.db_store.specs.Overlay.{Overlay}
use Rattle.db_store.specs.Dataset.{Dataset, head_of}
use Rattle.stmt_text.specs.declared.stmt.Stmt.{Stmt}
use Rattle.stmt_text.specs.declared.stmt.Stmt.TheVariants.{Insert, Update, Delete, Get, Scan, Join, Minus}
use Rattle.stmt_text.specs.declared.stmt.ScanOver.{ScanOver}
use Rattle.stmt_text.specs.declared.stmt.ScanOver.TheVariants.{Current, Named, Heads}
use Rattle.branch_tx.specs.Keeping.{Keeping, over_table}
use Rattle.db_store.specs.Found.{found, branch_names, plain}
use Rattle.branch_tx.specs.Found.{Source, Own, Other, Lacking, source_of, lacking, lacking_or, first_lacking}
use Rattle.branch_tx.specs.Act.{Tx, Outcome, refused, answered, unless, get_from, get_of, marked, union_marked, pairs_of, unlike, contents_from, rows_from, scan_versions, scan_over, scan_of, join_of, minus_of, act}
use Rattle.line_needs.specs.Columns.{relation_named}
use Rattle.line_needs.specs.Early.{terms_refusal}
use Rattle.branch_tx.specs.Alone.{ground_of}
use Rattle.branch_tx.specs.Granted.{Granted, has_done, is_current, lent_table, lent_source, source_in, names_or_none, ground_in, tx_in, acted}
use Rattle.line_needs.specs.Early.{is_early}
use Rattle.branch_tx.specs.Frame.{step_over}
use Rattle.branch_tx.specs.Covers.{holds_alone, has_version, has_at, has_heads, has_over, is_granted, covers, IsGrantedOn, CoveredLaw}
use Rattle.branch_tx.proofs.EarlyLines.{early_why, early_refused, act_early}

alone_held : (o : Option (Bool × Bool)) → holds_alone o ≡ true → is_some o ≡ true
alone_held None e = absurd cc
alone_held (Some h) e = refl

module _ (g : Granted) (d : Dataset) (b : ℕ) (m : IsGrantedOn g d b) where
  abbrev own : Keeping (List Overlay)
  own = over_table g.head

  abbrev rule : Keeping (List Overlay)
  rule = over_table (head_of d b)

  abbrev tx : Tx (List Overlay)
  tx = tx_in g

  abbrev sources : VersionName → Source
  sources v = source_of b (found d v)

  -- ---- one version

  -- of a version that isn't its own the head below isn't read
  other_contents : (r : ℕ) (s : Source) → (s ≡ Own → ⊥) → contents_from own tx r s ≡ contents_from rule tx r s
  other_contents r Own n = absurd (n refl)
  other_contents r (Other table) n = refl
  other_contents r (Lacking why) n = refl

  other_get : (r key : ℕ) (s : Source) → (s ≡ Own → ⊥) → get_from own tx r key s ≡ get_from rule tx r key s
  other_get r key Own n = absurd (n refl)
  other_get r key (Other table) n = refl
  other_get r key (Lacking why) n = refl

  not_own : (o : Option Table) → lent_source o ≡ Own → ⊥
  not_own None e = absurd cc
  not_own (Some t) e = absurd cc

  contents_by : (r : ℕ) (v : VersionName) (q : Bool) → is_current g v ≡ q → cond q (is_some g.held) (is_some (lent_table g.lent v)) ≡ true
      → contents_from own tx r (cond q Own (lent_source (lent_table g.lent v))) ≡ contents_from rule tx r (cond q Own (lent_source (lent_table g.lent v)))
  contents_by r v true e h = ap (λ (t : Table). contents_from (over_table t) tx r Own) (m.head h)
  contents_by r v false e h = other_contents r (lent_source (lent_table g.lent v)) (not_own (lent_table g.lent v))

  contents_match : (r : ℕ) (v : VersionName) → has_version g v ≡ true → contents_from own tx r (source_in g v) ≡ contents_from rule tx r (sources v)
  contents_match r v h = contents_by r v (is_current g v) refl h ∙ ap (contents_from rule tx r) (m.sources v h)

  rows_match : (p : Record → Bool) (r : ℕ) (v : VersionName) → has_version g v ≡ true → rows_from own p tx r (source_in g v) ≡ rows_from rule p tx r (sources v)
  rows_match p r v h = ap (λ (c : Contents). filter p (rows_of c)) (contents_match r v h)

  lack_match : (v : VersionName) → has_version g v ≡ true → lacking (source_in g v) ≡ lacking (sources v)
  lack_match v h = ap lacking (m.sources v h)

  get_by : (r key : ℕ) (v : VersionName) (q : Bool) → is_current g v ≡ q → cond q (is_some g.held) (is_some (lent_table g.lent v)) ≡ true
      → get_from own tx r key (cond q Own (lent_source (lent_table g.lent v))) ≡ get_from rule tx r key (cond q Own (lent_source (lent_table g.lent v)))
  get_by r key v true e h = ap (λ (t : Table). get_from (over_table t) tx r key Own) (m.head h)
  get_by r key v false e h = other_get r key (lent_source (lent_table g.lent v)) (not_own (lent_table g.lent v))

  get_match : (name : List ℕ) (key : ℕ) (at : Option VersionName) (o : Option ℕ) → has_at g at ≡ true → get_of own (source_in g) tx name key at o ≡ get_of rule sources tx name key at o
  get_match name key at None h = refl
  get_match name key None (Some r) h = ap (λ (t : Table). get_from (over_table t) tx r key Own) (m.head h)
  get_match name key (Some v) (Some r) h = get_by r key v (is_current g v) refl h ∙ ap (get_from rule tx r key) (m.sources v h)

  -- ---- several versions

  lacks_match : (names : List VersionName) → list_all (has_version g) names ≡ true → first_lacking (map (source_in g) names) ≡ first_lacking (map sources names)
  lacks_match [] h = refl
  lacks_match (v ∷ vs) h =
      let both = and_parts (has_version g v) (list_all (has_version g) vs) h in
      let one = lack_match v both.0 in
      let more = lacks_match vs both.1 in
      λ i. lacking_or (one i) (more i)

  lists_match : (p : Record → Bool) (r : ℕ) (names : List VersionName) → list_all (has_version g) names ≡ true → map (λ v. rows_from own p tx r (source_in g v)) names ≡ map (λ v. rows_from rule p tx r (sources v)) names
  lists_match p r [] h = refl
  lists_match p r (v ∷ vs) h =
      let both = and_parts (has_version g v) (list_all (has_version g) vs) h in
      let one = rows_match p r v both.0 in
      let more = lists_match p r vs both.1 in
      λ i. one i ∷ more i

  versions_match : (r : ℕ) (p : Record → Bool) (names : List VersionName) → list_all (has_version g) names ≡ true → scan_versions own (source_in g) tx r p names ≡ scan_versions rule sources tx r p names
  versions_match r p names h =
      let lacks = lacks_match names h in
      let rows = lists_match p r names h in
      λ i. unless tx (lacks i) (answered tx (Listed names (union_marked (rows i))))

  each_plain : (names : List (List ℕ)) → list_all (λ name. has_version g (plain name)) names ≡ true → list_all (has_version g) (map plain names) ≡ true
  each_plain [] h = refl
  each_plain (name ∷ names) h =
      let both = and_parts (has_version g (plain name)) (list_all (λ n. has_version g (plain n)) names) h in
      (λ i. both.0 i && each_plain names both.1 i)

  heads_match : (r : ℕ) (p : Record → Bool) (o : Option (List (List ℕ))) → g.heads ≡ o → has_heads g o ≡ true
      → scan_versions own (source_in g) tx r p (map plain (names_or_none o)) ≡ scan_versions rule sources tx r p (map plain (branch_names d))
  heads_match r p None e h = absurd cc
  heads_match r p (Some names) e h =
      versions_match r p (map plain names) (each_plain names h)
      ∙ ap (λ (ns : List (List ℕ)). scan_versions rule sources tx r p (map plain ns)) (m.heads names e)

  over_match : (r : ℕ) (p : Record → Bool) (over : ScanOver) → has_over g over ≡ true → scan_over own (source_in g) (names_or_none g.heads) tx r p over ≡ scan_over rule sources (branch_names d) tx r p over
  over_match r p Current h = ap (λ (t : Table). scan_over (over_table t) sources (branch_names d) tx r p Current) (m.head h)
  over_match r p (Named names) h = versions_match r p names h
  over_match r p Heads h = heads_match r p g.heads refl h

  scan_match : (schema : List Relation) (name : List ℕ) (over : ScanOver) (terms : List Term) (o : Option ℕ) → has_over g over ≡ true
      → scan_of own schema (source_in g) (names_or_none g.heads) tx name over terms o ≡ scan_of rule schema sources (branch_names d) tx name over terms o
  scan_match schema name over terms None h = refl
  scan_match schema name over terms (Some r) h =
      ap (λ (x : Outcome (List Overlay)). unless tx (terms_refusal schema r terms) x) (over_match r (holds (columns_at schema r) terms) over h)

  both_lack : (v w : VersionName) → has_version g v ≡ true → has_version g w ≡ true → first_lacking (source_in g v ∷ source_in g w ∷ []) ≡ first_lacking (sources v ∷ sources w ∷ [])
  both_lack v w h l =
      let one = lack_match v h in
      let more = lack_match w l in
      λ i. lacking_or (one i) (lacking_or (more i) None)

  join_match : (schema : List Relation) (name other : List ℕ) (v w : VersionName) (terms : List Term) (o q : Option ℕ) → has_version g v ≡ true → has_version g w ≡ true
      → join_of own schema tx name other (source_in g v) (source_in g w) terms o q ≡ join_of rule schema tx name other (sources v) (sources w) terms o q
  join_match schema name other v w terms None q h l = refl
  join_match schema name other v w terms (Some r) None h l = refl
  join_match schema name other v w terms (Some r) (Some s) h l =
      let lacks = both_lack v w h l in
      let rows = rows_match (holds (columns_at schema r) terms) r v h in
      let others = contents_match s w l in
      λ i. unless tx (terms_refusal schema r terms) (unless tx (lacks i) (answered tx (Paired (pairs_of (rows i) (others i)))))

  minus_match : (name : List ℕ) (v w : VersionName) (o : Option ℕ) → has_version g v ≡ true → has_version g w ≡ true → minus_of own tx name (source_in g v) (source_in g w) o ≡ minus_of rule tx name (sources v) (sources w) o
  minus_match name v w None h l = refl
  minus_match name v w (Some r) h l =
      let lacks = both_lack v w h l in
      let rows = contents_match r v h in
      let others = contents_match r w l in
      λ i. unless tx (lacks i) (answered tx (Listed [] (map marked (unlike (rows_of (rows i)) (others i)))))

  -- ---- statements

  -- a change reads the branch alone
  change_match : (x : Stmt) (names : VersionName → Source) (heads : List (List ℕ)) → holds_alone g.held ≡ true → act own (ground_in g) names heads tx x ≡ act rule (ground_of d b) names heads tx x
  change_match x names heads h =
      let head = m.head (alone_held g.held h) in
      let ground = m.ground (alone_held g.held h) in
      λ i. act (over_table (head i)) (ground i) names heads tx x

  granted_match : (x : Stmt) → is_granted g x ≡ true → acted g x ≡ step_over d b tx x
  granted_match (Insert name key fields) h = change_match (Insert name key fields) sources (branch_names d) h
  granted_match (Update name key sets) h = change_match (Update name key sets) sources (branch_names d) h
  granted_match (Delete name key) h = change_match (Delete name key) sources (branch_names d) h
  granted_match (Get name key at) h =
      get_match name key at (relation_named g.schema name) h
      ∙ ap (λ (schema : List Relation). get_of rule sources tx name key at (relation_named schema name)) m.schema
  granted_match (Scan name over terms) h =
      scan_match g.schema name over terms (relation_named g.schema name) h
      ∙ ap (λ (schema : List Relation). scan_of rule schema sources (branch_names d) tx name over terms (relation_named schema name)) m.schema
  granted_match (Join left right v w terms) h =
      let both = and_parts (has_version g v) (has_version g w) h in
      join_match g.schema left right v w terms (relation_named g.schema left) (relation_named g.schema right) both.0 both.1
      ∙ ap (λ (schema : List Relation). join_of rule schema tx left right (sources v) (sources w) terms (relation_named schema left) (relation_named schema right)) m.schema
  granted_match (Minus name v w) h =
      let both = and_parts (has_version g v) (has_version g w) h in
      minus_match name v w (relation_named g.schema name) both.0 both.1
      ∙ ap (λ (schema : List Relation). minus_of rule tx name (sources v) (sources w) (relation_named schema name)) m.schema
  granted_match _ h = absurd cc

  early_match : (x : Stmt) → is_early g.schema true (has_done g) x ≡ true → acted g x ≡ step_over d b tx x
  early_match x e =
      act_early own (ground_in g) (source_in g) (names_or_none g.heads) tx (has_done g) x e
      ∙ ap (λ (schema : List Relation). refused tx (early_why schema true (has_done g) x)) m.schema
      ∙ sym (early_refused rule d b tx x (ap (λ (schema : List Relation). is_early schema true (has_done g) x) (sym m.schema) ∙ e))

  covered_by : (x : Stmt) (q : Bool) → is_early g.schema true (has_done g) x ≡ q → (q || is_granted g x) ≡ true → acted g x ≡ step_over d b tx x
  covered_by x true e h = early_match x e
  covered_by x false e h = granted_match x h

  -- a statement that is covered is answered as one line more of the transaction
  covered_step : (x : Stmt) → covers g x ≡ true → acted g x ≡ step_over d b tx x
  covered_step x h = covered_by x (is_early g.schema true (has_done g) x) refl h

pub covered_is : CoveredLaw
covered_is g d b x m h = covered_step g d b m x h
