-- Lines of one transaction give the same before and after entries that spare their needs.
use Rattle.std.proofs.Common.{◌≡◌, ℕ, ◌<◌, ◌-◌, arith, Bool, true, false, cond, List, [], ◌∷◌, length, refl, ap, sym, ◌∙◌, subst, Option, Some, None}
use Rattle.db_value.specs.declared.schema.Relation.{Relation}
use Rattle.db_value.specs.declared.condition.Term.{Term}
use Rattle.db_value.specs.declared.condition.Prefer.{Prefer}
use Rattle.db_value.specs.declared.version.VersionName.{VersionName}
use Rattle.db_value.specs.declared.entry.Entry.{Entry}
use Rattle.db_value.specs.declared.reply.Reply.{Reply}
use Rattle.db_value.specs.declared.reply.Reply.TheVariants.{Done}
use Rattle.db_value.specs.declared.reply.Refusal.{Refusal}
use Rattle.db_value.specs.declared.reply.Refusal.TheVariants.{NoBranch, InTransaction, NoTransaction, NotFirst}
use Rattle.db_store.specs.Overlay.{Overlay}
use Rattle.db_store.specs.Dataset.{Branch as BranchOf, Dataset, Version, branch_named, head_of, head_place, table_at, apply, IsMade}
use Rattle.db_store.specs.Order.{IsOrdered, common}
use Rattle.db_store.specs.Sound.{IsSound}
use Rattle.db_store.proofs.SoundLemmas.{sound_stays}
use Rattle.db_store.proofs.OrderMade.{common_made, ordered_stays}
use Rattle.stmt_text.specs.declared.stmt.Stmt.{Stmt}
use Rattle.stmt_text.specs.declared.stmt.Stmt.TheVariants.{Begin, Commit, Abort, On, LogOf, Graph, Segments, Checkpoint, Branch, Merge, Insert, Update, Delete, Get, Scan, Join, Minus}
use Rattle.stmt_text.specs.declared.stmt.ScanOver.{ScanOver}
use Rattle.branch_tx.specs.Keeping.{Keeping, over_table}
use Rattle.db_store.specs.Found.{Found, found, lack, branch_names}
use Rattle.branch_tx.specs.Found.{Source, Own, Other, Lacking, source_of}
use Rattle.branch_tx.specs.Act.{Tx, Outcome, refused, answered, get_from, get_of, scan_of, join_of, minus_of, act}
use Rattle.line_needs.specs.Columns.{relation_named}
use Rattle.version_log.specs.Log.{log_of}
use Rattle.branch_tx.specs.Merging.{merge_in}
use Rattle.branch_tx.specs.Alone.{ground_of, told_of, made_next, common_table, merge_named, place_in, on_of, branch_as, branch_of, overlaid}
use Rattle.line_needs.specs.Early.{is_early}
use Rattle.line_needs.specs.Needs.{catalogue, lock_of, found_needs, source_needs, names_needs, branch_needs, scan_needs, on_needs, log_needs, merge_needs, stmt_needs, needs, shared, exclusive}
use Rattle.branch_tx.specs.Frame.{Whole, and_then, is_changed, step_over, whole, apply_all, AllFit, Within, AllWithin, AllSpare, LockOf, FrameLaw}
use Rattle.branch_tx.proofs.Entries.{Frame, frame_entry, named_there}
use Rattle.branch_tx.proofs.EarlyLines.{early_why, early_refused, told_answer, told_refusal, scan_asks, join_asks, minus_asks}
use Rattle.branch_tx.proofs.LogsStay.{log_stays, graph_stays}
use Rattle.branch_tx.proofs.ReadsStay.{found_stays, named_stays, head_stays, ground_stays, next_stays, told_stays, from_stays}
use Rattle.branch_tx.proofs.AsksStay.{branch_within, names_same, scan_needs_same, scan_stays, join_stays, minus_stays}
use Rattle.branch_tx.proofs.LineKeeps.{changed_needed, within_any}

-- the transaction of lines run alone is the one with changes over the head
pub whole_overlaid : (d : Dataset) (b : ℕ) (xs : List Stmt) → (whole d b xs).tx ≡ overlaid d b xs
whole_overlaid d b [] = refl
whole_overlaid d b (x ∷ xs) = ap (λ (tx : Tx (List Overlay)). (step_over d b tx x).tx) (whole_overlaid d b xs)

module _ (N : ℕ → Type 0) (s t : Dataset) (f : Frame N s t) (sound : IsSound s) (ordered : IsOrdered s) (b : ℕ) (there : b < length s.branches) where
  -- ---- the reply to a line

  -- a line that needs the current branch
  act_stays : (tx : Tx (List Overlay)) (x : Stmt) (sources : VersionName → Source) (heads : List (List ℕ)) → N (lock_of b)
      → told_of t b tx.begun (act (over_table (head_of t b)) (ground_of t b) sources heads tx x) ≡ told_of s b tx.begun (act (over_table (head_of s b)) (ground_of s b) sources heads tx x)
  act_stays tx x sources heads h =
      let head = head_stays N s t f b there h in
      let ground = ground_stays N s t f b there h in
      (λ i. told_of t b tx.begun (act (over_table (head i)) (ground i) sources heads tx x))
      ∙ told_stays N s t f b tx.begun (act (over_table (head_of s b)) (ground_of s b) sources heads tx x) there h

  -- a look-up tells no version
  from_told : (d : Dataset) (k : Keeping (List Overlay)) (q : Bool) (tx : Tx (List Overlay)) (r key : ℕ) (x : Source) → told_of d b q (get_from k tx r key x) ≡ get_from k tx r key x
  from_told d k q tx r key Own = told_answer k d b q _ refl
  from_told d k q tx r key (Other table) = told_answer k d b q _ refl
  from_told d k q tx r key (Lacking why) = told_answer k d b q _ refl

  look_stays : (tx : Tx (List Overlay)) (name : List ℕ) (key : ℕ) (v : VersionName) (o : Option ℕ) → Within N (found_needs (found s v))
      → told_of t b tx.begun (get_of (over_table (head_of t b)) (λ u. source_of b (found t u)) tx name key (Some v) o)
      ≡ told_of s b tx.begun (get_of (over_table (head_of s b)) (λ u. source_of b (found s u)) tx name key (Some v) o)
  look_stays tx name key v None w = told_refusal (over_table (head_of t b)) t b tx.begun tx _ ∙ sym (told_refusal (over_table (head_of s b)) s b tx.begun tx _)
  look_stays tx name key v (Some r) w =
      from_told t (over_table (head_of t b)) tx.begun tx r key (source_of b (found t v))
      ∙ ap (λ (x : Found). get_from (over_table (head_of t b)) tx r key (source_of b x)) (found_stays N s t f v w)
      ∙ from_stays N s t f b r key tx (found s v) there w
      ∙ sym (from_told s (over_table (head_of s b)) tx.begun tx r key (source_of b (found s v)))

  get_stays : (tx : Tx (List Overlay)) (name : List ℕ) (key : ℕ) (at : Option VersionName) → Within N (source_needs s b at) → step_over t b tx (Get name key at) ≡ step_over s b tx (Get name key at)
  get_stays tx name key None w = act_stays tx (Get name key None) (λ u. source_of b (found s u)) (branch_names s) w.0
  get_stays tx name key (Some v) w =
      ap (λ (schema : List Relation). told_of t b tx.begun (get_of (over_table (head_of t b)) (λ u. source_of b (found t u)) tx name key (Some v) (relation_named schema name))) f.schema
      ∙ look_stays tx name key v (relation_named s.schema name) w

  -- questions to versions
  scan_line : (tx : Tx (List Overlay)) (name : List ℕ) (over : ScanOver) (terms : List Term) → Within N (scan_needs s b over) → step_over t b tx (Scan name over terms) ≡ step_over s b tx (Scan name over terms)
  scan_line tx name over terms w =
      told_answer (over_table (head_of t b)) t b tx.begun _ (scan_asks (over_table (head_of t b)) t.schema (λ u. source_of b (found t u)) (branch_names t) tx name over terms (relation_named t.schema name))
      ∙ ap (λ (schema : List Relation). scan_of (over_table (head_of t b)) schema (λ u. source_of b (found t u)) (branch_names t) tx name over terms (relation_named schema name)) f.schema
      ∙ scan_stays N s t f b there tx s.schema name over terms (relation_named s.schema name) w
      ∙ sym (told_answer (over_table (head_of s b)) s b tx.begun _ (scan_asks (over_table (head_of s b)) s.schema (λ u. source_of b (found s u)) (branch_names s) tx name over terms (relation_named s.schema name)))

  join_line : (tx : Tx (List Overlay)) (left right : List ℕ) (v u : VersionName) (terms : List Term) → Within N (names_needs s (v ∷ u ∷ [])) → step_over t b tx (Join left right v u terms) ≡ step_over s b tx (Join left right v u terms)
  join_line tx left right v u terms w =
      told_answer (over_table (head_of t b)) t b tx.begun _ (join_asks (over_table (head_of t b)) t.schema tx left right _ _ terms (relation_named t.schema left) (relation_named t.schema right))
      ∙ ap (λ (schema : List Relation). join_of (over_table (head_of t b)) schema tx left right (source_of b (found t v)) (source_of b (found t u)) terms (relation_named schema left) (relation_named schema right)) f.schema
      ∙ join_stays N s t f b there tx s.schema left right v u terms (relation_named s.schema left) (relation_named s.schema right) w
      ∙ sym (told_answer (over_table (head_of s b)) s b tx.begun _ (join_asks (over_table (head_of s b)) s.schema tx left right _ _ terms (relation_named s.schema left) (relation_named s.schema right)))

  minus_line : (tx : Tx (List Overlay)) (name : List ℕ) (v u : VersionName) → Within N (names_needs s (v ∷ u ∷ [])) → step_over t b tx (Minus name v u) ≡ step_over s b tx (Minus name v u)
  minus_line tx name v u w =
      told_answer (over_table (head_of t b)) t b tx.begun _ (minus_asks (over_table (head_of t b)) tx name _ _ (relation_named t.schema name))
      ∙ ap (λ (schema : List Relation). minus_of (over_table (head_of t b)) tx name (source_of b (found t v)) (source_of b (found t u)) (relation_named schema name)) f.schema
      ∙ minus_stays N s t f b there tx name v u (relation_named s.schema name) w
      ∙ sym (told_answer (over_table (head_of s b)) s b tx.begun _ (minus_asks (over_table (head_of s b)) tx name _ _ (relation_named s.schema name)))

  -- `commit` tells a version where something was changed
  commit_at : (tx : Tx (List Overlay)) (q : Bool) → is_changed tx ≡ q → (is_changed tx ≡ true → N (lock_of b)) → cond (is_changed tx) (made_next t b) Done ≡ cond (is_changed tx) (made_next s b) Done
  commit_at tx true e h = ap (λ (r : Reply). cond (is_changed tx) r Done) (next_stays N s t f b there (h e))
  commit_at tx false e h = ap (λ (q : Bool). cond q (made_next t b) Done) e ∙ sym (ap (λ (q : Bool). cond q (made_next s b) Done) e)

  on_stays : (tx : Tx (List Overlay)) (name : List ℕ) (o : Option ℕ) → branch_named s name ≡ o → Within N (on_needs o) → on_of tx name (branch_named t name) ≡ on_of tx name o
  on_stays tx name None e w = ap (on_of tx name) (f.unnamed w.0 name e)
  on_stays tx name (Some c) e w = ap (on_of tx name) (f.named name c e)

  log_same : (name : List ℕ) (o : Option ℕ) → branch_named s name ≡ o → Within N (log_needs o) → log_of t name (branch_named t name) ≡ log_of s name o
  log_same name None e w = ap (log_of t name) (f.unnamed w.0 name e)
  log_same name (Some c) e w = ap (log_of t name) (f.named name c e) ∙ log_stays N s t f sound name c (named_there s name c e) w.0

  branch_stays : (tx : Tx (List Overlay)) (name : List ℕ) (v : VersionName) → N catalogue → Within N (found_needs (found s v)) → branch_of t tx name (found t v) ≡ branch_of s tx name (found s v)
  branch_stays tx name v h w =
      let same = found_stays N s t f v w in
      let named = named_stays N s t f h name in
      let count = f.count h in
      λ i. branch_as tx name (place_in (same i)) (lack (same i)) (named i) (count i)

  -- a merge reads two heads, and their common ancestor, which stays
  place_stays : (c : ℕ) → c < length s.branches → N (lock_of c) → head_place t c ≡ head_place s c
  place_stays c l h = ap (λ (x : BranchOf). record { branch = c; position = length x.versions - 1 }) (f.locked c l h)

  head_made : (c : ℕ) → c < length s.branches → IsMade s (head_place s c)
  head_made c l = (l, let r = sound.rooted c l in omega (arith, r))

  common_stays : (c : ℕ) → c < length s.branches → N (lock_of b) → N (lock_of c) → common_table t b c ≡ common_table s b c
  common_stays c l h m =
      let own = place_stays b there h in
      let other = place_stays c l m in
      (λ i. table_at t (common t (own i) (other i)))
      ∙ ap (table_at t) (f.ancestor (head_place s b) (head_place s c) (head_made b there) (head_made c l))
      ∙ ap (λ (v : Version). v.table) (f.version (common s (head_place s b) (head_place s c)) (common_made s (head_place s b) (head_place s c) sound ordered (head_made b there) (head_made c l)))

  -- refusals tell no version
  unmade : (tx : Tx (List Overlay)) (c : Bool) (one other : Refusal) → told_of t b tx.begun (cond c (refused tx one) (refused tx other)) ≡ told_of s b tx.begun (cond c (refused tx one) (refused tx other))
  unmade tx true one other = told_refusal (over_table (head_of t b)) t b tx.begun tx one ∙ sym (told_refusal (over_table (head_of s b)) s b tx.begun tx one)
  unmade tx false one other = told_refusal (over_table (head_of t b)) t b tx.begun tx other ∙ sym (told_refusal (over_table (head_of s b)) s b tx.begun tx other)

  merge_stays : (tx : Tx (List Overlay)) (name : List ℕ) (prefer : Prefer) (o : Option ℕ) → branch_named s name ≡ o → Within N (merge_needs b o)
      → told_of t b tx.begun (cond (is_changed tx) (refused tx NotFirst) (merge_named (over_table (head_of t b)) t b tx name prefer (branch_named t name)))
      ≡ told_of s b tx.begun (cond (is_changed tx) (refused tx NotFirst) (merge_named (over_table (head_of s b)) s b tx name prefer o))
  merge_stays tx name prefer None e w =
      ap (λ (o : Option ℕ). told_of t b tx.begun (cond (is_changed tx) (refused tx NotFirst) (merge_named (over_table (head_of t b)) t b tx name prefer o))) (f.unnamed w.0 name e)
      ∙ unmade tx (is_changed tx) NotFirst (NoBranch name)
  merge_stays tx name prefer (Some c) e w =
      let l : c < length s.branches = named_there s name c e in
      let head = head_stays N s t f b there w.0 in
      let ground = ground_stays N s t f b there w.0 in
      let place = place_stays c l w.1.0 in
      let base = common_stays c l w.0 w.1.0 in
      let right = head_stays N s t f c l w.1.0 in
      ap (λ (o : Option ℕ). told_of t b tx.begun (cond (is_changed tx) (refused tx NotFirst) (merge_named (over_table (head_of t b)) t b tx name prefer o))) (f.named name c e)
      ∙ (λ i. told_of t b tx.begun (cond (is_changed tx) (refused tx NotFirst) (merge_in (over_table (head i)) (ground i) tx (place i) prefer (base i) (head i) (right i))))
      ∙ told_stays N s t f b tx.begun (cond (is_changed tx) (refused tx NotFirst) (merge_named (over_table (head_of s b)) s b tx name prefer (Some c))) there w.0

  late_stays : (tx : Tx (List Overlay)) (x : Stmt) → (is_changed tx ≡ true → N (lock_of b)) → Within N (stmt_needs s b x) → step_over t b tx x ≡ step_over s b tx x
  late_stays tx (Begin room) h w = refl
  late_stays tx Commit h w = ap (λ (r : Reply). cond tx.begun (answered tx r) (refused tx NoTransaction)) (commit_at tx (is_changed tx) refl h)
  late_stays tx Abort h w = refl
  late_stays tx (On name) h w = ap (λ (o : Outcome (List Overlay)). cond tx.begun (refused tx InTransaction) o) (on_stays tx name (branch_named s name) refl w)
  late_stays tx (LogOf name) h w = ap (answered tx) (log_same name (branch_named s name) refl w)
  late_stays tx Graph h w = ap (answered tx) (graph_stays N s t f sound w.0 (λ c l. branch_within N (length s.branches) c w.1 l))
  late_stays tx Segments h w = refl
  late_stays tx Checkpoint h w = refl
  late_stays tx (Merge name prefer) h w = merge_stays tx name prefer (branch_named s name) refl w
  late_stays tx (Branch name origin) h w = ap (λ (o : Outcome (List Overlay)). cond tx.begun (refused tx InTransaction) o) (branch_stays tx name origin w.0 w.1)
  late_stays tx (Insert name key fields) h w = act_stays tx (Insert name key fields) (λ u. source_of b (found s u)) (branch_names s) w.0
  late_stays tx (Update name key sets) h w = act_stays tx (Update name key sets) (λ u. source_of b (found s u)) (branch_names s) w.0
  late_stays tx (Delete name key) h w = act_stays tx (Delete name key) (λ u. source_of b (found s u)) (branch_names s) w.0
  late_stays tx (Get name key at) h w = get_stays tx name key at w
  late_stays tx (Scan name over terms) h w = scan_line tx name over terms w
  late_stays tx (Join left right v u terms) h w = join_line tx left right v u terms w
  late_stays tx (Minus name v u) h w = minus_line tx name v u w

  early_stays : (tx : Tx (List Overlay)) (x : Stmt) → is_early s.schema tx.begun (is_changed tx) x ≡ true → step_over t b tx x ≡ step_over s b tx x
  early_stays tx x e =
      early_refused (over_table (head_of t b)) t b tx x (ap (λ (schema : List Relation). is_early schema tx.begun (is_changed tx) x) f.schema ∙ e)
      ∙ ap (λ (schema : List Relation). refused tx (early_why schema tx.begun (is_changed tx) x)) f.schema
      ∙ sym (early_refused (over_table (head_of s b)) s b tx x e)

  step_at : (tx : Tx (List Overlay)) (x : Stmt) (q : Bool) → is_early s.schema tx.begun (is_changed tx) x ≡ q → (is_changed tx ≡ true → N (lock_of b)) → Within N (cond q [] (stmt_needs s b x)) → step_over t b tx x ≡ step_over s b tx x
  step_at tx x true e h w = early_stays tx x e
  step_at tx x false e h w = late_stays tx x h w

  -- ---- its needs

  source_same : (at : Option VersionName) → Within N (source_needs s b at) → source_needs t b at ≡ source_needs s b at
  source_same None w = refl
  source_same (Some v) w = ap found_needs (found_stays N s t f v w)

  on_same : (name : List ℕ) (o : Option ℕ) → branch_named s name ≡ o → Within N (on_needs o) → on_needs (branch_named t name) ≡ on_needs o
  on_same name None e w = ap on_needs (f.unnamed w.0 name e)
  on_same name (Some c) e w = ap on_needs (f.named name c e)

  log_needs_same : (name : List ℕ) (o : Option ℕ) → branch_named s name ≡ o → Within N (log_needs o) → log_needs (branch_named t name) ≡ log_needs o
  log_needs_same name None e w = ap log_needs (f.unnamed w.0 name e)
  log_needs_same name (Some c) e w = ap log_needs (f.named name c e)

  merge_needs_same : (name : List ℕ) (o : Option ℕ) → branch_named s name ≡ o → Within N (merge_needs b o) → merge_needs b (branch_named t name) ≡ merge_needs b o
  merge_needs_same name None e w = ap (merge_needs b) (f.unnamed w.0 name e)
  merge_needs_same name (Some c) e w = ap (merge_needs b) (f.named name c e)

  late_needs : (x : Stmt) → Within N (stmt_needs s b x) → stmt_needs t b x ≡ stmt_needs s b x
  late_needs (On name) w = on_same name (branch_named s name) refl w
  late_needs (LogOf name) w = log_needs_same name (branch_named s name) refl w
  late_needs Graph w = ap (λ n. shared catalogue ∷ branch_needs n) (f.count w.0)
  late_needs Segments w = ap (λ n. shared catalogue ∷ branch_needs n) (f.count w.0)
  late_needs (Merge name prefer) w = merge_needs_same name (branch_named s name) refl w
  late_needs (Branch name origin) w = ap (λ (x : Found). exclusive catalogue ∷ found_needs x) (found_stays N s t f origin w.1)
  late_needs (Get name key at) w = source_same at w
  late_needs (Scan name over terms) w = scan_needs_same N s t f b over w
  late_needs (Join left right v u terms) w = names_same N s t f (v ∷ u ∷ []) w
  late_needs (Minus name v u) w = names_same N s t f (v ∷ u ∷ []) w
  late_needs _ w = refl

  needs_at : (x : Stmt) (begun changed q : Bool) → is_early s.schema begun changed x ≡ q → Within N (cond q [] (stmt_needs s b x)) → cond q [] (stmt_needs t b x) ≡ cond q [] (stmt_needs s b x)
  needs_at x begun changed true e w = refl
  needs_at x begun changed false e w = late_needs x w

  needs_stay : (x : Stmt) (begun changed : Bool) → Within N (needs s b begun changed x) → needs t b begun changed x ≡ needs s b begun changed x
  needs_stay x begun changed w =
      ap (λ (schema : List Relation). cond (is_early schema begun changed x) [] (stmt_needs t b x)) f.schema
      ∙ needs_at x begun changed (is_early s.schema begun changed x) refl w

  -- ---- lines

  whole_stays : (xs : List Stmt) → AllWithin N (whole s b xs).needs → whole t b xs ≡ whole s b xs
  whole_stays [] w = refl
  whole_stays (x ∷ xs) w =
      let tx : Tx (List Overlay) = (whole s b xs).tx in
      let line = step_at tx x (is_early s.schema tx.begun (is_changed tx) x) refl (λ e. within_any N (whole s b xs).needs (exclusive (lock_of b)) w.1 (changed_needed s b xs e)) w.0 in
      let own = needs_stay x tx.begun (is_changed tx) w.0 in
      ap (λ (v : Whole). and_then v (step_over t b v.tx x) (needs t b v.tx.begun (is_changed v.tx) x)) (whole_stays xs w.1)
      ∙ (λ i. and_then (whole s b xs) (line i) (own i))

-- ---- entries

pub whole_kept : (N : ℕ → Type 0) (s : Dataset) (es : List Entry) → IsSound s → IsOrdered s → AllFit s es → AllSpare N es → (b : ℕ) (xs : List Stmt) → b < length s.branches → AllWithin N (whole s b xs).needs
    → whole (apply_all s es) b xs ≡ whole s b xs
whole_kept N s [] sound ordered fit free b xs l w = refl
whole_kept N s (e ∷ es) sound ordered fit free b xs l w =
    let f : Frame N s (apply s e) = frame_entry N s e sound ordered fit.0 free.0 in
    let one : whole (apply s e) b xs ≡ whole s b xs = whole_stays N s (apply s e) f sound ordered b l xs w in
    whole_kept N (apply s e) es (sound_stays s e sound fit.0) (ordered_stays s e sound ordered fit.0) fit.1 free.1 b xs (f.there b l) (subst (λ (v : Whole). AllWithin N v.needs) (sym one) w) ∙ one

pub frame_law : FrameLaw
frame_law s b lines locks es sound ordered fit l w free = whole_kept (LockOf locks) s es sound ordered fit free b lines l w
