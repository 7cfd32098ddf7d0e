-- What stands of a transaction stands after a line, if it does after each thing that a line may do.
use Rattle.std.proofs.Common.{◌≡◌, ℕ, ◌<◌, nat_lt, Bool, true, false, cond, List, [], ◌∷◌, length, map, Option, Some, None, Result, Ok, Err, refl, ap, ◌∙◌}
use Rattle.db_value.specs.Value.{Value}
use Rattle.db_value.specs.Relations.{columns_at, widths_at}
use Rattle.db_value.specs.Widths.{meets}
use Rattle.db_value.specs.Condition.{holds}
use Rattle.db_value.specs.declared.record.Record.{Record}
use Rattle.db_value.specs.declared.schema.Relation.{Relation}
use Rattle.db_value.specs.declared.condition.Set.{Set}
use Rattle.db_value.specs.declared.condition.Term.{Term}
use Rattle.db_value.specs.declared.condition.Prefer.{Prefer}
use Rattle.db_value.specs.declared.entry.Change.{Change}
use Rattle.db_value.specs.declared.version.VersionName.{VersionName}
use Rattle.db_value.specs.declared.version.VersionPlace.{VersionPlace}
use Rattle.db_value.specs.declared.reply.Refusal.{Refusal}
use Rattle.db_store.specs.Dataset.{Dataset, branch_named, head_of, head_place}
use Rattle.db_store.specs.Fits.{most_branches}
use Rattle.db_store.specs.RowWidths.{all_widths}
use Rattle.field_merge.specs.Merge.{table_changes}
use Rattle.stmt_text.specs.declared.stmt.Stmt.{Stmt}
use Rattle.stmt_text.specs.declared.stmt.Stmt.TheVariants.{Begin, Commit, Abort, On, LogOf, Graph, Segments, Checkpoint, Branch, Merge, Insert, Update, Delete, Get, Scan, Join, Minus}
use Rattle.stmt_text.specs.declared.stmt.NamedSet.{NamedSet}
use Rattle.stmt_text.specs.declared.stmt.ScanOver.{ScanOver}
use Rattle.stmt_text.specs.declared.stmt.ScanOver.TheVariants.{Current, Named, Heads}
use Rattle.branch_tx.specs.Keeping.{Keeping}
use Rattle.db_store.specs.Found.{Found, found, lack, branch_names, plain}
use Rattle.branch_tx.specs.Found.{Source, Own, Other, Lacking, source_of, first_lacking}
use Rattle.branch_tx.specs.Act.{Tx, Outcome, Ground, body_refusal, updated, insert_refusal, change_refusal, unless, unless_full, fields_at, has_space, has_room, is_body, taken_to, changed_to, insert_of, update_in, update_of, delete_of, get_from, source_at, get_of, scan_versions, scan_over, scan_of, join_with, join_of, minus_of, act}
use Rattle.line_needs.specs.Columns.{relation_named, resolved}
use Rattle.line_needs.specs.Misfits.{sets_misfit}
use Rattle.line_needs.specs.Early.{row_refusal, terms_refusal}
use Rattle.branch_tx.specs.Merging.{refusal_of_merge, put_all, merged_to}
use Rattle.branch_tx.specs.Alone.{ground_of, common_table, place_in, room_of, on_of, branch_as, has_changed, merge_named, step}
use Rattle.branch_tx.proofs.Private.{State}
use Rattle.branch_tx.proofs.Images.{named_within}
use Rattle.line_needs.specs.Known.{of_named, refused_or}
use Rattle.line_needs.specs.declared.known.Known.TheVariants.{Of}
use Rattle.line_needs.proofs.Knowing.{known_insert}
use Rattle.line_needs.proofs.SetLemmas.{AreFitting, resolved_fitting}
use Rattle.branch_tx.proofs.WithSets.{meets_sets}

-- What may be set where a key has a state: a new record meets the widths of the columns, and there is space for it; another one meets them if the one before does.
abbrev pub MayBe : List ℕ → Bool → State → State → Type 0
MayBe ws space None None = ⊥
MayBe ws space None (Some fields) = (space ≡ true) × (meets ws fields ≡ true)
MayBe ws space (Some old) None = Unit {0}
MayBe ws space (Some old) (Some fields) = meets ws old ≡ true → meets ws fields ≡ true

-- a change that a transaction accepts
pub record IsChange {W : Type 0} (k : Keeping W) (g : Ground) (tx : Tx W) (r key : ℕ) (st : State) : Type 0 where
  pub within : r < length g.schema
  pub open_branch : g.full ≡ false
  pub room : has_room k tx r key ≡ true
  pub state : MayBe (widths_at g.schema r) (has_space k tx r) (fields_at k tx r key) st
  pub body : is_body k g.schema tx.second (k.put tx.work r key st) ≡ true

-- a branch that can be made
pub record IsBranch (d : Dataset) (name : List ℕ) (f : Found) : Type 0 where
  pub origin : lack f ≡ None
  pub new : branch_named d name ≡ None
  pub room : nat_lt (length d.branches) most_branches ≡ true

-- the changes of a merge of the head of branch c into branch b
abbrev pub merge_changes : Dataset → ℕ → Prefer → ℕ → List Change
merge_changes d b prefer c = table_changes (all_widths d.schema) prefer (common_table d b c) (head_of d b) (head_of d c)

-- why it is refused
abbrev pub why_unmerged : Dataset → ℕ → ℕ → Prefer → ℕ → Option Refusal
why_unmerged d b room prefer c = refusal_of_merge d.schema room prefer (common_table d b c) (head_of d b) (head_of d c)

-- a merge that a transaction accepts
pub record IsMerge {W : Type 0} (k : Keeping W) (d : Dataset) (b : ℕ) (tx : Tx W) (prefer : Prefer) (c : ℕ) : Type 0 where
  pub first : has_changed k tx ≡ false
  pub open_branch : (ground_of d b).full ≡ false
  pub accepted : why_unmerged d b tx.room prefer c ≡ None
  pub body : is_body k d.schema (Some (head_place d c)) (put_all k tx.work (merge_changes d b prefer c)) ≡ true

-- a transaction after it
abbrev pub merged_with : {W : Type 0} → Keeping W → Dataset → ℕ → Tx W → Prefer → ℕ → Tx W
merged_with k d b tx prefer c = record tx { work = put_all k tx.work (merge_changes d b prefer c); second = Some (head_place d c) }

-- an entry that isn't refused isn't too large
pub body_small : (q : Bool) → body_refusal q ≡ None → q ≡ true
body_small true e = refl
body_small false e = absurd cc

-- a row that isn't refused meets the widths of its relation
row_meets : (schema : List Relation) (name : List ℕ) (key : ℕ) (fields : List Value) (r : ℕ) → relation_named schema name ≡ Some r → row_refusal schema name fields (Some r) ≡ None → meets (widths_at schema r) fields ≡ true
row_meets schema name key fields r e n =
    (known_insert schema true false name key fields r (ap (λ (o : Option ℕ). refused_or (row_refusal schema name fields o) (of_named o)) e ∙ ap (λ (q : Option Refusal). refused_or q (Of r)) n)).1

module _ {W : Type 0} (k : Keeping W) (P : Tx W → Type 0) where
  pub cond_keeps : (q : Bool) (x y : Outcome W) → P x.tx → P y.tx → P (cond q x y).tx
  cond_keeps true x y h f = h
  cond_keeps false x y h f = f

  cond_by : (q : Bool) (x y : Outcome W) → (q ≡ true → P x.tx) → (q ≡ false → P y.tx) → P (cond q x y).tx
  cond_by true x y h f = h refl
  cond_by false x y h f = f refl

  unless_by : (tx : Tx W) (o : Option Refusal) (x : Outcome W) → P tx → (o ≡ None → P x.tx) → P (unless tx o x).tx
  unless_by tx None x h f = f refl
  unless_by tx (Some why) x h f = h

  asked_keeps : (tx : Tx W) (o : Option Refusal) (x : Outcome W) → P tx → P x.tx → P (unless tx o x).tx
  asked_keeps tx None x h f = f
  asked_keeps tx (Some why) x h f = h

  taken_keeps : (schema : List Relation) (tx : Tx W) (second : Option VersionPlace) (work : W) → P tx → (is_body k schema second work ≡ true → P (record tx { work = work; second = second })) → P (taken_to k schema tx second work).tx
  taken_keeps schema tx second work h f = unless_by tx (body_refusal (is_body k schema second work)) _ h (λ e. f (body_small (is_body k schema second work) e))

  changed_keeps : (schema : List Relation) (tx : Tx W) (r key : ℕ) (st : State) (o : Option Refusal) → P tx → (o ≡ None → is_body k schema tx.second (k.put tx.work r key st) ≡ true → P (record tx { work = k.put tx.work r key st })) → P (changed_to k schema tx r key st o).tx
  changed_keeps schema tx r key st (Some why) h f = h
  changed_keeps schema tx r key st None h f = taken_keeps schema tx tx.second (k.put tx.work r key st) h (f refl)

  -- what an accepted change keeps
  abbrev Changes : Ground → Tx W → Type 0
  Changes g tx = (r key : ℕ) (st : State) → IsChange k g tx r key st → P (record tx { work = k.put tx.work r key st })

  insert_accepted : (ws : List ℕ) (room : ℕ) (name : List ℕ) (key : ℕ) (old : State) (space free : Bool) (fields : List Value) → meets ws fields ≡ true → insert_refusal name key room old space free ≡ None → (free ≡ true) × MayBe ws space old (Some fields)
  insert_accepted ws room name key (Some old) space free fields n e = absurd cc
  insert_accepted ws room name key None false free fields n e = absurd cc
  insert_accepted ws room name key None true false fields n e = absurd cc
  insert_accepted ws room name key None true true fields n e = (refl, (refl, n))

  change_accepted : (ws : List ℕ) (room : ℕ) (name : List ℕ) (key : ℕ) (old st : State) (space free : Bool) → ((fields : List Value) → old ≡ Some fields → MayBe ws space (Some fields) st) → change_refusal name key room old free ≡ None → (free ≡ true) × MayBe ws space old st
  change_accepted ws room name key None st space free f e = absurd cc
  change_accepted ws room name key (Some old) st space false f e = absurd cc
  change_accepted ws room name key (Some old) st space true f e = (refl, f old refl)

  insert_keeps : (g : Ground) (tx : Tx W) (name : List ℕ) (key : ℕ) (fields : List Value) (o : Option ℕ) → relation_named g.schema name ≡ o → P tx → Changes g tx → P (insert_of k g tx name key fields o).tx
  insert_keeps g tx name key fields None e h f = h
  insert_keeps g tx name key fields (Some r) e h f = unless_by tx (row_refusal g.schema name fields (Some r)) _ h (λ n. cond_by g.full _ _ (λ q. h) (λ q. changed_keeps g.schema tx r key (Some fields) _ h (λ a s.
      let both = insert_accepted (widths_at g.schema r) tx.room name key (fields_at k tx r key) (has_space k tx r) (has_room k tx r key) fields (row_meets g.schema name key fields r e n) a in
      f r key (Some fields) (record { within = named_within g.schema name r e; open_branch = q; room = both.0; state = both.1; body = s }))))

  change_keeps : (g : Ground) (tx : Tx W) (r : ℕ) (name : List ℕ) (key : ℕ) (st : State) → r < length g.schema → P tx → Changes g tx
      → ((fields : List Value) → fields_at k tx r key ≡ Some fields → MayBe (widths_at g.schema r) (has_space k tx r) (Some fields) st)
      → P (unless_full g tx (changed_to k g.schema tx r key st (change_refusal name key tx.room (fields_at k tx r key) (has_room k tx r key)))).tx
  change_keeps g tx r name key st l h f s = cond_by g.full _ _ (λ q. h) (λ q. changed_keeps g.schema tx r key st _ h (λ a m.
      let both = change_accepted (widths_at g.schema r) tx.room name key (fields_at k tx r key) st (has_space k tx r) (has_room k tx r key) s a in
      f r key st (record { within = l; open_branch = q; room = both.0; state = both.1; body = m })))

  updated_may : (ws : List ℕ) (space : Bool) (sets : List Set) (o : State) → AreFitting ws sets → (fields : List Value) → o ≡ Some fields → MayBe ws space (Some fields) (updated sets o)
  updated_may ws space sets None n fields e = absurd cc
  updated_may ws space sets (Some old) n fields e = λ h. let same : old ≡ fields = cc in meets_sets ws old sets n (ap (meets ws) same ∙ h)

  update_keeps : (g : Ground) (tx : Tx W) (r : ℕ) (name : List ℕ) (key : ℕ) (sets : Result (List Set) (List ℕ)) (misfit : Option Refusal) → r < length g.schema → ((ss : List Set) → sets ≡ Ok ss → misfit ≡ None → AreFitting (widths_at g.schema r) ss) → P tx → Changes g tx → P (update_in k g tx r name key sets misfit).tx
  update_keeps g tx r name key (Err column) misfit l n h f = h
  update_keeps g tx r name key (Ok sets) misfit l n h f = unless_by tx misfit _ h (λ e. change_keeps g tx r name key (updated sets (fields_at k tx r key)) l h f (updated_may (widths_at g.schema r) (has_space k tx r) sets (fields_at k tx r key) (n sets refl e)))

  update_of_keeps : (g : Ground) (tx : Tx W) (name : List ℕ) (key : ℕ) (sets : List NamedSet) (o : Option ℕ) → relation_named g.schema name ≡ o → P tx → Changes g tx → P (update_of k g tx name key sets o).tx
  update_of_keeps g tx name key sets None e h f = h
  update_of_keeps g tx name key sets (Some r) e h f = update_keeps g tx r name key (resolved (columns_at g.schema r) sets) (sets_misfit (widths_at g.schema r) (columns_at g.schema r) sets) (named_within g.schema name r e) (resolved_fitting (widths_at g.schema r) (columns_at g.schema r) sets) h f

  delete_keeps : (g : Ground) (tx : Tx W) (name : List ℕ) (key : ℕ) (o : Option ℕ) → relation_named g.schema name ≡ o → P tx → Changes g tx → P (delete_of k g tx name key o).tx
  delete_keeps g tx name key None e h f = h
  delete_keeps g tx name key (Some r) e h f = change_keeps g tx r name key None (named_within g.schema name r e) h f (λ fields q. tt)

  from_keeps : (tx : Tx W) (r key : ℕ) (s : Source) → P tx → P (get_from k tx r key s).tx
  from_keeps tx r key Own h = h
  from_keeps tx r key (Other table) h = h
  from_keeps tx r key (Lacking why) h = h

  pub get_keeps : (sources : VersionName → Source) (tx : Tx W) (name : List ℕ) (key : ℕ) (at : Option VersionName) (o : Option ℕ) → P tx → P (get_of k sources tx name key at o).tx
  get_keeps sources tx name key at None h = h
  get_keeps sources tx name key at (Some r) h = from_keeps tx r key (source_at k sources at) h

  versions_keeps : (sources : VersionName → Source) (tx : Tx W) (r : ℕ) (p : Record → Bool) (names : List VersionName) → P tx → P (scan_versions k sources tx r p names).tx
  versions_keeps sources tx r p names h = asked_keeps tx (first_lacking (map sources names)) _ h h

  over_keeps : (sources : VersionName → Source) (heads : List (List ℕ)) (tx : Tx W) (r : ℕ) (p : Record → Bool) (over : ScanOver) → P tx → P (scan_over k sources heads tx r p over).tx
  over_keeps sources heads tx r p Current h = h
  over_keeps sources heads tx r p (Named names) h = versions_keeps sources tx r p names h
  over_keeps sources heads tx r p Heads h = versions_keeps sources tx r p (map plain heads) h

  pub scan_keeps : (schema : List Relation) (sources : VersionName → Source) (heads : List (List ℕ)) (tx : Tx W) (name : List ℕ) (over : ScanOver) (terms : List Term) (o : Option ℕ) → P tx → P (scan_of k schema sources heads tx name over terms o).tx
  scan_keeps schema sources heads tx name over terms None h = h
  scan_keeps schema sources heads tx name over terms (Some r) h =
      asked_keeps tx (terms_refusal schema r terms) _ h (over_keeps sources heads tx r (holds (columns_at schema r) terms) over h)

  join_with_keeps : (schema : List Relation) (tx : Tx W) (r : ℕ) (name : List ℕ) (left right : Source) (terms : List Term) (o : Option ℕ) → P tx → P (join_with k schema tx r name left right terms o).tx
  join_with_keeps schema tx r name left right terms None h = h
  join_with_keeps schema tx r name left right terms (Some s) h =
      asked_keeps tx (terms_refusal schema r terms) _ h (asked_keeps tx (first_lacking (left ∷ right ∷ [])) _ h h)

  pub join_keeps : (schema : List Relation) (tx : Tx W) (name other : List ℕ) (left right : Source) (terms : List Term) (o q : Option ℕ) → P tx → P (join_of k schema tx name other left right terms o q).tx
  join_keeps schema tx name other left right terms None q h = h
  join_keeps schema tx name other left right terms (Some r) q h = join_with_keeps schema tx r other left right terms q h

  pub minus_keeps : (tx : Tx W) (name : List ℕ) (left right : Source) (o : Option ℕ) → P tx → P (minus_of k tx name left right o).tx
  minus_keeps tx name left right None h = h
  minus_keeps tx name left right (Some r) h = asked_keeps tx (first_lacking (left ∷ right ∷ [])) _ h h

  pub act_keeps : (g : Ground) (sources : VersionName → Source) (heads : List (List ℕ)) (tx : Tx W) (x : Stmt) → P tx → Changes g tx → P (act k g sources heads tx x).tx
  act_keeps g sources heads tx (Insert name key fields) h f = insert_keeps g tx name key fields (relation_named g.schema name) refl h f
  act_keeps g sources heads tx (Update name key sets) h f = update_of_keeps g tx name key sets (relation_named g.schema name) refl h f
  act_keeps g sources heads tx (Delete name key) h f = delete_keeps g tx name key (relation_named g.schema name) refl h f
  act_keeps g sources heads tx (Get name key at) h f = get_keeps sources tx name key at (relation_named g.schema name) h
  act_keeps g sources heads tx (Scan name over terms) h f = scan_keeps g.schema sources heads tx name over terms (relation_named g.schema name) h
  act_keeps g sources heads tx (Join left right v w terms) h f = join_keeps g.schema tx left right (sources v) (sources w) terms (relation_named g.schema left) (relation_named g.schema right) h
  act_keeps g sources heads tx (Minus name v w) h f = minus_keeps tx name (sources v) (sources w) (relation_named g.schema name) h
  act_keeps g sources heads tx _ h f = h

  pub on_keeps : (tx : Tx W) (name : List ℕ) (o : Option ℕ) → P tx → ((i : ℕ) → o ≡ Some i → P (record tx { moved = Some i })) → P (on_of tx name o).tx
  on_keeps tx name None h f = h
  on_keeps tx name (Some i) h f = f i refl

  pub branch_keeps : (tx : Tx W) (name : List ℕ) (at : VersionPlace) (o : Option Refusal) (there : Option ℕ) (count : ℕ) → P tx → (o ≡ None → there ≡ None → nat_lt count most_branches ≡ true → P (record tx { made = Some (name, at) })) → P (branch_as tx name at o there count).tx
  branch_keeps tx name at (Some why) there count h f = h
  branch_keeps tx name at None (Some old) count h f = h
  branch_keeps tx name at None None count h f = cond_by (nat_lt count most_branches) _ _ (f refl refl) (λ q. h)

  merged_keeps : (schema : List Relation) (tx : Tx W) (from : VersionPlace) (cs : List Change) (o : Option Refusal) → P tx → (o ≡ None → is_body k schema (Some from) (put_all k tx.work cs) ≡ true → P (record tx { work = put_all k tx.work cs; second = Some from })) → P (merged_to k schema tx from cs o).tx
  merged_keeps schema tx from cs (Some why) h f = h
  merged_keeps schema tx from cs None h f = taken_keeps schema tx (Some from) (put_all k tx.work cs) h (f refl)

  pub merge_keeps : (d : Dataset) (b : ℕ) (tx : Tx W) (name : List ℕ) (prefer : Prefer) (o : Option ℕ) → P tx
      → ((c : ℕ) → o ≡ Some c → (ground_of d b).full ≡ false → why_unmerged d b tx.room prefer c ≡ None → is_body k d.schema (Some (head_place d c)) (put_all k tx.work (merge_changes d b prefer c)) ≡ true → P (merged_with k d b tx prefer c)) → P (merge_named k d b tx name prefer o).tx
  merge_keeps d b tx name prefer None h f = h
  merge_keeps d b tx name prefer (Some c) h f = cond_by (ground_of d b).full _ _ (λ q. h) (λ q. merged_keeps d.schema tx (head_place d c) (merge_changes d b prefer c) (why_unmerged d b tx.room prefer c) h (λ a s. f c refl q a s))

  -- what stands of a transaction stands after a line
  pub step_keeps : (d : Dataset) (b : ℕ) (tx : Tx W) (x : Stmt) → P tx
      → ((room : Option ℕ) → x ≡ Begin room → P (record tx { begun = true; room = room_of room }))
      → ((r key : ℕ) (st : State) → IsChange k (ground_of d b) tx r key st → P (record tx { work = k.put tx.work r key st }))
      → ((name : List ℕ) (origin : VersionName) → IsBranch d name (found d origin) → P (record tx { made = Some (name, place_in (found d origin)) }))
      → ((name : List ℕ) (i : ℕ) → branch_named d name ≡ Some i → P (record tx { moved = Some i }))
      → ((name : List ℕ) (prefer : Prefer) (c : ℕ) → branch_named d name ≡ Some c → IsMerge k d b tx prefer c → P (merged_with k d b tx prefer c))
      → P (step k d b tx x).tx
  step_keeps d b tx (Begin room) h begin change new move merge = cond_keeps tx.begun _ _ h (begin room refl)
  step_keeps d b tx Commit h begin change new move merge = cond_keeps tx.begun _ _ h h
  step_keeps d b tx Abort h begin change new move merge = cond_keeps tx.begun _ _ h h
  step_keeps d b tx (On name) h begin change new move merge = cond_keeps tx.begun _ _ h (on_keeps tx name (branch_named d name) h (move name))
  step_keeps d b tx (LogOf name) h begin change new move merge = h
  step_keeps d b tx Graph h begin change new move merge = h
  step_keeps d b tx Segments h begin change new move merge = h
  step_keeps d b tx Checkpoint h begin change new move merge = cond_keeps tx.begun _ _ h h
  step_keeps d b tx (Merge name prefer) h begin change new move merge = cond_by (has_changed k tx) _ _ (λ q. h)
      (λ q. merge_keeps d b tx name prefer (branch_named d name) h (λ c e l a s. merge name prefer c e (record { first = q; open_branch = l; accepted = a; body = s })))
  step_keeps d b tx (Branch name origin) h begin change new move merge = cond_keeps tx.begun _ _ h
      (branch_keeps tx name (place_in (found d origin)) (lack (found d origin)) (branch_named d name) (length d.branches) h (λ a c e. new name origin (record { origin = a; new = c; room = e })))
  step_keeps d b tx x h begin change new move merge = act_keeps (ground_of d b) (λ v. source_of b (found d v)) (branch_names d) tx x h change
