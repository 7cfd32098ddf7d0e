-- A line does the same to a private table as to the changes that make it.
use Rattle.std.proofs.Common.{◌≡◌, ℕ, ◌<◌, ◌≤◌, nat_lt, nat_le, Bool, true, false, cond, ◌||◌, is_some, List, [], ◌∷◌, length, map, Option, Some, None, Result, Ok, Err, refl, ap, ◌∙◌, subst, arith}
use Rattle.std.specs.List.{filter, list_all}
use Rattle.std.specs.FinMap as finite
use Rattle.std.proofs.lemmas.Bool.{and_parts, ltb-true}
use Rattle.std.proofs.lemmas.List.{length-set}
use Rattle.std.proofs.lemmas.List.Quantifiers.{position-Some}
use Rattle.db_value.specs.Value.{Value}
use Rattle.db_value.specs.Relations.{columns_at, widths_at, no_relation}
use Rattle.db_value.specs.Schema.{most_relations}
use Rattle.db_value.specs.Condition.{holds}
use Rattle.db_value.specs.declared.record.Record.{Record}
use Rattle.db_value.specs.declared.schema.Relation.{Relation}
use Rattle.db_value.specs.declared.condition.Set.{Set}
use Rattle.db_value.specs.declared.condition.Term.{Term}
use Rattle.db_value.specs.declared.condition.Prefer.{Prefer}
use Rattle.db_value.specs.declared.entry.Change.{Change}
use Rattle.db_value.specs.declared.version.VersionName.{VersionName}
use Rattle.db_value.specs.declared.version.VersionPlace.{VersionPlace}
use Rattle.db_value.specs.declared.reply.Reply.TheVariants.{Done, Listed, Paired}
use Rattle.db_value.specs.declared.reply.Refusal.{Refusal}
use Rattle.db_value.specs.declared.reply.Refusal.TheVariants.{NotFirst}
use Rattle.db_store.specs.Table.{Table, rows_of}
use Rattle.db_store.specs.Overlay.{Overlay, overlay_at, touch}
use Rattle.db_store.specs.Dataset.{Dataset, branch_named, head_of, head_place}
use Rattle.db_store.specs.Fits.{most_branches}
use Rattle.db_store.specs.Body.{commit_size, most_entry}
use Rattle.db_store.specs.RowWidths.{all_widths}
use Rattle.field_merge.specs.Merge.{table_changes}
use Rattle.field_merge.proofs.OrderLemmas.{merged_within}
use Rattle.stmt_text.specs.declared.stmt.Stmt.{Stmt}
use Rattle.stmt_text.specs.declared.stmt.Stmt.TheVariants.{Begin, Commit, Abort, On, LogOf, Graph, Segments, Checkpoint, Branch, Merge, Insert, Update, Delete, Get, Scan, Join, Minus}
use Rattle.stmt_text.specs.declared.stmt.NamedSet.{NamedSet}
use Rattle.stmt_text.specs.declared.stmt.ScanOver.{ScanOver}
use Rattle.stmt_text.specs.declared.stmt.ScanOver.TheVariants.{Current, Named, Heads}
use Rattle.branch_tx.specs.Keeping.{Private, privately, over_table}
use Rattle.db_store.specs.Found.{found, lack, branch_names, plain}
use Rattle.branch_tx.specs.Found.{Source, Own, Other, Lacking, source_of, first_lacking}
use Rattle.branch_tx.specs.Act.{Tx, Outcome, Ground, body_refusal, updated, insert_refusal, change_refusal, refused, answered, unless, unless_full, fields_at, has_space, has_room, is_body, taken_to, changed_to, insert_in, insert_of, update_in, update_of, delete_of, get_from, source_at, get_of, marked, union_marked, pairs_of, unlike, contents_from, rows_from, scan_versions, scan_over, scan_of, join_in, join_with, join_of, minus_of, act}
use Rattle.line_needs.specs.Columns.{relation_named, resolved}
use Rattle.line_needs.specs.Misfits.{sets_misfit}
use Rattle.line_needs.specs.Early.{row_refusal, terms_refusal}
use Rattle.branch_tx.specs.Merging.{refusal_of_merge, put_all, merged_to}
use Rattle.branch_tx.specs.Alone.{ground_of, told_of, common_table, place_in, has_changed, on_of, branch_as, merge_named, step, made_next}
use Rattle.branch_tx.specs.Laws.{private_of, as_private}
use Rattle.branch_tx.proofs.Private.{State, touched_same, touches_same, put_same, changes_same, IsWork, work_touched, work_all}

-- the outcome on the private table
abbrev pub image : Table → Outcome (List Overlay) → Outcome Private
image t o = record { tx = as_private t o.tx; reply = o.reply }

-- the work has an overlay for each relation that there can be, and touches no key of a relation that the table lacks
pub record IsWide (t : Table) (tx : Tx (List Overlay)) : Type 0 where
  pub table : length t ≤ most_relations
  pub work : IsWork t tx.work

cond_image : (t : Table) (q : Bool) (x y : Outcome (List Overlay)) → cond q (image t x) (image t y) ≡ image t (cond q x y)
cond_image t true x y = refl
cond_image t false x y = refl

cond_same : (t : Table) (q : Bool) (a b : Outcome Private) (x y : Outcome (List Overlay)) → a ≡ image t x → b ≡ image t y → cond q a b ≡ image t (cond q x y)
cond_same t true a b x y e f = e
cond_same t false a b x y e f = f

room_same : (t : Table) (tx : Tx (List Overlay)) (r key : ℕ) → has_room privately (as_private t tx) r key ≡ has_room (over_table t) tx r key
room_same t tx r key = λ i. touched_same t tx.work r key i || nat_lt (touches_same tx.work i) tx.room

asked_same : (t : Table) (tx : Tx (List Overlay)) (o : Option Refusal) (a : Outcome Private) (x : Outcome (List Overlay)) → a ≡ image t x → unless (as_private t tx) o a ≡ image t (unless tx o x)
asked_same t tx None a x e = e
asked_same t tx (Some why) a x e = refl

-- both make an entry of one size
body_same : (t : Table) (schema : List Relation) (second : Option VersionPlace) (os : List Overlay) → IsWork t os → is_body privately schema second (private_of t os) ≡ is_body (over_table t) schema second os
body_same t schema second os w = ap (λ (cs : List Change). nat_le (commit_size second cs) most_entry) (changes_same (all_widths schema) t os w.inside)

taken_same : (t : Table) (schema : List Relation) (tx : Tx (List Overlay)) (second : Option VersionPlace) (os : List Overlay) → IsWork t os → taken_to privately schema (as_private t tx) second (private_of t os) ≡ image t (taken_to (over_table t) schema tx second os)
taken_same t schema tx second os w =
    ap (λ (q : Bool). unless (as_private t tx) (body_refusal q) (answered (record (as_private t tx) { work = private_of t os; second = second }) Done)) (body_same t schema second os w)
    ∙ asked_same t tx (body_refusal (is_body (over_table t) schema second os)) _ _ refl

changed_same : (t : Table) (schema : List Relation) (tx : Tx (List Overlay)) (r key : ℕ) (st : State) (o : Option Refusal) → IsWide t tx → r < length t → changed_to privately schema (as_private t tx) r key st o ≡ image t (changed_to (over_table t) schema tx r key st o)
changed_same t schema tx r key st (Some why) w h = refl
changed_same t schema tx r key st None w h =
    let wide : r < length tx.work = (let a = w.table in let b = w.work.wide in omega (arith, a, b, h)) in
    ap (taken_to privately schema (as_private t tx) tx.second) (put_same t tx.work r key st h wide)
    ∙ taken_same t schema tx tx.second (touch tx.work r key st) (work_touched t tx.work r key st h w.work)

unless_same : (t : Table) (g : Ground) (tx : Tx (List Overlay)) (a : Outcome Private) (x : Outcome (List Overlay)) → a ≡ image t x → unless_full g (as_private t tx) a ≡ image t (unless_full g tx x)
unless_same t g tx a x e = cond_same t g.full _ _ _ _ refl e

insert_in_same : (t : Table) (g : Ground) (tx : Tx (List Overlay)) (r : ℕ) (name : List ℕ) (key : ℕ) (fields : List Value) → IsWide t tx → r < length t → insert_in privately g (as_private t tx) r name key fields ≡ image t (insert_in (over_table t) g tx r name key fields)
insert_in_same t g tx r name key fields w h = unless_same t g tx _ _
    (ap (λ q. changed_to privately g.schema (as_private t tx) r key (Some fields) (insert_refusal name key tx.room (fields_at (over_table t) tx r key) (has_space (over_table t) tx r) q)) (room_same t tx r key)
    ∙ changed_same t g.schema tx r key (Some fields) (insert_refusal name key tx.room (fields_at (over_table t) tx r key) (has_space (over_table t) tx r) (has_room (over_table t) tx r key)) w h)

-- a statement whose relation, where it is there, is one of the table
abbrev InTable : Table → Option ℕ → Type 0
InTable t o = (r : ℕ) → o ≡ Some r → r < length t

insert_same : (t : Table) (g : Ground) (tx : Tx (List Overlay)) (name : List ℕ) (key : ℕ) (fields : List Value) (o : Option ℕ) → IsWide t tx → InTable t o → insert_of privately g (as_private t tx) name key fields o ≡ image t (insert_of (over_table t) g tx name key fields o)
insert_same t g tx name key fields None w h = refl
insert_same t g tx name key fields (Some r) w h = asked_same t tx (row_refusal g.schema name fields (Some r)) _ _ (insert_in_same t g tx r name key fields w (h r refl))

change_same : (t : Table) (g : Ground) (tx : Tx (List Overlay)) (r : ℕ) (name : List ℕ) (key : ℕ) (st : State) → IsWide t tx → r < length t
    → unless_full g (as_private t tx) (changed_to privately g.schema (as_private t tx) r key st (change_refusal name key tx.room (fields_at (over_table t) tx r key) (has_room privately (as_private t tx) r key)))
    ≡ image t (unless_full g tx (changed_to (over_table t) g.schema tx r key st (change_refusal name key tx.room (fields_at (over_table t) tx r key) (has_room (over_table t) tx r key))))
change_same t g tx r name key st w h = unless_same t g tx _ _
    (ap (λ q. changed_to privately g.schema (as_private t tx) r key st (change_refusal name key tx.room (fields_at (over_table t) tx r key) q)) (room_same t tx r key)
    ∙ changed_same t g.schema tx r key st (change_refusal name key tx.room (fields_at (over_table t) tx r key) (has_room (over_table t) tx r key)) w h)

update_in_same : (t : Table) (g : Ground) (tx : Tx (List Overlay)) (r : ℕ) (name : List ℕ) (key : ℕ) (sets : Result (List Set) (List ℕ)) (misfit : Option Refusal) → IsWide t tx → r < length t → update_in privately g (as_private t tx) r name key sets misfit ≡ image t (update_in (over_table t) g tx r name key sets misfit)
update_in_same t g tx r name key (Err column) misfit w h = refl
update_in_same t g tx r name key (Ok sets) misfit w h = asked_same t tx misfit _ _ (change_same t g tx r name key (updated sets (fields_at (over_table t) tx r key)) w h)

update_same : (t : Table) (g : Ground) (tx : Tx (List Overlay)) (name : List ℕ) (key : ℕ) (sets : List NamedSet) (o : Option ℕ) → IsWide t tx → InTable t o → update_of privately g (as_private t tx) name key sets o ≡ image t (update_of (over_table t) g tx name key sets o)
update_same t g tx name key sets None w h = refl
update_same t g tx name key sets (Some r) w h = update_in_same t g tx r name key (resolved (columns_at g.schema r) sets) (sets_misfit (widths_at g.schema r) (columns_at g.schema r) sets) w (h r refl)

delete_same : (t : Table) (g : Ground) (tx : Tx (List Overlay)) (name : List ℕ) (key : ℕ) (o : Option ℕ) → IsWide t tx → InTable t o → delete_of privately g (as_private t tx) name key o ≡ image t (delete_of (over_table t) g tx name key o)
delete_same t g tx name key None w h = refl
delete_same t g tx name key (Some r) w h = change_same t g tx r name key None w (h r refl)

from_same : (t : Table) (tx : Tx (List Overlay)) (r key : ℕ) (s : Source) → get_from privately (as_private t tx) r key s ≡ image t (get_from (over_table t) tx r key s)
from_same t tx r key Own = refl
from_same t tx r key (Other table) = refl
from_same t tx r key (Lacking why) = refl

source_same : (sources : VersionName → Source) (at : Option VersionName) (t : Table) → source_at privately sources at ≡ source_at (over_table t) sources at
source_same sources None t = refl
source_same sources (Some v) t = refl

get_same : (t : Table) (sources : VersionName → Source) (tx : Tx (List Overlay)) (name : List ℕ) (key : ℕ) (at : Option VersionName) (o : Option ℕ) → get_of privately sources (as_private t tx) name key at o ≡ image t (get_of (over_table t) sources tx name key at o)
get_same t sources tx name key at None = refl
get_same t sources tx name key at (Some r) = ap (get_from privately (as_private t tx) r key) (source_same sources at t) ∙ from_same t tx r key (source_at (over_table t) sources at)

-- ---- questions

contents_same : (t : Table) (tx : Tx (List Overlay)) (r : ℕ) (s : Source) → contents_from privately (as_private t tx) r s ≡ contents_from (over_table t) tx r s
contents_same t tx r Own = refl
contents_same t tx r (Other table) = refl
contents_same t tx r (Lacking why) = refl

rows_same : (t : Table) (p : Record → Bool) (tx : Tx (List Overlay)) (r : ℕ) (s : Source) → rows_from privately p (as_private t tx) r s ≡ rows_from (over_table t) p tx r s
rows_same t p tx r s = let e = contents_same t tx r s in λ i. filter p (rows_of (e i))

versions_same : (t : Table) (sources : VersionName → Source) (tx : Tx (List Overlay)) (r : ℕ) (p : Record → Bool) (names : List VersionName) → scan_versions privately sources (as_private t tx) r p names ≡ image t (scan_versions (over_table t) sources tx r p names)
versions_same t sources tx r p names =
    asked_same t tx (first_lacking (map sources names)) _ _ (λ i. answered (as_private t tx) (Listed names (union_marked (map (λ (v : VersionName). rows_same t p tx r (sources v) i) names))))

scan_over_same : (t : Table) (sources : VersionName → Source) (heads : List (List ℕ)) (tx : Tx (List Overlay)) (r : ℕ) (p : Record → Bool) (over : ScanOver) → scan_over privately sources heads (as_private t tx) r p over ≡ image t (scan_over (over_table t) sources heads tx r p over)
scan_over_same t sources heads tx r p Current = refl
scan_over_same t sources heads tx r p (Named names) = versions_same t sources tx r p names
scan_over_same t sources heads tx r p Heads = versions_same t sources tx r p (map plain heads)

scan_same : (t : Table) (schema : List Relation) (sources : VersionName → Source) (heads : List (List ℕ)) (tx : Tx (List Overlay)) (name : List ℕ) (over : ScanOver) (terms : List Term) (o : Option ℕ)
    → scan_of privately schema sources heads (as_private t tx) name over terms o ≡ image t (scan_of (over_table t) schema sources heads tx name over terms o)
scan_same t schema sources heads tx name over terms None = refl
scan_same t schema sources heads tx name over terms (Some r) =
    asked_same t tx (terms_refusal schema r terms) _ _ (scan_over_same t sources heads tx r (holds (columns_at schema r) terms) over)

join_in_same : (t : Table) (tx : Tx (List Overlay)) (r s : ℕ) (left right : Source) (p : Record → Bool) → join_in privately (as_private t tx) r s left right p ≡ image t (join_in (over_table t) tx r s left right p)
join_in_same t tx r s left right p =
    let rows = rows_same t p tx r left in
    let others = contents_same t tx s right in
    asked_same t tx (first_lacking (left ∷ right ∷ [])) _ _ (λ i. answered (as_private t tx) (Paired (pairs_of (rows i) (others i))))

join_with_same : (t : Table) (schema : List Relation) (tx : Tx (List Overlay)) (r : ℕ) (name : List ℕ) (left right : Source) (terms : List Term) (o : Option ℕ)
    → join_with privately schema (as_private t tx) r name left right terms o ≡ image t (join_with (over_table t) schema tx r name left right terms o)
join_with_same t schema tx r name left right terms None = refl
join_with_same t schema tx r name left right terms (Some s) =
    asked_same t tx (terms_refusal schema r terms) _ _ (join_in_same t tx r s left right (holds (columns_at schema r) terms))

join_same : (t : Table) (schema : List Relation) (tx : Tx (List Overlay)) (name other : List ℕ) (left right : Source) (terms : List Term) (o q : Option ℕ)
    → join_of privately schema (as_private t tx) name other left right terms o q ≡ image t (join_of (over_table t) schema tx name other left right terms o q)
join_same t schema tx name other left right terms None q = refl
join_same t schema tx name other left right terms (Some r) q = join_with_same t schema tx r other left right terms q

minus_same : (t : Table) (tx : Tx (List Overlay)) (name : List ℕ) (left right : Source) (o : Option ℕ) → minus_of privately (as_private t tx) name left right o ≡ image t (minus_of (over_table t) tx name left right o)
minus_same t tx name left right None = refl
minus_same t tx name left right (Some r) =
    let rows = contents_same t tx r left in
    let others = contents_same t tx r right in
    asked_same t tx (first_lacking (left ∷ right ∷ [])) _ _ (λ i. answered (as_private t tx) (Listed [] (map marked (unlike (rows_of (rows i)) (others i)))))

-- the relation of a name is one of the schema
pub named_within : (schema : List Relation) (name : List ℕ) (r : ℕ) → relation_named schema name ≡ Some r → r < length schema
named_within schema name r e = (position-Some _ schema r no_relation e).0

act_same : (t : Table) (g : Ground) (sources : VersionName → Source) (heads : List (List ℕ)) (tx : Tx (List Overlay)) (x : Stmt) → IsWide t tx → length t ≡ length g.schema → act privately g sources heads (as_private t tx) x ≡ image t (act (over_table t) g sources heads tx x)
act_same t g sources heads tx (Insert name key fields) w e = insert_same t g tx name key fields (relation_named g.schema name) w (λ r f. let n = named_within g.schema name r f in omega (arith, n, e))
act_same t g sources heads tx (Update name key sets) w e = update_same t g tx name key sets (relation_named g.schema name) w (λ r f. let n = named_within g.schema name r f in omega (arith, n, e))
act_same t g sources heads tx (Delete name key) w e = delete_same t g tx name key (relation_named g.schema name) w (λ r f. let n = named_within g.schema name r f in omega (arith, n, e))
act_same t g sources heads tx (Get name key at) w e = get_same t sources tx name key at (relation_named g.schema name)
act_same t g sources heads tx (Scan name over terms) w e = scan_same t g.schema sources heads tx name over terms (relation_named g.schema name)
act_same t g sources heads tx (Join left right v u terms) w e = join_same t g.schema tx left right (sources v) (sources u) terms (relation_named g.schema left) (relation_named g.schema right)
act_same t g sources heads tx (Minus name v u) w e = minus_same t tx name (sources v) (sources u) (relation_named g.schema name)
act_same t g sources heads tx _ w e = refl

on_same : (t : Table) (tx : Tx (List Overlay)) (name : List ℕ) (o : Option ℕ) → on_of (as_private t tx) name o ≡ image t (on_of tx name o)
on_same t tx name None = refl
on_same t tx name (Some b) = refl

branch_as_same : (t : Table) (tx : Tx (List Overlay)) (name : List ℕ) (at : VersionPlace) (o : Option Refusal) (there : Option ℕ) (count : ℕ) → branch_as (as_private t tx) name at o there count ≡ image t (branch_as tx name at o there count)
branch_as_same t tx name at (Some why) there count = refl
branch_as_same t tx name at None (Some old) count = refl
branch_as_same t tx name at None None count = cond_same t (nat_lt count most_branches) _ _ _ _ refl refl

-- it has something to commit where the other has
pub changed_alike : (t : Table) (tx : Tx (List Overlay)) → has_changed privately (as_private t tx) ≡ has_changed (over_table t) tx
changed_alike t tx = ap (λ n. nat_lt 0 n || is_some tx.second) (touches_same tx.work)

-- ---- merges

put_all_same : (t : Table) (os : List Overlay) (cs : List Change) → length t ≤ length os → list_all (λ c. nat_lt c.relation (length t)) cs ≡ true → put_all privately (private_of t os) cs ≡ private_of t (put_all (over_table t) os cs)
put_all_same t os [] n w = refl
put_all_same t os (c ∷ cs) n w =
    let two = and_parts (nat_lt c.relation (length t)) (list_all (λ c. nat_lt c.relation (length t)) cs) w in
    let h : c.relation < length t = ltb-true c.relation (length t) two.0 in
    let m = length-set os c.relation (finite.insert (overlay_at os c.relation) c.key c.fields) in
    ap (λ (p : Private). put_all privately p cs) (put_same t os c.relation c.key c.fields h (omega (arith, h, n)))
    ∙ put_all_same t (touch os c.relation c.key c.fields) cs (omega (arith, n, m)) two.1

merged_same : (t : Table) (schema : List Relation) (tx : Tx (List Overlay)) (from : VersionPlace) (cs : List Change) (o : Option Refusal) → IsWide t tx → list_all (λ c. nat_lt c.relation (length t)) cs ≡ true → merged_to privately schema (as_private t tx) from cs o ≡ image t (merged_to (over_table t) schema tx from cs o)
merged_same t schema tx from cs (Some why) w h = refl
merged_same t schema tx from cs None w h =
    let few = w.table in
    let work = w.work.wide in
    ap (taken_to privately schema (as_private t tx) (Some from)) (put_all_same t tx.work cs (omega (arith, few, work)) h)
    ∙ taken_same t schema tx (Some from) (put_all (over_table t) tx.work cs) (work_all t tx.work cs h w.work)

merge_same : (t : Table) (d : Dataset) (b : ℕ) (tx : Tx (List Overlay)) (name : List ℕ) (prefer : Prefer) (o : Option ℕ) → IsWide t tx → length (head_of d b) ≡ length t → merge_named privately d b (as_private t tx) name prefer o ≡ image t (merge_named (over_table t) d b tx name prefer o)
merge_same t d b tx name prefer None w e = refl
merge_same t d b tx name prefer (Some c) w e =
    cond_same t (ground_of d b).full _ _ _ _ refl (merged_same t d.schema tx (head_place d c) (table_changes (all_widths d.schema) prefer (common_table d b c) (head_of d b) (head_of d c)) (refusal_of_merge d.schema tx.room prefer (common_table d b c) (head_of d b) (head_of d c)) w
    (subst (λ n. list_all (λ x. nat_lt x.relation n) (table_changes (all_widths d.schema) prefer (common_table d b c) (head_of d b) (head_of d c)) ≡ true) e (merged_within (all_widths d.schema) prefer (common_table d b c) (head_of d b) (head_of d c))))

-- one line
pub step_same : (t : Table) (d : Dataset) (b : ℕ) (tx : Tx (List Overlay)) (x : Stmt) → IsWide t tx → length t ≡ length d.schema → length (head_of d b) ≡ length d.schema → step privately d b (as_private t tx) x ≡ image t (step (over_table t) d b tx x)
step_same t d b tx (Begin room) w e n = cond_same t tx.begun _ _ _ _ refl refl
step_same t d b tx Commit w e n = cond_same t tx.begun _ _ _ _ (ap (λ q. answered (as_private t tx) (cond q (made_next d b) Done)) (changed_alike t tx)) refl
step_same t d b tx Abort w e n = cond_same t tx.begun _ _ _ _ refl refl
step_same t d b tx (On name) w e n = cond_same t tx.begun _ _ _ _ refl (on_same t tx name (branch_named d name))
step_same t d b tx (LogOf name) w e n = refl
step_same t d b tx Graph w e n = refl
step_same t d b tx Segments w e n = refl
step_same t d b tx Checkpoint w e n = cond_same t tx.begun _ _ _ _ refl refl
step_same t d b tx (Branch name origin) w e n = cond_same t tx.begun _ _ _ _ refl (branch_as_same t tx name (place_in (found d origin)) (lack (found d origin)) (branch_named d name) (length d.branches))
step_same t d b tx (Merge name prefer) w e n =
    ap (told_of d b tx.begun)
    (ap (λ q. cond q (refused (as_private t tx) NotFirst) (merge_named privately d b (as_private t tx) name prefer (branch_named d name))) (changed_alike t tx)
    ∙ cond_same t (has_changed (over_table t) tx) _ _ _ _ refl (merge_same t d b tx name prefer (branch_named d name) w (omega (arith, e, n))))
step_same t d b tx x w e n = ap (told_of d b tx.begun) (act_same t (ground_of d b) (λ v. source_of b (found d v)) (branch_names d) tx x w e)
