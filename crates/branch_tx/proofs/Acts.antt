-- What a statement that reads or changes records may do: it is refused, it tells something, or it puts one key.
use Rattle.std.proofs.Common.{◌≡◌, ℕ, ◌<◌, Bool, true, false, cond, List, [], ◌∷◌, length, map, refl, arith, Option, Some, None}
use Rattle.std.specs.Prelude.{Result, Ok, Err}
use Rattle.db_value.specs.Value.{Value}
use Rattle.std.specs.List.{filter}
use Rattle.db_value.specs.Relations.{columns_at, widths_at}
use Rattle.db_value.specs.Condition.{holds}
use Rattle.db_value.specs.declared.record.Record.{Record}
use Rattle.db_value.specs.declared.schema.Relation.{Relation}
use Rattle.db_value.specs.declared.version.VersionName.{VersionName}
use Rattle.db_value.specs.declared.condition.Set.{Set}
use Rattle.db_value.specs.declared.condition.Term.{Term}
use Rattle.db_value.specs.declared.reply.Reply.{Reply}
use Rattle.db_value.specs.declared.reply.Reply.TheVariants.{Done, Listed, Paired}
use Rattle.db_value.specs.declared.reply.Refusal.{Refusal}
use Rattle.db_store.specs.Table.{rows_of}
use Rattle.stmt_text.specs.declared.stmt.Stmt.{Stmt}
use Rattle.stmt_text.specs.declared.stmt.Stmt.TheVariants.{Insert, Update, Delete, Get, Scan, Join, Minus}
use Rattle.stmt_text.specs.declared.stmt.NamedSet.{NamedSet}
use Rattle.stmt_text.specs.declared.stmt.ScanOver.{ScanOver}
use Rattle.stmt_text.specs.declared.stmt.ScanOver.TheVariants.{Current, Named, Heads}
use Rattle.branch_tx.specs.Keeping.{Keeping}
use Rattle.db_store.specs.Found.{plain}
use Rattle.branch_tx.specs.Found.{Source, Own, Other, Lacking, first_lacking}
use Rattle.branch_tx.specs.Act.{Tx, Outcome, Ground, body_refusal, refused, answered, unless, is_body, changed_to, insert_of, update_in, update_of, delete_of, get_from, source_at, get_of, marked, union_marked, pairs_of, unlike, contents_from, rows_from, scan_versions, scan_over, scan_of, join_in, join_with, join_of, minus_of, act}
use Rattle.line_needs.specs.Columns.{relation_named, resolved}
use Rattle.line_needs.specs.Misfits.{sets_misfit}
use Rattle.line_needs.specs.Early.{row_refusal, terms_refusal}
use Rattle.branch_tx.proofs.Images.{named_within}

-- a reply that tells nothing more
abbrev pub is_done : Reply → Bool
is_done Done = true
is_done _ = false

module _ {W : Type 0} (k : Keeping W) (n : ℕ) (tx : Tx W) (P : Outcome W → Type 0)
    (refuses : (why : Refusal) → P (refused tx why)) (tells : (reply : Reply) → is_done reply ≡ false → P (answered tx reply))
    (puts : (r key : ℕ) (state : Option (List Value)) → r < n → P (answered (record tx { work = k.put tx.work r key state }) Done)) where
  cond_does : (q : Bool) (o p : Outcome W) → P o → P p → P (cond q o p)
  cond_does true o p h l = h
  cond_does false o p h l = l

  asked_does : (o : Option Refusal) (x : Outcome W) → P x → P (unless tx o x)
  asked_does None x h = h
  asked_does (Some why) x h = refuses why

  changed_does : (schema : List Relation) (r key : ℕ) (state : Option (List Value)) (o : Option Refusal) → r < n → P (changed_to k schema tx r key state o)
  changed_does schema r key state (Some why) h = refuses why
  changed_does schema r key state None h = asked_does (body_refusal (is_body k schema tx.second (k.put tx.work r key state))) _ (puts r key state h)

  insert_does : (g : Ground) (name : List ℕ) (key : ℕ) (fields : List Value) (o : Option ℕ) → ((r : ℕ) → o ≡ Some r → r < n) → P (insert_of k g tx name key fields o)
  insert_does g name key fields None w = refuses _
  insert_does g name key fields (Some r) w = asked_does (row_refusal g.schema name fields (Some r)) _ (cond_does g.full _ _ (refuses _) (changed_does g.schema r key (Some fields) _ (w r refl)))

  update_does : (g : Ground) (r : ℕ) (name : List ℕ) (key : ℕ) (sets : Result (List Set) (List ℕ)) (misfit : Option Refusal) → r < n → P (update_in k g tx r name key sets misfit)
  update_does g r name key (Err column) misfit h = refuses _
  update_does g r name key (Ok sets) misfit h = asked_does misfit _ (cond_does g.full _ _ (refuses _) (changed_does g.schema r key _ _ h))

  update_of_does : (g : Ground) (name : List ℕ) (key : ℕ) (sets : List NamedSet) (o : Option ℕ) → ((r : ℕ) → o ≡ Some r → r < n) → P (update_of k g tx name key sets o)
  update_of_does g name key sets None w = refuses _
  update_of_does g name key sets (Some r) w = update_does g r name key (resolved (columns_at g.schema r) sets) (sets_misfit (widths_at g.schema r) (columns_at g.schema r) sets) (w r refl)

  delete_does : (g : Ground) (name : List ℕ) (key : ℕ) (o : Option ℕ) → ((r : ℕ) → o ≡ Some r → r < n) → P (delete_of k g tx name key o)
  delete_does g name key None w = refuses _
  delete_does g name key (Some r) w = cond_does g.full _ _ (refuses _) (changed_does g.schema r key None _ (w r refl))

  from_does : (r key : ℕ) (s : Source) → P (get_from k tx r key s)
  from_does r key Own = tells _ refl
  from_does r key (Other table) = tells _ refl
  from_does r key (Lacking why) = refuses why

  get_does : (sources : VersionName → Source) (name : List ℕ) (key : ℕ) (at : Option VersionName) (o : Option ℕ) → P (get_of k sources tx name key at o)
  get_does sources name key at None = refuses _
  get_does sources name key at (Some r) = from_does r key (source_at k sources at)

  versions_does : (sources : VersionName → Source) (r : ℕ) (p : Record → Bool) (names : List VersionName) → P (scan_versions k sources tx r p names)
  versions_does sources r p names = asked_does (first_lacking (map sources names)) _ (tells _ refl)

  over_does : (sources : VersionName → Source) (heads : List (List ℕ)) (r : ℕ) (p : Record → Bool) (over : ScanOver) → P (scan_over k sources heads tx r p over)
  over_does sources heads r p Current = tells _ refl
  over_does sources heads r p (Named names) = versions_does sources r p names
  over_does sources heads r p Heads = versions_does sources r p (map plain heads)

  scan_does : (schema : List Relation) (sources : VersionName → Source) (heads : List (List ℕ)) (name : List ℕ) (over : ScanOver) (terms : List Term) (o : Option ℕ) → P (scan_of k schema sources heads tx name over terms o)
  scan_does schema sources heads name over terms None = refuses _
  scan_does schema sources heads name over terms (Some r) =
      asked_does (terms_refusal schema r terms) _ (over_does sources heads r (holds (columns_at schema r) terms) over)

  join_with_does : (schema : List Relation) (r : ℕ) (name : List ℕ) (left right : Source) (terms : List Term) (o : Option ℕ) → P (join_with k schema tx r name left right terms o)
  join_with_does schema r name left right terms None = refuses _
  join_with_does schema r name left right terms (Some s) =
      asked_does (terms_refusal schema r terms) _ (asked_does (first_lacking (left ∷ right ∷ [])) _ (tells _ refl))

  join_does : (schema : List Relation) (name other : List ℕ) (left right : Source) (terms : List Term) (o q : Option ℕ) → P (join_of k schema tx name other left right terms o q)
  join_does schema name other left right terms None q = refuses _
  join_does schema name other left right terms (Some r) q = join_with_does schema r other left right terms q

  minus_does : (name : List ℕ) (left right : Source) (o : Option ℕ) → P (minus_of k tx name left right o)
  minus_does name left right None = refuses _
  minus_does name left right (Some r) = asked_does (first_lacking (left ∷ right ∷ [])) _ (tells _ refl)

  pub act_does : (g : Ground) (sources : VersionName → Source) (heads : List (List ℕ)) (x : Stmt) → length g.schema ≡ n → P (act k g sources heads tx x)
  act_does g sources heads (Insert name key fields) e = insert_does g name key fields (relation_named g.schema name) (λ r f. let h = named_within g.schema name r f in omega (arith, h, e))
  act_does g sources heads (Update name key sets) e = update_of_does g name key sets (relation_named g.schema name) (λ r f. let h = named_within g.schema name r f in omega (arith, h, e))
  act_does g sources heads (Delete name key) e = delete_does g name key (relation_named g.schema name) (λ r f. let h = named_within g.schema name r f in omega (arith, h, e))
  act_does g sources heads (Get name key at) e = get_does sources name key at (relation_named g.schema name)
  act_does g sources heads (Scan name over terms) e = scan_does g.schema sources heads name over terms (relation_named g.schema name)
  act_does g sources heads (Join left right v w terms) e = join_does g.schema left right (sources v) (sources w) terms (relation_named g.schema left) (relation_named g.schema right)
  act_does g sources heads (Minus name v w) e = minus_does name (sources v) (sources w) (relation_named g.schema name)
  act_does g sources heads _ e = refuses _

-- a transaction that was begun, and what is done in it
abbrev pub begun : {W : Type 0} → Tx W → Tx W
begun tx = record tx { begun = true }

abbrev pub done_begun : {W : Type 0} → Outcome W → Outcome W
done_begun o = record { tx = begun o.tx; reply = o.reply }

-- what such a statement does is the same in a transaction that was begun
module _ {W : Type 0} (k : Keeping W) where
  cond_begun : (q : Bool) (o p o' p' : Outcome W) → o' ≡ done_begun o → p' ≡ done_begun p → cond q o' p' ≡ done_begun (cond q o p)
  cond_begun true o p o' p' e f = e
  cond_begun false o p o' p' e f = f

  pub asked_begun : (tx : Tx W) (o : Option Refusal) (x' x : Outcome W) → x' ≡ done_begun x → unless (begun tx) o x' ≡ done_begun (unless tx o x)
  asked_begun tx None x' x e = e
  asked_begun tx (Some why) x' x e = refl

  changed_begun : (schema : List Relation) (tx : Tx W) (r key : ℕ) (state : Option (List Value)) (o : Option Refusal) → changed_to k schema (begun tx) r key state o ≡ done_begun (changed_to k schema tx r key state o)
  changed_begun schema tx r key state (Some why) = refl
  changed_begun schema tx r key state None = asked_begun tx (body_refusal (is_body k schema tx.second (k.put tx.work r key state))) _ _ refl

  insert_begun : (g : Ground) (tx : Tx W) (name : List ℕ) (key : ℕ) (fields : List Value) (o : Option ℕ) → insert_of k g (begun tx) name key fields o ≡ done_begun (insert_of k g tx name key fields o)
  insert_begun g tx name key fields None = refl
  insert_begun g tx name key fields (Some r) = asked_begun tx (row_refusal g.schema name fields (Some r)) _ _ (cond_begun g.full _ _ _ _ refl (changed_begun g.schema tx r key (Some fields) _))

  update_begun : (g : Ground) (tx : Tx W) (r : ℕ) (name : List ℕ) (key : ℕ) (sets : Result (List Set) (List ℕ)) (misfit : Option Refusal) → update_in k g (begun tx) r name key sets misfit ≡ done_begun (update_in k g tx r name key sets misfit)
  update_begun g tx r name key (Err column) misfit = refl
  update_begun g tx r name key (Ok sets) misfit = asked_begun tx misfit _ _ (cond_begun g.full _ _ _ _ refl (changed_begun g.schema tx r key _ _))

  update_of_begun : (g : Ground) (tx : Tx W) (name : List ℕ) (key : ℕ) (sets : List NamedSet) (o : Option ℕ) → update_of k g (begun tx) name key sets o ≡ done_begun (update_of k g tx name key sets o)
  update_of_begun g tx name key sets None = refl
  update_of_begun g tx name key sets (Some r) = update_begun g tx r name key (resolved (columns_at g.schema r) sets) (sets_misfit (widths_at g.schema r) (columns_at g.schema r) sets)

  delete_begun : (g : Ground) (tx : Tx W) (name : List ℕ) (key : ℕ) (o : Option ℕ) → delete_of k g (begun tx) name key o ≡ done_begun (delete_of k g tx name key o)
  delete_begun g tx name key None = refl
  delete_begun g tx name key (Some r) = cond_begun g.full _ _ _ _ refl (changed_begun g.schema tx r key None _)

  from_begun : (tx : Tx W) (r key : ℕ) (s : Source) → get_from k (begun tx) r key s ≡ done_begun (get_from k tx r key s)
  from_begun tx r key Own = refl
  from_begun tx r key (Other table) = refl
  from_begun tx r key (Lacking why) = refl

  get_begun : (sources : VersionName → Source) (tx : Tx W) (name : List ℕ) (key : ℕ) (at : Option VersionName) (o : Option ℕ) → get_of k sources (begun tx) name key at o ≡ done_begun (get_of k sources tx name key at o)
  get_begun sources tx name key at None = refl
  get_begun sources tx name key at (Some r) = from_begun tx r key (source_at k sources at)

  contents_begun : (tx : Tx W) (r : ℕ) (s : Source) → contents_from k (begun tx) r s ≡ contents_from k tx r s
  contents_begun tx r Own = refl
  contents_begun tx r (Other table) = refl
  contents_begun tx r (Lacking why) = refl

  rows_begun : (p : Record → Bool) (tx : Tx W) (r : ℕ) (s : Source) → rows_from k p (begun tx) r s ≡ rows_from k p tx r s
  rows_begun p tx r s = let e = contents_begun tx r s in λ i. filter p (rows_of (e i))

  versions_begun : (sources : VersionName → Source) (tx : Tx W) (r : ℕ) (p : Record → Bool) (names : List VersionName) → scan_versions k sources (begun tx) r p names ≡ done_begun (scan_versions k sources tx r p names)
  versions_begun sources tx r p names =
      asked_begun tx (first_lacking (map sources names)) _ _ (λ i. answered (begun tx) (Listed names (union_marked (map (λ (v : VersionName). rows_begun p tx r (sources v) i) names))))

  over_begun : (sources : VersionName → Source) (heads : List (List ℕ)) (tx : Tx W) (r : ℕ) (p : Record → Bool) (over : ScanOver) → scan_over k sources heads (begun tx) r p over ≡ done_begun (scan_over k sources heads tx r p over)
  over_begun sources heads tx r p Current = refl
  over_begun sources heads tx r p (Named names) = versions_begun sources tx r p names
  over_begun sources heads tx r p Heads = versions_begun sources tx r p (map plain heads)

  scan_begun : (schema : List Relation) (sources : VersionName → Source) (heads : List (List ℕ)) (tx : Tx W) (name : List ℕ) (over : ScanOver) (terms : List Term) (o : Option ℕ)
      → scan_of k schema sources heads (begun tx) name over terms o ≡ done_begun (scan_of k schema sources heads tx name over terms o)
  scan_begun schema sources heads tx name over terms None = refl
  scan_begun schema sources heads tx name over terms (Some r) =
      asked_begun tx (terms_refusal schema r terms) _ _ (over_begun sources heads tx r (holds (columns_at schema r) terms) over)

  join_in_begun : (tx : Tx W) (r s : ℕ) (left right : Source) (p : Record → Bool) → join_in k (begun tx) r s left right p ≡ done_begun (join_in k tx r s left right p)
  join_in_begun tx r s left right p =
      let rows = rows_begun p tx r left in
      let others = contents_begun tx s right in
      asked_begun tx (first_lacking (left ∷ right ∷ [])) _ _ (λ i. answered (begun tx) (Paired (pairs_of (rows i) (others i))))

  join_with_begun : (schema : List Relation) (tx : Tx W) (r : ℕ) (name : List ℕ) (left right : Source) (terms : List Term) (o : Option ℕ)
      → join_with k schema (begun tx) r name left right terms o ≡ done_begun (join_with k schema tx r name left right terms o)
  join_with_begun schema tx r name left right terms None = refl
  join_with_begun schema tx r name left right terms (Some s) =
      asked_begun tx (terms_refusal schema r terms) _ _ (join_in_begun tx r s left right (holds (columns_at schema r) terms))

  join_begun : (schema : List Relation) (tx : Tx W) (name other : List ℕ) (left right : Source) (terms : List Term) (o q : Option ℕ)
      → join_of k schema (begun tx) name other left right terms o q ≡ done_begun (join_of k schema tx name other left right terms o q)
  join_begun schema tx name other left right terms None q = refl
  join_begun schema tx name other left right terms (Some r) q = join_with_begun schema tx r other left right terms q

  minus_begun : (tx : Tx W) (name : List ℕ) (left right : Source) (o : Option ℕ) → minus_of k (begun tx) name left right o ≡ done_begun (minus_of k tx name left right o)
  minus_begun tx name left right None = refl
  minus_begun tx name left right (Some r) =
      let rows = contents_begun tx r left in
      let others = contents_begun tx r right in
      asked_begun tx (first_lacking (left ∷ right ∷ [])) _ _ (λ i. answered (begun tx) (Listed [] (map marked (unlike (rows_of (rows i)) (others i)))))

  pub act_begun : (g : Ground) (sources : VersionName → Source) (heads : List (List ℕ)) (tx : Tx W) (x : Stmt) → act k g sources heads (begun tx) x ≡ done_begun (act k g sources heads tx x)
  act_begun g sources heads tx (Insert name key fields) = insert_begun g tx name key fields (relation_named g.schema name)
  act_begun g sources heads tx (Update name key sets) = update_of_begun g tx name key sets (relation_named g.schema name)
  act_begun g sources heads tx (Delete name key) = delete_begun g tx name key (relation_named g.schema name)
  act_begun g sources heads tx (Get name key at) = get_begun sources tx name key at (relation_named g.schema name)
  act_begun g sources heads tx (Scan name over terms) = scan_begun g.schema sources heads tx name over terms (relation_named g.schema name)
  act_begun g sources heads tx (Join left right v w terms) = join_begun g.schema tx left right (sources v) (sources w) terms (relation_named g.schema left) (relation_named g.schema right)
  act_begun g sources heads tx (Minus name v w) = minus_begun tx name (sources v) (sources w) (relation_named g.schema name)
  act_begun g sources heads tx _ = refl
