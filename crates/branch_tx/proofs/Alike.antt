-- A transaction on a private table and the same with changes over the head.
use Rattle.std.proofs.Common.{◌≡◌, ℕ, ◌<◌, ◌≤◌, nat_lt, nat_le, true, cond, ◌&&◌, List, [], ◌∷◌, length, replicate, Option, Some, None, refl, ap, sym, ◌∙◌, arith}
use Rattle.std.specs.List.{list_all}
use Rattle.std.proofs.lemmas.Bool.{and_parts, leb-true, ltb-true}
use Rattle.db_value.specs.Schema.{most_relations}
use Rattle.db_value.specs.Relations.{is_counted, has_columns}
use Rattle.db_value.specs.declared.schema.Relation.{Relation}
use Rattle.db_value.specs.declared.version.VersionPlace.{VersionPlace}
use Rattle.db_value.specs.declared.entry.Change.{Change}
use Rattle.db_value.specs.declared.entry.Entry.TheVariants.{Commit as CommitEntry}
use Rattle.db_store.specs.Table.{Table}
use Rattle.db_store.specs.Overlay.{Overlay, untouched, touch}
use Rattle.db_store.specs.Dataset.{Dataset, head_of, head_place}
use Rattle.db_store.specs.RowWidths.{all_widths}
use Rattle.db_store.specs.Sound.{IsSound}
use Rattle.db_store.specs.Counted.{IsTable, IsCounted}
use Rattle.db_store.proofs.OverlayLemmas.{laid_untouched}
use Rattle.field_merge.proofs.OrderLemmas.{merged_within}
use Rattle.stmt_text.specs.declared.stmt.Stmt.{Stmt}
use Rattle.branch_tx.specs.Keeping.{Private, private_copy, privately, over_table}
use Rattle.branch_tx.specs.Act.{Tx, Outcome}
use Rattle.branch_tx.specs.Merging.{put_all}
use Rattle.branch_tx.specs.Alone.{common_table, step, fresh, alone, overlaid, reply_alone, reply_after, entry_made, entry_of}
use Rattle.branch_tx.specs.Laws.{private_of, as_private, PrivateLaw}
use Rattle.branch_tx.proofs.Private.{no_keys, IsIn, changes_same, IsWork, work_untouched, work_touched, work_all}
use Rattle.branch_tx.proofs.Images.{image, changed_alike, step_same}
use Rattle.branch_tx.proofs.Keeps.{merge_changes, step_keeps}

-- ---- the work of a transaction

pub overlaid_work : (d : Dataset) (b : ℕ) (xs : List Stmt) → length (head_of d b) ≡ length d.schema → IsWork (head_of d b) (overlaid d b xs).work
overlaid_work d b [] e = work_untouched (head_of d b)
overlaid_work d b (x ∷ xs) e =
    let old = overlaid_work d b xs e in
    step_keeps (over_table (head_of d b)) (λ tx. IsWork (head_of d b) tx.work) d b (overlaid d b xs) x old
    (λ room is. old)
    (λ r key st c. let l = c.within in work_touched (head_of d b) (overlaid d b xs).work r key st (omega (arith, l, e)) old)
    (λ name origin is. old)
    (λ name i is. old)
    (λ name prefer c is m. work_all (head_of d b) (overlaid d b xs).work (merge_changes d b prefer c) (merged_within (all_widths d.schema) prefer (common_table d b c) (head_of d b) (head_of d c)) old)

-- ---- the head

-- the head is a table of the schema
pub head_table : (d : Dataset) (b : ℕ) → IsCounted d → IsSound d → b < length d.branches → IsTable d.schema (head_of d b)
head_table d b c s h = c.tables (head_place d b) (h, let r = s.rooted b h in omega (arith, r))

-- a schema has at most eight relations
pub few_relations : (schema : List Relation) → is_counted schema ≡ true → length schema ≤ most_relations
few_relations schema e = leb-true (length schema) 8 (and_parts (nat_lt 0 (length schema)) (nat_le (length schema) 8) (and_parts (nat_lt 0 (length schema) && nat_le (length schema) 8) (list_all has_columns schema) e).0).1

-- ---- a transaction on a private table

copy_same : (t : Table) → private_copy t ≡ private_of t untouched
copy_same t =
    let l = laid_untouched t in
    λ i. record { table = sym l i; touched = replicate most_relations (sym no_keys i) }

module _ (d : Dataset) (b : ℕ) (table : length (head_of d b) ≡ length d.schema) (few : length d.schema ≤ most_relations) where
  lines_same : (xs : List Stmt) (x : Stmt) → step privately d b (as_private (head_of d b) (overlaid d b xs)) x ≡ image (head_of d b) (step (over_table (head_of d b)) d b (overlaid d b xs) x)
  lines_same xs x =
      let w = overlaid_work d b xs table in
      step_same (head_of d b) d b (overlaid d b xs) x (record { table = omega (arith, table, few); work = w }) table table

  -- the one is made of the other
  pub alone_same : (xs : List Stmt) → alone d b xs ≡ as_private (head_of d b) (overlaid d b xs)
  alone_same [] = ap fresh (copy_same (head_of d b))
  alone_same (x ∷ xs) = ap (λ (a : Tx Private). (step privately d b a x).tx) (alone_same xs) ∙ ap (λ (o : Outcome Private). o.tx) (lines_same xs x)

  -- with the same replies
  pub reply_same : (xs : List Stmt) (x : Stmt) → reply_alone d b xs x ≡ reply_after (over_table (head_of d b)) untouched d b xs x
  reply_same xs x = ap (λ (a : Tx Private). (step privately d b a x).reply) (alone_same xs) ∙ ap (λ (o : Outcome Private). o.reply) (lines_same xs x)

  made_same : (tx : Tx (List Overlay)) (o : Option (List ℕ × VersionPlace)) → IsIn (head_of d b) tx.work → entry_made privately d.schema b (as_private (head_of d b) tx) o ≡ entry_made (over_table (head_of d b)) d.schema b tx o
  made_same tx None h =
      let q = changed_alike (head_of d b) tx in
      let cs = changes_same (all_widths d.schema) (head_of d b) tx.work h in
      λ i. cond (q i) (Some (CommitEntry b tx.second (cs i))) None
  made_same tx (Some new) h = refl

  -- and the same entry
  pub entry_same : (xs : List Stmt) → entry_of privately d.schema b (alone d b xs) ≡ entry_of (over_table (head_of d b)) d.schema b (overlaid d b xs)
  entry_same xs =
      let w = overlaid_work d b xs table in
      ap (entry_of privately d.schema b) (alone_same xs) ∙ made_same (overlaid d b xs) (overlaid d b xs).made w.inside

pub private_is : PrivateLaw
private_is d b xs c s h =
    let wide = (head_table d b c s h).wide in
    let few = few_relations d.schema c.relations in
    (alone_same d b wide few xs, reply_same d b wide few xs, entry_same d b wide few xs)
