-- A merge in an open transaction does what it does over the head.
use Rattle.std.proofs.Common.{◌≡◌, ℕ, Bool, true, false, cond, List, [], Option, Some, None, inl, inr, ◌∷◌, refl, ap, sym, ◌∙◌, subst}
use Rattle.std.specs.Prelude.{is_some}
use Rattle.std.proofs.lemmas.Bool.{false≢true}
use Rattle.db_value.specs.declared.schema.Relation.{Relation}
use Rattle.db_value.specs.declared.condition.Prefer.{Prefer}
use Rattle.db_value.specs.declared.entry.Change.{Change}
use Rattle.db_value.specs.declared.reply.Refusal.{Refusal}
use Rattle.db_value.specs.declared.reply.Refusal.TheVariants.{VersionsFull}
use Rattle.db_value.specs.declared.version.VersionPlace.{VersionPlace}
use Rattle.db_store.specs.Table.{Table}
use Rattle.db_store.specs.Overlay.{Overlay}
use Rattle.db_store.specs.Dataset.{Dataset, branch_named, head_of, head_place, table_at}
use Rattle.db_store.specs.Order.{common}
use Rattle.db_store.specs.Counted.{IsTable}
use Rattle.db_store.specs.RowWidths.{all_widths}
use Rattle.lock_table.specs.Rows.{Row}
use Rattle.lock_table.specs.declared.need.Need.{Need}
use Rattle.lock_table.specs.Grants.{Has, row}
use Rattle.stmt_text.specs.declared.stmt.Stmt.TheVariants.{Merge}
use Rattle.branch_tx.specs.Keeping.{over_table}
use Rattle.branch_tx.specs.Act.{Outcome, body_refusal, refused, unless, is_body}
use Rattle.field_merge.specs.Merge.{table_changes}
use Rattle.branch_tx.specs.Merging.{refusal_of_merge, put_all, merged_to, merge_in}
use Rattle.branch_tx.specs.Alone.{ground_of, common_table, merge_named}
use Rattle.branch_tx.specs.Granted.{Granted, ground_in, tx_in, merged, with_merge}
use Rattle.line_needs.specs.Early.{first_refusal}
use Rattle.line_needs.specs.Needs.{lock_of, exclusive, merge_needs, needs}
use Rattle.branch_tx.specs.Covers.{holds_alone}
use Rattle.store_tx.specs.Keeps.{AllGranted, HeldFor, Keeps, IsMore}
use Rattle.store_tx.proofs.KeepsLemmas.{head_by, more_tx}

-- the transaction after a merge
taken_is : (g : Granted) (why : Option Refusal) (o : Outcome (List Overlay)) → tx_in (with_merge g o) ≡ o.tx → tx_in (with_merge g (unless (tx_in g) why o)) ≡ (unless (tx_in g) why o).tx
taken_is g None o e = e
taken_is g (Some why) o e = refl

merged_to_is : (g : Granted) (from : VersionPlace) (cs : List Change) (o : Option Refusal) → tx_in (with_merge g (merged_to (over_table g.head) g.schema (tx_in g) from cs o)) ≡ (merged_to (over_table g.head) g.schema (tx_in g) from cs o).tx
merged_to_is g from cs (Some why) = refl
merged_to_is g from cs None = taken_is g (body_refusal (is_body (over_table g.head) g.schema (Some from) (put_all (over_table g.head) g.overlays cs))) _ refl

unless_is : (g : Granted) (q : Bool) (why : Refusal) (o : Outcome (List Overlay)) → tx_in (with_merge g o) ≡ o.tx → tx_in (with_merge g (cond q (refused (tx_in g) why) o)) ≡ (cond q (refused (tx_in g) why) o).tx
unless_is g true why o e = refl
unless_is g false why o e = e

pub merged_is : (g : Granted) (from : VersionPlace) (prefer : Prefer) (base right : Table) → tx_in (with_merge g (merged g from prefer base right)) ≡ (merged g from prefer base right).tx
merged_is g from prefer base right =
    let cs = table_changes (all_widths g.schema) prefer base g.head right in
    let why = refusal_of_merge g.schema g.room prefer base g.head right in
    unless_is g (ground_in g).full (VersionsFull g.name) (merged_to (over_table g.head) g.schema (tx_in g) from cs why) (merged_to_is g from cs why)

module _ (d : Dataset) (rows : List Row) (s b : ℕ) (old g : Granted) (k : Keeps d rows s b g) (held : is_some g.held ≡ true) (more : IsMore old g) where
  -- its branch is held, so that it is over the head
  over_head : (from : VersionPlace) (prefer : Prefer) (base right : Table) → merged g from prefer base right ≡ merge_in (over_table (head_of d b)) (ground_of d b) (tx_in old) from prefer base (head_of d b) right
  over_head from prefer base right =
      let two = head_by d rows s b g k g.held k.held held in
      let same = more_tx old g more in
      λ i. merge_in (over_table (two.0 i)) (record { schema = k.schema i; name = k.name i; full = two.1 i }) (same i) from prefer base (two.0 i) right

  pub held_table : IsTable d.schema (head_of d b) → IsTable g.schema g.head
  held_table t =
      let two = head_by d rows s b g k g.held k.held held in
      subst (λ (p : List Relation × Table). IsTable p.0 p.1) (λ i. (sym k.schema i, sym two.0 i)) t

  -- with the head of another branch, over their common ancestor
  pub head_merged : (c : ℕ) (from own at : VersionPlace) (prefer : Prefer) (base right : Table) → from ≡ head_place d c → own ≡ head_place d b → at ≡ common d own from → base ≡ table_at d at → right ≡ table_at d from
      → merged g from prefer base right ≡ merge_named (over_table (head_of d b)) d b (tx_in old) [] prefer (Some c)
  head_merged c from own at prefer base right f o a bs r =
      let place : at ≡ common d (head_place d b) (head_place d c) = a ∙ (λ i. common d (o i) (f i)) in
      let ancestor : base ≡ common_table d b c = bs ∙ ap (table_at d) place in
      let other : right ≡ head_of d c = r ∙ ap (table_at d) f in
      over_head from prefer base right
      ∙ (λ i. merge_in (over_table (head_of d b)) (ground_of d b) (tx_in old) (f i) prefer (ancestor i) (head_of d b) (other i))

-- ---- what a merge keeps

held_still : (d : Dataset) (rows : List Row) (s b : ℕ) (g : Granted) (o : Outcome (List Overlay)) (h : Option (Bool × Bool)) → holds_alone h ≡ true → HeldFor d rows s b g h → HeldFor d rows s b (with_merge g o) h
held_still d rows s b g o None e k = absurd (false≢true e)
held_still d rows s b g o (Some (false, full)) e k = absurd (false≢true e)
held_still d rows s b g o (Some (true, full)) e k = (k.0, record { head_is = k.1.head_is; full_is = k.1.full_is; owned = k.1.owned })

pub merged_keeps : (d : Dataset) (rows : List Row) (s b : ℕ) (g : Granted) (o : Outcome (List Overlay)) → holds_alone g.held ≡ true → Keeps d rows s b g → Keeps d rows s b (with_merge g o)
merged_keeps d rows s b g o e k = record { schema = k.schema; name = k.name; held = held_still d rows s b g o g.held e k.held; lent = k.lent; heads = k.heads }

-- ---- what a merge needs

pub merge_needed : (d : Dataset) (rows : List Row) (s b : ℕ) (changed : Bool) (name : List ℕ) (prefer : Prefer) (c : ℕ) → changed ≡ false → branch_named d name ≡ Some c → AllGranted rows s (needs d b true changed (Merge name prefer)) → Has rows (row s (exclusive (lock_of b)))
merge_needed d rows s b changed name prefer c e f a = a (exclusive (lock_of b))
    (subst (λ (q : Bool). Has (cond q [] (merge_needs b (branch_named d name))) (exclusive (lock_of b))) (sym (ap (λ (q : Bool). is_some (first_refusal q)) e))
    (subst (λ (o : Option ℕ). Has (merge_needs b o) (exclusive (lock_of b))) (sym f) (inl refl)))

-- one need that is granted
pub only : (rows : List Row) (s : ℕ) (n : Need) → Has rows (row s n) → AllGranted rows s (n ∷ [])
only rows s n h m (inl e) = subst (λ (y : Need). Has rows (row s y)) e h
only rows s n h m (inr a) = absurd a
