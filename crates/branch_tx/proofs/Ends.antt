-- The entry of a transaction fits.
use Rattle.std.proofs.Common.{◌≡◌, ◌⊎◌, inl, inr, ℕ, ◌+◌, ◌<◌, ◌≤◌, nat_lt, Bool, true, false, cond, ◌||◌, is_some, List, length, Option, Some, None, refl, ap, sym, ◌∙◌, subst, arith}
use Rattle.std.specs.FinMap as finite
use Rattle.std.specs.List.{list_all}
use Rattle.std.proofs.lemmas.Bool.{and_from, le-leb, leb-true, leb-false, cases_lt}
use Rattle.std.proofs.lemmas.Option.{none-some}
use Rattle.db_value.specs.Value.{Value}
use Rattle.db_value.specs.Relations.{widths_at}
use Rattle.db_value.specs.Widths.{meets}
use Rattle.db_value.specs.declared.schema.Relation.{Relation}
use Rattle.db_value.specs.declared.version.VersionPlace.{VersionPlace}
use Rattle.db_value.specs.declared.entry.Change.{Change}
use Rattle.db_value.specs.declared.entry.Entry.{Entry}
use Rattle.db_value.specs.declared.entry.Entry.TheVariants.{Commit as CommitEntry, Branch as BranchEntry}
use Rattle.db_store.specs.Table.{Table, relation_at, with_changes}
use Rattle.db_store.specs.Overlay.{Overlay, overlay_at, over, laid, own_widths, change_of, changes_from, count_touched}
use Rattle.db_store.specs.Body.{commit_size, most_entry, IsShort}
use Rattle.db_store.specs.RowWidths.{all_widths}
use Rattle.db_store.specs.OverlayRules.{get_laid}
use Rattle.db_store.specs.Dataset.{Dataset, branch_at, head_of}
use Rattle.db_store.specs.Fits.{fits, has_fields, change_fits, is_within, most_versions}
use Rattle.db_store.specs.Counted.{IsTable}
use Rattle.db_store.specs.Growth.{commit_from}
use Rattle.db_store.proofs.OverlayLemmas.{length_laid, length_changes, with_overlays, changes_ascend, all_changes, within_from}
use Rattle.db_store.proofs.WidthLemmas.{widths_here}
use Rattle.branch_tx.specs.Keeping.{privately, over_table}
use Rattle.branch_tx.specs.Act.{Tx}
use Rattle.branch_tx.specs.Alone.{overlaid, has_changed, entry_made}
use Rattle.branch_tx.specs.Laws.{TableLaw, EntryLaw, ShortLaw}
use Rattle.branch_tx.proofs.Private.{State, IsIn, changes_same, IsWork}
use Rattle.branch_tx.proofs.Alike.{overlaid_work, head_table, few_relations, alone_same}
use Rattle.branch_tx.proofs.Tables.{change_fit}
use Rattle.branch_tx.proofs.Fitting.{IsFitting, overlaid_fitting}

-- ---- each change fits

has_met : (ws : List ℕ) (st : State) → ((fields : List Value) → st ≡ Some fields → meets ws fields ≡ true) → has_fields ws st ≡ true
has_met ws None f = refl
has_met ws (Some fields) f = f fields refl

changes_fitting : (schema : List Relation) (t : Table) (os : List Overlay) → length schema ≤ 8 → IsIn t os → IsTable schema (laid t os) → list_all (change_fits schema) (changes_from (all_widths schema) 0 os) ≡ true
changes_fitting schema t os few inside s = all_changes (change_fits schema) (all_widths schema) 0 os (λ r key st g. there r key st g (cases_lt r (length t)))
  where
    there : (r key : ℕ) (st : State) → finite.get (overlay_at os r) key ≡ Some st → (r < length t) ⊎ (length t ≤ r) → change_fits schema (change_of (own_widths (all_widths schema) (0 + r)) (0 + r) (key, st)) ≡ true
    there r key st g (inl l) =
        let e : r ≡ 0 + r = omega arith in
        let n = length_laid t os in
        let w = s.wide in
        let h : r < length schema = omega (arith, n, w, l) in
        let k : r < length (laid t os) = omega (arith, n, l) in
        let own : own_widths (all_widths schema) r ≡ widths_at schema r = widths_here schema r h (omega (arith, h, few)) in
        let met : has_fields (widths_at schema r) st ≡ true = has_met (widths_at schema r) st (λ fields q. s.counted r key fields k (get_laid t os r key l ∙ ap (λ (c : Option State). over c (finite.get (relation_at t r) key)) g ∙ q)) in
        subst (λ x. change_fits schema (change_of (own_widths (all_widths schema) x) x (key, st)) ≡ true) e
        (subst (λ (ws : List ℕ). change_fits schema (change_of ws r (key, st)) ≡ true) (sym own) (change_fit schema r key st h met))
    there r key st g (inr l) = absurd (none-some st (sym (inside r key l) ∙ g))

-- ---- the entry

commit_fits : (d : Dataset) (b : ℕ) (tx : Tx (List Overlay)) → length d.schema ≤ 8 → b < length d.branches → IsWork (head_of d b) tx.work → IsFitting d b tx → has_changed (over_table (head_of d b)) tx ≡ true → fits d (CommitEntry b tx.second (changes_from (all_widths d.schema) 0 tx.work)) ≡ true
commit_fits d b tx few h w f c = commit_from d b tx.second cs (record {
  there = h;
  room = leb-false most_versions (length (branch_at d b).versions) (f.open_branch c);
  second = f.second;
  makes = either (nat_lt 0 (length cs)) (is_some tx.second) (ap (λ n. nat_lt 0 n || is_some tx.second) count ∙ c);
  changes = and_from _ _ (and_from _ _ (let k = f.touches in le-leb (length cs) 65536 (omega (arith, count, k))) (changes_ascend wss 0 tx.work)) (changes_fitting d.schema (head_of d b) tx.work few w.inside f.table);
  within = ap is_within (with_overlays wss (head_of d b) tx.work) ∙ within_from (laid (head_of d b) tx.work) f.table.few;
})
  where
    wss : List (List ℕ)
    wss = all_widths d.schema

    cs : List Change
    cs = changes_from wss 0 tx.work

    count : length cs ≡ count_touched tx.work
    count = length_changes wss 0 tx.work

    either : (p q : Bool) → (p || q) ≡ true → (q || p) ≡ true
    either true true e = refl
    either true false e = refl
    either false true e = refl
    either false false e = e

some_entry : (q : Bool) (x e : Entry) → cond q (Some x) None ≡ Some e → (q ≡ true) × (x ≡ e)
some_entry true x e h = (refl, cc)
some_entry false x e h = absurd (none-some e h)

entry_fits : (d : Dataset) (b : ℕ) (tx : Tx (List Overlay)) (o : Option (List ℕ × VersionPlace)) (e : Entry) → length d.schema ≤ 8 → b < length d.branches → IsWork (head_of d b) tx.work → IsFitting d b tx → tx.made ≡ o → entry_made (over_table (head_of d b)) d.schema b tx o ≡ Some e → fits d e ≡ true
entry_fits d b tx None e few h w f m is =
    let both = some_entry (has_changed (over_table (head_of d b)) tx) (CommitEntry b tx.second (changes_from (all_widths d.schema) 0 tx.work)) e is in
    subst (λ (x : Entry). fits d x ≡ true) both.1 (commit_fits d b tx few h w f both.0)
entry_fits d b tx (Some new) e few h w f m is =
    let same : BranchEntry new.0 new.1 ≡ e = cc in
    subst (λ (x : Entry). fits d x ≡ true) same (f.made new m)

pub entry_is : EntryLaw
entry_is d b xs e s c h roomy is =
    let t = head_table d b c s h in
    let few = few_relations d.schema c.relations in
    entry_fits d b (overlaid d b xs) (overlaid d b xs).made e few h (overlaid_work d b xs t.wide) (overlaid_fitting d b xs s (λ other l. head_table d other c s l) h few roomy) refl is

-- ---- its size

short_made : (d : Dataset) (b : ℕ) (tx : Tx (List Overlay)) (o : Option (List ℕ × VersionPlace)) (e : Entry) → IsFitting d b tx → entry_made (over_table (head_of d b)) d.schema b tx o ≡ Some e → IsShort e
short_made d b tx None e f is =
    let both = some_entry (has_changed (over_table (head_of d b)) tx) (CommitEntry b tx.second (changes_from (all_widths d.schema) 0 tx.work)) e is in
    subst IsShort both.1 (leb-true (commit_size tx.second (changes_from (all_widths d.schema) 0 tx.work)) most_entry f.body)
short_made d b tx (Some new) e f is = let same : BranchEntry new.0 new.1 ≡ e = cc in subst IsShort same tt

pub short_is : ShortLaw
short_is d b xs e s c h roomy is =
    short_made d b (overlaid d b xs) (overlaid d b xs).made e (overlaid_fitting d b xs s (λ other l. head_table d other c s l) h (few_relations d.schema c.relations) roomy) is

-- ---- the table

pub table_is : TableLaw
table_is d b xs c s h =
    let t = head_table d b c s h in
    let few = few_relations d.schema c.relations in
    let w = overlaid_work d b xs t.wide in
    let same = alone_same d b t.wide few xs in
    ap (λ (a : Tx _). with_changes (head_of d b) (privately.changes (all_widths d.schema) a.work)) same
    ∙ ap (with_changes (head_of d b)) (changes_same (all_widths d.schema) (head_of d b) (overlaid d b xs).work w.inside)
    ∙ with_overlays (all_widths d.schema) (head_of d b) (overlaid d b xs).work
    ∙ ap (λ (a : Tx _). a.work.table) (sym same)
