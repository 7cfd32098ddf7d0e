-- What a granted transaction answers to a merge, by what its working table answers to the changes.
use Rattle.std.proofs.Common.{◌≡◌, ℕ, ◌+◌, ◌<◌, nat_le, Bool, true, false, cond, List, [], ◌∷◌, length, map, get_or, Option, Some, None, refl, ap, sym, ◌∙◌, arith}
use Rattle.std.specs.FinMap as finite
use Rattle.std.proofs.lemmas.List.{get_or-map}
use Rattle.db_value.specs.declared.schema.Relation.{Relation}
use Rattle.db_value.specs.declared.schema.Column.{Column}
use Rattle.db_value.specs.declared.condition.Prefer.{Prefer}
use Rattle.db_value.specs.declared.entry.Change.{Change}
use Rattle.db_value.specs.declared.version.VersionPlace.{VersionPlace}
use Rattle.db_value.specs.declared.reply.Reply.TheVariants.{Done}
use Rattle.db_value.specs.declared.reply.Refusal.{Refusal}
use Rattle.db_value.specs.declared.reply.Refusal.TheVariants.{TableFull as RefusedFull, Room as RefusedRoom, BodyFull as RefusedBody}
use Rattle.db_store.specs.declared.work.WorkStop.{WorkStop}
use Rattle.db_store.specs.declared.work.WorkStop.TheVariants.{TableFull, BodyFull}
use Rattle.db_store.specs.Table.{Table, with_changes}
use Rattle.db_store.specs.Fits.{most_keys}
use Rattle.db_store.specs.Overlay.{Overlay, untouched, laid}
use Rattle.db_store.specs.Adopt.{touched_by, full_from, stop_where, adopt_stop}
use Rattle.db_store.specs.RowWidths.{all_widths}
use Rattle.db_store.proofs.OverlayLemmas.{laid_untouched}
use Rattle.db_store.proofs.CountLemmas.{length_with_changes}
use Rattle.field_merge.specs.Merge.{Clash, least_clash, table_changes, table_clashes}
use Rattle.branch_tx.specs.Keeping.{over_table}
use Rattle.branch_tx.specs.Act.{Outcome, body_refusal, refused, answered, unless, is_body}
use Rattle.branch_tx.specs.Merging.{relation_name, conflict_in, merge_refusal, put_all, merged_to}
use Rattle.branch_tx.specs.Granted.{Granted, ground_in, tx_in, merged, adopted}
use Rattle.branch_tx.proofs.Fitting.{put_all_is}
use Rattle.branch_tx.proofs.Stopping.{working_in}

-- the name of a column among the names of all
pub name_at : (columns : List Column) (i : ℕ) (d : Column) → i < length columns → (get_or columns i d).name ≡ get_or (map (λ c. c.name) columns) i []
name_at columns i d h = sym (get_or-map (λ (c : Column). c.name) columns i d [] h)

-- ---- what changes do, by the stop of the working table

-- a transaction with these changes, or the refusal of a merge
abbrev pub stopped_by : Granted → VersionPlace → List Overlay → Option WorkStop → Outcome (List Overlay)
stopped_by g from work None = answered (record (tx_in g) { work = work; second = Some from }) Done
stopped_by g from work (Some (TableFull r)) = refused (tx_in g) (RefusedFull (relation_name g.schema r))
stopped_by g from work (Some BodyFull) = refused (tx_in g) RefusedBody
stopped_by g from work (Some _) = refused (tx_in g) (RefusedRoom g.room)

-- a merge that nothing refuses but want of space in the entry
abbrev onto : Granted → VersionPlace → List Overlay → Bool → Option Refusal → Outcome (List Overlay)
onto g from work short (Some why) = refused (tx_in g) why
onto g from work short None = unless (tx_in g) (body_refusal short) (answered (record (tx_in g) { work = work; second = Some from }) Done)

onto_is : (g : Granted) (from : VersionPlace) (cs : List Change) (o : Option Refusal)
    → merged_to (over_table g.head) g.schema (tx_in g) from cs o ≡ onto g from (put_all (over_table g.head) g.overlays cs) (is_body (over_table g.head) g.schema (Some from) (put_all (over_table g.head) g.overlays cs)) o
onto_is g from cs (Some why) = refl
onto_is g from cs None = refl

onto_stopped : (g : Granted) (from : VersionPlace) (work : List Overlay) (n : ℕ) (o : Option ℕ) (short : Bool) → onto g from work short (merge_refusal g.schema g.room n None o) ≡ stopped_by g from work (stop_where o (nat_le n g.room) short)
onto_stopped g from work n (Some r) short = refl
onto_stopped g from work n None short = by (nat_le n g.room) short
  where
    by : (q b : Bool) → onto g from work b (cond q None (Some (RefusedRoom g.room))) ≡ stopped_by g from work (stop_where None q b)
    by true true = refl
    by true false = refl
    by false b = refl

stop_relation : (o : Option ℕ) (q b : Bool) (r : ℕ) → stop_where o q b ≡ Some (TableFull r) → o ≡ Some r
stop_relation (Some k) q b r e = let same : k ≡ r = cc in ap Some same
stop_relation None true true r e = absurd cc
stop_relation None true false r e = absurd cc
stop_relation None false b r e = absurd cc

full_within : (n : ℕ) (t : Table) (r : ℕ) → full_from n t ≡ Some r → r < n + length t
full_within n [] r e = absurd cc
full_within n (m ∷ ms) r e = by (nat_le (finite.len m) most_keys) (λ q. full_within (n + 1) ms r q) e
  where
    by : (q : Bool) → (full_from (n + 1) ms ≡ Some r → r < n + 1 + length ms) → cond q (full_from (n + 1) ms) (Some n) ≡ Some r → r < n + length (m ∷ ms)
    by true rest e = let h = rest e in omega (arith, h)
    by false rest e = let same : n ≡ r = cc in omega (arith, same)

-- ---- a transaction that has touched nothing

abbrev pub stop_in : Granted → VersionPlace → List Change → Option WorkStop
stop_in g from cs = adopt_stop (working_in g) from cs

-- why it refuses a merge that has no conflict, but for want of space in the entry
abbrev pub given : Granted → List Change → Option Refusal
given g cs = merge_refusal g.schema g.room (length cs) None (full_from 0 (with_changes g.head cs))

module _ (g : Granted) (clean : g.overlays ≡ untouched) where
  pub laid_is : laid g.head g.overlays ≡ g.head
  laid_is = ap (laid g.head) clean ∙ laid_untouched g.head

  -- the entry of the working table after changes takes them
  abbrev is_short : VersionPlace → List Overlay → Bool
  is_short from work = is_body (over_table g.head) g.schema (Some from) work

  stop_is : (from : VersionPlace) (cs : List Change) → stop_where (full_from 0 (with_changes g.head cs)) (nat_le (length cs) g.room) (is_short from (touched_by g.overlays cs)) ≡ stop_in g from cs
  stop_is from cs = ap (λ (t : Table). stop_where (full_from 0 (with_changes t cs)) (nat_le (length cs) g.room) (is_short from (touched_by g.overlays cs))) (sym laid_is)

  -- what the changes of a merge do, once they are found
  pub adopted_is : (from : VersionPlace) (cs : List Change) → adopted g from cs ≡ stopped_by g from (touched_by g.overlays cs) (stop_in g from cs)
  adopted_is from cs =
      onto_is g from cs (given g cs)
      ∙ ap (λ (os : List Overlay). onto g from os (is_short from os) (given g cs)) (put_all_is g.head g.overlays cs)
      ∙ onto_stopped g from (touched_by g.overlays cs) (length cs) (full_from 0 (with_changes g.head cs)) (is_short from (touched_by g.overlays cs))
      ∙ ap (stopped_by g from (touched_by g.overlays cs)) (stop_is from cs)

  pub filled_within : (from : VersionPlace) (cs : List Change) (r : ℕ) → stop_in g from cs ≡ Some (TableFull r) → r < length g.head
  filled_within from cs r e =
      let full = stop_relation (full_from 0 (with_changes g.head cs)) (nat_le (length cs) g.room) (is_short from (touched_by g.overlays cs)) r (stop_is from cs ∙ e) in
      let h = full_within 0 (with_changes g.head cs) r full in
      omega (arith, h, length_with_changes g.head cs)

  -- ---- the merge

  unless_open : (q : Bool) (a x : Outcome (List Overlay)) → q ≡ false → x ≡ cond q a x
  unless_open true a x e = absurd cc
  unless_open false a x e = refl

  pub merged_by : (from : VersionPlace) (prefer : Prefer) (base right : Table) (cs : List Change) → (ground_in g).full ≡ false → cs ≡ table_changes (all_widths g.schema) prefer base (laid g.head g.overlays) right → table_clashes prefer base (laid g.head g.overlays) right ≡ []
      → merged_to (over_table g.head) g.schema (tx_in g) from cs (given g cs) ≡ merged g from prefer base right
  merged_by from prefer base right cs room e free =
      let is : cs ≡ table_changes (all_widths g.schema) prefer base g.head right = e ∙ ap (λ (t : Table). table_changes (all_widths g.schema) prefer base t right) laid_is in
      let none : None ≡ least_clash (table_clashes prefer base g.head right) = sym (ap (λ (t : Table). least_clash (table_clashes prefer base t right)) (sym laid_is) ∙ ap least_clash free) in
      (λ i. merged_to (over_table g.head) g.schema (tx_in g) from (is i) (merge_refusal g.schema g.room (length (is i)) (none i) (full_from 0 (with_changes g.head (is i)))))
      ∙ unless_open (ground_in g).full _ _ room

  pub conflicting : (from : VersionPlace) (prefer : Prefer) (base right : Table) (c : Clash) → (ground_in g).full ≡ false → least_clash (table_clashes prefer base (laid g.head g.overlays) right) ≡ Some c
      → refused (tx_in g) (conflict_in g.schema c) ≡ merged g from prefer base right
  conflicting from prefer base right c room e =
      let is : Some c ≡ least_clash (table_clashes prefer base g.head right) = sym (ap (λ (t : Table). least_clash (table_clashes prefer base t right)) (sym laid_is) ∙ e) in
      let cs = table_changes (all_widths g.schema) prefer base g.head right in
      (λ i. merged_to (over_table g.head) g.schema (tx_in g) from cs (merge_refusal g.schema g.room (length cs) (is i) (full_from 0 (with_changes g.head cs))))
      ∙ unless_open (ground_in g).full _ _ room
