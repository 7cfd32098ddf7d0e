-- What holds of the working table of a transaction, and goes on to do so after a change.
use Rattle.std.proofs.Common.{◌≡◌, ℕ, ◌<◌, ◌≤◌, ◌&&◌, nat_lt, true, List, [], ◌∷◌, length, refl, ap, sym, ◌∙◌, subst, arith}
use Rattle.std.specs.Prelude.{Result, Ok, Err, OnOk, OnErr}
use Rattle.std.specs.List.{list_all}
use Rattle.std.proofs.lemmas.Bool.{and_from, and_parts, ltb-true}
use Rattle.db_value.specs.Relations.{widths_at}
use Rattle.db_value.specs.declared.schema.Relation.{Relation}
use Rattle.db_value.specs.declared.entry.Change.{Change}
use Rattle.db_value.specs.declared.condition.Set.{Set}
use Rattle.db_store.specs.declared.view.View.{Ghosts}
use Rattle.db_store.specs.declared.work.Work.{Work}
use Rattle.db_store.specs.Table.{Table, with_changes}
use Rattle.db_store.specs.Overlay.{Overlay, own_widths, change_of, laid, touch, untouched}
use Rattle.db_store.specs.RowWidths.{all_widths}
use Rattle.db_store.specs.Fits.{has_fields, has_widths, change_fits}
use Rattle.db_store.specs.Adopt.{change_meets}
use Rattle.db_store.specs.Work.{fields_at, updated}
use Rattle.db_store.specs.WorkState.{under_of, overlays_of, widths_of, second_of, working_of, StaysOver}
use Rattle.db_store.proofs.CountedLemmas.{IsShaped, change_shaped, changes_shaped}
use Rattle.db_store.proofs.LayerLemmas.{length_overlays}
use Rattle.db_store.proofs.OverlayLemmas.{length_laid, laid_touched, laid_untouched}
use Rattle.db_store.proofs.WidthLemmas.{widths_here}
use Rattle.branch_tx.specs.Shown.{Shown, parts_by, ViewsAgree}
use Rattle.branch_tx.specs.TxState.{AreMet}
use Rattle.branch_tx.proofs.Private.{State}
use Rattle.line_needs.proofs.SetLemmas.{AreFitting}
use Rattle.branch_tx.proofs.Tables.{change_fit}
use Rattle.branch_tx.proofs.WithSets.{updated_meets}

-- ---- rows that meet their widths

shaped : (schema : List Relation) (t : Table) → length t ≡ length schema → AreMet schema t → IsShaped schema t
shaped schema t w m = record { wide = w; counted = m }

-- after a change of one key
pub met_touched : (schema : List Relation) (t : Table) (os : List Overlay) (r key : ℕ) (st : State) → length t ≡ length schema → r < length t → r < length os → has_fields (widths_at schema r) st ≡ true → AreMet schema (laid t os) → AreMet schema (laid t (touch os r key st))
met_touched schema t os r key st wide h k f m =
    subst (AreMet schema) (sym (laid_touched t os r key st h k))
    (change_shaped schema (laid t os) (change_of (widths_at schema r) r (key, st)) (change_fit schema r key st (omega (arith, wide, h)) f) (shaped schema (laid t os) (length_laid t os ∙ wide) m)).counted

-- and after those of a merge
pub met_changed : (schema : List Relation) (t : Table) (cs : List Change) → length t ≡ length schema → list_all (change_fits schema) cs ≡ true → AreMet schema t → AreMet schema (with_changes t cs)
met_changed schema t cs wide f m = (changes_shaped schema t cs f (shaped schema t wide m)).counted

-- and over which nothing is laid
pub met_untouched : (schema : List Relation) (t : Table) (os : List Overlay) → os ≡ untouched → AreMet schema t → AreMet schema (laid t os)
met_untouched schema t os e m = subst (AreMet schema) (sym (ap (laid t) e ∙ laid_untouched t)) m

-- ---- widths

-- changes that fit a schema meet its widths
pub fits_meet : (schema : List Relation) (cs : List Change) → length schema ≤ 8 → list_all (change_fits schema) cs ≡ true → list_all (change_meets (all_widths schema)) cs ≡ true
fits_meet schema [] few f = refl
fits_meet schema (c ∷ cs) few f =
    let both = and_parts (change_fits schema c) (list_all (change_fits schema) cs) f in
    let two = and_parts (nat_lt c.relation (length schema)) (has_fields (widths_at schema c.relation) c.fields && has_widths (widths_at schema c.relation) c.fields c.widths) both.0 in
    let met = (and_parts (has_fields (widths_at schema c.relation) c.fields) (has_widths (widths_at schema c.relation) c.fields c.widths) two.1).0 in
    let h : c.relation < length schema = ltb-true c.relation (length schema) two.0 in
    and_from (change_meets (all_widths schema) c) (list_all (change_meets (all_widths schema)) cs)
    (ap (λ (ws : List ℕ). has_fields ws c.fields) (widths_here schema c.relation h (omega (arith, h, few))) ∙ met) (fits_meet schema cs few both.1)

module _ {V : Type 0} {g : Ghosts V} (schema : List Relation) where
  -- the widths of a relation in a working table that keeps those of the schema
  pub own_are : (w : Work V g) (r : ℕ) → widths_of w ≡ all_widths schema → length (g.table (under_of w)) ≡ length schema → r < length schema → own_widths (widths_of w) r ≡ widths_at schema r
  own_are w r e wide h =
      let few = w.viewable.relations in
      ap (λ (wss : List (List ℕ)). own_widths wss r) e ∙ widths_here schema r h (omega (arith, h, wide, few))

  -- what it has at a key with new values that have their places in their columns
  pub updated_at_meets : (w : Work V g) → length (g.table (under_of w)) ≡ length schema → AreMet schema (laid (g.table (under_of w)) (overlays_of w)) → (r key : ℕ) (sets : List Set) → r < length schema → AreFitting (widths_at schema r) sets
      → has_fields (widths_at schema r) (updated sets (fields_at (working_of w) r key)) ≡ true
  updated_at_meets w wide m r key sets h n =
      let long = length_laid (g.table (under_of w)) (overlays_of w) in
      updated_meets (widths_at schema r) sets (fields_at (working_of w) r key) n (λ fields e. m r key fields (omega (arith, long, wide, h)) e)

  -- ---- the working table

  -- it is as wide as the schema, its views agree, and it keeps the widths, which its rows meet; and what else holds
  abbrev pub Holds : Type 0 → List Shown → Work V g → Type 0
  Holds X shown w = (length (g.table (under_of w)) ≡ length schema) × X × ViewsAgree (parts_by (g.parts_of (under_of w)) ∷ shown) × (widths_of w ≡ all_widths schema) × AreMet schema (laid (g.table (under_of w)) (overlays_of w))

  -- over the same view, with overlays that leave rows that meet their widths
  pub holds_still : (X : Type 0) (shown : List Shown) (old new : Work V g) (os : List Overlay) → StaysOver old new → overlays_of new ≡ os → AreMet schema (laid (g.table (under_of old)) os) → Holds X shown old → Holds X shown new
  holds_still X shown old new os s e m h = (
    ap (λ (v : V). length (g.table v)) s.under ∙ h.0,
    h.1,
    subst (λ (v : V). ViewsAgree (parts_by (g.parts_of v) ∷ shown)) (sym s.under) h.2,
    s.widths ∙ h.3,
    subst (λ (v : V). AreMet schema (laid (g.table v) (overlays_of new))) (sym s.under) (subst (λ (us : List Overlay). AreMet schema (laid (g.table (under_of old)) us)) (sym e) m),
  )

  -- after a change of one key
  pub holds_touched : (X : Type 0) (shown : List Shown) (old new : Work V g) (r key : ℕ) (st : State) → StaysOver old new → overlays_of new ≡ touch (overlays_of old) r key st → r < length schema → has_fields (widths_at schema r) st ≡ true → Holds X shown old → Holds X shown new
  holds_touched X shown old new r key st s e l f h =
      let few = old.viewable.relations in
      let within : r < length (g.table (under_of old)) = omega (arith, l, h.0) in
      let many : r < length (overlays_of old) = omega (arith, within, few, length_overlays old.touched.keys) in
      holds_still X shown old new (touch (overlays_of old) r key st) s e (met_touched schema (g.table (under_of old)) (overlays_of old) r key st h.0 within many f h.4) h

  -- after none
  pub holds_same : (X : Type 0) (shown : List Shown) (old new : Work V g) → StaysOver old new → overlays_of new ≡ overlays_of old → Holds X shown old → Holds X shown new
  holds_same X shown old new s e h = holds_still X shown old new (overlays_of old) s e h.4 h

  -- after one that was made or not
  pub holds_put : {T E : Type 0} (result : Result T E) (X : Type 0) (shown : List Shown) (old new : Work V g) (r key : ℕ) (st : State) → StaysOver old new → OnOk result (overlays_of new ≡ touch (overlays_of old) r key st) → OnErr result (overlays_of new ≡ overlays_of old)
      → r < length schema → has_fields (widths_at schema r) st ≡ true → Holds X shown old → Holds X shown new
  holds_put (Ok x) X shown old new r key st s e f l m h = holds_touched X shown old new r key st s e l m h
  holds_put (Err x) X shown old new r key st s e f l m h = holds_same X shown old new s f h

  -- after those of a merge
  pub holds_adopted : (X : Type 0) (shown : List Shown) (old new : Work V g) (cs : List Change) → StaysOver old new → laid (g.table (under_of new)) (overlays_of new) ≡ with_changes (laid (g.table (under_of old)) (overlays_of old)) cs → list_all (change_fits schema) cs ≡ true
      → Holds X shown old → Holds X shown new
  holds_adopted X shown old new cs s e f h =
      let wide = length_laid (g.table (under_of old)) (overlays_of old) ∙ h.0 in
      let made = ap (λ (v : V). laid (g.table v) (overlays_of new)) (sym s.under) ∙ e in
      holds_still X shown old new (overlays_of new) s refl (subst (AreMet schema) (sym made) (met_changed schema (laid (g.table (under_of old)) (overlays_of old)) cs wide f h.4)) h

  -- after those of a merge that was made or not
  pub holds_merged : {T E : Type 0} (result : Result T E) (X : Type 0) (shown : List Shown) (old new : Work V g) (cs : List Change) → StaysOver old new → OnOk result (laid (g.table (under_of new)) (overlays_of new) ≡ with_changes (laid (g.table (under_of old)) (overlays_of old)) cs)
      → OnErr result ((overlays_of new ≡ overlays_of old) × (second_of new ≡ second_of old)) → list_all (change_fits schema) cs ≡ true → Holds X shown old → Holds X shown new
  holds_merged (Ok x) X shown old new cs s e n f h = holds_adopted X shown old new cs s e f h
  holds_merged (Err x) X shown old new cs s e n f h = holds_same X shown old new s n.0 h
