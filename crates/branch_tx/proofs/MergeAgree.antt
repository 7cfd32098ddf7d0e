-- A working table in which nothing is touched agrees with views that are merged into it.
use Rattle.std.proofs.Common.{◌≡◌, ℕ, ◌<◌, ◌≤◌, Bool, List, [], ◌∷◌, length, map, ap, sym, ◌∙◌, refl, subst, arith, inl, inr}
use Rattle.db_value.specs.Schema.{most_relations}
use Rattle.db_value.specs.declared.record.Record.{Record}
use Rattle.db_value.specs.declared.schema.Relation.{Relation}
use Rattle.db_store.specs.declared.view.View.{Ghosts}
use Rattle.db_store.specs.declared.work.Work.{Work}
use Rattle.work_region.specs.declared.rows.RowFrame.{RowFrame as Touch}
use Rattle.db_store.specs.Overlay.{untouched, count_touched}
use Rattle.db_store.specs.Parts.{Part, part_at, records_in}
use Rattle.db_store.specs.WorkParts.{own_part, parts_over}
use Rattle.db_store.specs.WorkState.{under_of, overlays_of}
use Rattle.db_store.proofs.OverlayLemmas.{count_untouched}
use Rattle.multi_scan.specs.Agree.{AgreeOn}
use Rattle.field_merge.specs.Shared.{AgreeAsLong, PartsAgree}
use Rattle.branch_tx.specs.Shown.{parts_by, ViewsAgree}
use Rattle.branch_tx.proofs.ShownLemmas.{shown_at}
use Rattle.branch_tx.proofs.SeenAgree.{Which, which}

no_records : (ss : List (Record × Bool)) → length ss ≡ 0 → map (λ (s : Record × Bool). s.0) ss ≡ []
no_records [] e = refl
no_records (s ∷ ss) e = absurd (omega (arith, e))

no_items : {X : Type 0} (xs : List X) → length xs ≡ 0 → xs ≡ []
no_items [] e = refl
no_items (x ∷ xs) e = absurd (omega (arith, e))

-- of a part that is below or the own one, without a touched key
as_long : (ls others : List Part) (r : ℕ) (keys : List Touch) (i j : ℕ) (part : Part) → keys ≡ [] → AgreeOn ls others → j < length others → part.id ≡ (part_at others j).id → length part.slots ≡ length (part_at others j).slots
    → Which ls r keys part i → records_in part ≡ records_in (part_at others j)
as_long ls others r keys i j part none a h e n (inl x) = x.1.records ∙ a i j x.0 h (sym x.1.id ∙ e)
as_long ls others r keys i j part none a h e n (inr y) =
    let own : part ≡ own_part r [] = y ∙ ap (own_part r) none in
    let empty : length (part_at others j).slots ≡ 0 = sym n ∙ ap (λ (p : Part). length p.slots) own in
    ap records_in own ∙ sym (no_records (part_at others j).slots empty)

over_agrees : (ls others : List Part) (r : ℕ) (keys : List Touch) → keys ≡ [] → AgreeOn ls others → AgreeAsLong (parts_over ls r keys) others
over_agrees ls others r keys none a i j h k e n = as_long ls others r keys i j (part_at (parts_over ls r keys) i) none a k e n (which ls r keys i h)

module _ {V : Type 0} {g : Ghosts V} (w : Work V g) (is : overlays_of w ≡ untouched) where
  no_keys : w.touched.keys ≡ []
  no_keys = no_items w.touched.keys (w.sum ∙ ap count_touched is ∙ count_untouched)

  -- in each relation of a schema, with two other views
  pub merge_agrees : (schema : List Relation) (base right : V) → length schema ≤ most_relations
      → ViewsAgree (parts_by (g.parts_of (under_of w)) ∷ parts_by (g.parts_of base) ∷ parts_by (g.parts_of right) ∷ [])
      → PartsAgree schema (g.parts_of base) (λ r. parts_over (g.parts_of w.view r) r w.touched.keys) (g.parts_of right)
  merge_agrees schema base right few agree r h =
      let small : r < most_relations = omega (arith, h, few) in
      let below = shown_at (g.parts_of w.view) r small in
      let with_base : AgreeOn (g.parts_of w.view r) (g.parts_of base r) = subst (λ (ps : List Part). AgreeOn ps (g.parts_of base r)) below (subst (AgreeOn _) (shown_at (g.parts_of base) r small) (agree r 0 1)) in
      let with_right : AgreeOn (g.parts_of w.view r) (g.parts_of right r) = subst (λ (ps : List Part). AgreeOn ps (g.parts_of right r)) below (subst (AgreeOn _) (shown_at (g.parts_of right) r small) (agree r 0 2)) in
      record {
        of_base = over_agrees (g.parts_of w.view r) (g.parts_of base r) r w.touched.keys no_keys with_base;
        of_right = over_agrees (g.parts_of w.view r) (g.parts_of right r) r w.touched.keys no_keys with_right;
      }
