-- What the map of places has after a place was put.
use Rattle.std.proofs.Common.{◌≡◌, ℕ, ◌-◌, ◌==◌, ◌&&◌, Bool, false, cond, is_some, Some, None, Ordering, Less, Equal, Greater, if◌then◌else◌, refl, ap, ◌∙◌}
use Rattle.std.specs.Ordering.{nat_cmp, ordering_then, is_eq, eq_by_cmp}
use Rattle.std.specs.Cmp.{IsTotalOrder}
use Rattle.std.proofs.lemmas.Cmp.{nat_cmp_total, on_total, then_total}
use Rattle.std.specs.FinMap as finite
use Rattle.key_index.specs.Overlaid.{Overlaid, touch_cmp, touched}
use Rattle.work_region.specs.declared.rows.RowFrame.{RowFrame as Touch}
use Rattle.db_store.specs.Touched.{is_of}
use Rattle.db_store.specs.TouchRules.{same_key, turned}

touches_total : IsTotalOrder touch_cmp
touches_total = then_total (on_total (λ (p : ℕ × ℕ). p.0) nat_cmp_total) (on_total (λ (p : ℕ × ℕ). p.1) nat_cmp_total)

pair_test : (p q : ℕ × ℕ) → eq_by_cmp touch_cmp p q ≡ (p.0 == q.0 && p.1 == q.1)
pair_test p q = both (nat_cmp p.0 q.0) (nat_cmp p.1 q.1) ∙ ap (λ (b : Bool). b && eq_by_cmp nat_cmp p.1 q.1) (same_key p.0 q.0) ∙ ap (λ (b : Bool). p.0 == q.0 && b) (same_key p.1 q.1)
  where
    both : (r s : Ordering) → is_eq (ordering_then r s) ≡ is_eq r && is_eq s
    both Less s = refl
    both Equal s = refl
    both Greater s = refl

-- what the map has after a place was put
pub place_after : (places : Overlaid ℕ) (t : Touch) (i r key : ℕ) → finite.get (touched places t.relation t.row.key i).items (r, key) ≡ cond (is_of r key t) (Some i) (finite.get places.items (r, key))
place_after places t i r key =
    finite.get-insert touches_total places.items (t.relation, t.row.key) i (r, key)
    ∙ ap (λ (b : Bool). cond b (Some i) (finite.get places.items (r, key)))
    (pair_test (r, key) (t.relation, t.row.key) ∙ ap (λ (b : Bool). b && key == t.row.key) (turned r t.relation) ∙ ap (λ (b : Bool). t.relation == r && b) (turned key t.row.key))

-- a key that has no place is not there
pub not_there : (places : Overlaid ℕ) (r key : ℕ) → finite.get places.items (r, key) ≡ None → finite.contains_key places.items (r, key) ≡ false
not_there places r key e = ap is_some e

-- a key more uses up one place
pub spare_less : (places : Overlaid ℕ) (r key i : ℕ) → finite.get places.items (r, key) ≡ None → (touched places r key i).spare ≡ places.spare - 1
spare_less places r key i e = ap (λ (b : Bool). if b then places.spare else places.spare - 1) (not_there places r key e)
