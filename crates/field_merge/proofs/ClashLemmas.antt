-- A conflict is in a relation of the schema, and in a column of it unless it is in a whole record.
use Rattle.std.proofs.Common.{◌≡◌, ℕ, zero, suc, ◌+◌, ◌<◌, ◌≤◌, Bool, true, false, cond, List, [], ◌∷◌, ◌++◌, length, Option, Some, None, Result, Ok, Err, refl, ap, sym, ◌∙◌, subst, arith}
use Rattle.std.specs.List.{flat_map, range_with_len}
use Rattle.std.specs.FinMap as finite
use Rattle.db_value.specs.Value.{Value}
use Rattle.std.proofs.lemmas.List.{length-map}
use Rattle.std.proofs.Common.{get_or}
use Rattle.db_value.specs.Relations.{no_relation, columns_at, widths_at}
use Rattle.db_value.specs.declared.schema.Column.{Column}
use Rattle.db_value.proofs.RowForms.{meets_long}
use Rattle.db_value.specs.declared.schema.Relation.{Relation}
use Rattle.db_value.specs.declared.condition.Prefer.{Prefer}
use Rattle.db_store.specs.Table.{Table, relation_at}
use Rattle.db_store.specs.Counted.{IsTable}
use Rattle.field_merge.specs.Merge.{preferred, merge_field, first_field, other_fields, field_then, merge_fields, same_state, of_fields, of_records, merge_changed, merge_at, merge_key, all_keys, Clash, clash_where, relation_clashes, table_clashes, least_clash}
use Rattle.field_merge.specs.Named.{IsFieldOf}

-- ---- how many fields

abbrev HasFields : ℕ → Option (List Value) → Type 0
HasFields n None = Unit {0}
HasFields n (Some fields) = length fields ≡ n

-- as many widths as columns
pub as_many : (schema : List Relation) (r : ℕ) → length (widths_at schema r) ≡ length (columns_at schema r)
as_many schema r =
    let columns = (get_or schema r no_relation).columns in
    length-map columns (λ (c : Column). c.width) ∙ sym (length-map columns (λ (c : Column). c.name))

table_has : (schema : List Relation) (t : Table) (r key : ℕ) → IsTable schema t → r < length schema → HasFields (length (columns_at schema r)) (finite.get (relation_at t r) key)
table_has schema t r key is h = at (finite.get (relation_at t r) key) refl
  where
    at : (o : Option (List Value)) → finite.get (relation_at t r) key ≡ o → HasFields (length (columns_at schema r)) o
    at None e = tt
    at (Some fields) e = meets_long (widths_at schema r) fields (is.counted r key fields (subst (λ n. r < n) (sym is.wide) h) e) ∙ as_many schema r

-- ---- one key

fields_within : (prefer : Prefer) (column : ℕ) (base : Option (List Value)) (left right : List Value) (f : ℕ) → merge_fields prefer column base left right ≡ Err f → f < column + length left
fields_within prefer column base [] right f e = absurd cc
fields_within prefer column base (l ∷ ls) [] f e = absurd cc
fields_within prefer column base (l ∷ ls) (r ∷ rs) f e = by (merge_field prefer (first_field base) l r) (merge_fields prefer (column + 1) (other_fields base) ls rs) (λ later q. fields_within prefer (column + 1) (other_fields base) ls rs later q) e
  where
    by : (o : Option Value) (others : Result (List Value) ℕ) → ((later : ℕ) → others ≡ Err later → later < column + 1 + length ls) → field_then column o others ≡ Err f → f < column + suc (length ls)
    by None others rest e = let same : column ≡ f = cc in omega (arith, same)
    by (Some v) (Ok vs) rest e = absurd cc
    by (Some v) (Err later) rest e =
        let same : later ≡ f = cc in
        let less = rest later refl in
        omega (arith, same, less)

module _ (n : ℕ) (prefer : Prefer) (base : Option (List Value)) where
  records_within : (o : Option (Option (List Value))) (field : Option ℕ) → of_records o ≡ Err field → IsFieldOf n field
  records_within None field e = let same : None ≡ field = cc in subst (IsFieldOf n) same tt
  records_within (Some state) field e = absurd cc

  both_within : (l r : List Value) → length l ≡ n → (field : Option ℕ) (res : Result (List Value) ℕ) → merge_fields prefer 0 base l r ≡ res → of_fields res ≡ Err field → IsFieldOf n field
  both_within l r h field (Ok fields) q e = absurd cc
  both_within l r h field (Err c) q e =
      let same : Some c ≡ field = cc in
      let less = fields_within prefer 0 base l r c q in
      subst (IsFieldOf n) same (omega (arith, less, h))

  changed_within : (left right : Option (List Value)) → HasFields n left → (field : Option ℕ) → merge_changed prefer base left right ≡ Err field → IsFieldOf n field
  changed_within None right h field e = records_within (preferred prefer None right) field e
  changed_within (Some l) None h field e = records_within (preferred prefer (Some l) None) field e
  changed_within (Some l) (Some r) h field e = both_within l r h field (merge_fields prefer 0 base l r) refl e

  unless_kept : (b : Bool) (state : Option (List Value)) (res : Result (Option (List Value)) (Option ℕ)) (field : Option ℕ) → cond b (Ok state) res ≡ Err field → res ≡ Err field
  unless_kept true state res field e = absurd cc
  unless_kept false state res field e = e

  at_within : (left right : Option (List Value)) → HasFields n left → (field : Option ℕ) → merge_at prefer base left right ≡ Err field → IsFieldOf n field
  at_within left right h field e = changed_within left right h field
      (unless_kept (same_state right base) left _ field (unless_kept (same_state left base) right _ field (unless_kept (same_state left right) left _ field e)))

-- ---- the first of many

least_flat : (P : Clash → Type 0) (of : ℕ → List Clash) → ((k : ℕ) (c : Clash) → least_clash (of k) ≡ Some c → P c) → (ks : List ℕ) (c : Clash) → least_clash (flat_map of ks) ≡ Some c → P c
least_flat P of each [] c e = absurd cc
least_flat P of each (k ∷ ks) c e = by (of k) refl (λ q. least_flat P of each ks c q) e
  where
    by : (xs : List Clash) → of k ≡ xs → (least_clash (flat_map of ks) ≡ Some c → P c) → least_clash (xs ++ flat_map of ks) ≡ Some c → P c
    by [] q rest e = rest e
    by (x ∷ xs) q rest e = each k c (ap least_clash q ∙ e)

least_range : (P : Clash → Type 0) (of : ℕ → List Clash) (most : ℕ) → ((r : ℕ) (c : Clash) → r < most → least_clash (of r) ≡ Some c → P c) → (n count : ℕ) (c : Clash) → n + count ≤ most → least_clash (flat_map of (range_with_len n count)) ≡ Some c → P c
least_range P of most each n zero c h e = absurd cc
least_range P of most each n (suc count) c h e = by (of n) refl (λ q. least_range P of most each (n + 1) count c (omega (arith, h)) q) e
  where
    by : (xs : List Clash) → of n ≡ xs → (least_clash (flat_map of (range_with_len (n + 1) count)) ≡ Some c → P c) → least_clash (xs ++ flat_map of (range_with_len (n + 1) count)) ≡ Some c → P c
    by [] q rest e = rest e
    by (x ∷ xs) q rest e = each n c (omega (arith, h)) (ap least_clash q ∙ e)

-- ---- tables

-- of a relation of the schema, and of a column of it
abbrev IsIn : List Relation → Clash → Type 0
IsIn schema c = (c.relation < length schema) × IsFieldOf (length (columns_at schema c.relation)) c.field

where_in : (schema : List Relation) (r key : ℕ) (res : Result (Option (List Value)) (Option ℕ)) (c : Clash) → r < length schema → ((field : Option ℕ) → res ≡ Err field → IsFieldOf (length (columns_at schema r)) field) → least_clash (clash_where r key res) ≡ Some c → IsIn schema c
where_in schema r key (Ok state) c h f e = absurd cc
where_in schema r key (Err field) c h f e =
    let same : record { relation = r; key = key; field = field } ≡ c = cc in
    subst (IsIn schema) same (h, f field refl)

pub least_within : (schema : List Relation) (prefer : Prefer) (base left right : Table) (c : Clash) → IsTable schema left → least_clash (table_clashes prefer base left right) ≡ Some c → IsIn schema c
least_within schema prefer base left right c t e =
    least_range (IsIn schema) (λ r. relation_clashes prefer r (relation_at base r) (relation_at left r) (relation_at right r)) (length schema)
    (λ r x h q. least_flat (IsIn schema) (λ key. clash_where r key (merge_key prefer (relation_at base r) (relation_at left r) (relation_at right r) key))
    (λ key y p. where_in schema r key (merge_key prefer (relation_at base r) (relation_at left r) (relation_at right r) key) y h
    (at_within (length (columns_at schema r)) prefer (finite.get (relation_at base r) key) (finite.get (relation_at left r) key) (finite.get (relation_at right r) key) (table_has schema left r key t h)) p)
    (all_keys (relation_at base r) (relation_at left r) (relation_at right r)) x q)
    0 (length left) c (let w = t.wide in omega (arith, w)) e
