-- Where a side is preferred nothing is in conflict.
use Rattle.std.proofs.Common.{◌≡◌, ℕ, ◌+◌, Bool, true, false, cond, List, [], ◌∷◌, Option, Some, None, Result, Ok, Err, refl}
use Rattle.db_value.specs.Value.{Value, value_eq}
use Rattle.db_value.specs.declared.condition.Prefer.{Prefer}
use Rattle.db_value.specs.declared.condition.Prefer.TheVariants.{Neither, Left, Right}
use Rattle.field_merge.specs.Merge.{preferred, is_base, merge_field, first_field, other_fields, field_then, merge_fields, same_state, of_fields, of_records, merge_changed, merge_at, clash_where, Clash}

-- there is a result
abbrev IsKept : {A B : Type 0} → Result A B → Type 0
IsKept (Ok x) = Unit {0}
IsKept (Err e) = ⊥

abbrev IsThere : {A : Type 0} → Option A → Type 0
IsThere None = ⊥
IsThere (Some x) = Unit {0}

if_there : {A : Type 0} (b : Bool) (x : A) (o : Option A) → IsThere o → IsThere (cond b (Some x) o)
if_there true x o h = tt
if_there false x o h = h

if_kept : {A B : Type 0} (b : Bool) (x : A) (o : Result A B) → IsKept o → IsKept (cond b (Ok x) o)
if_kept true x o h = tt
if_kept false x o h = h

then_kept : (column : ℕ) (o : Option Value) (others : Result (List Value) ℕ) → IsThere o → IsKept others → IsKept (field_then column o others)
then_kept column None others h k = absurd h
then_kept column (Some v) (Ok vs) h k = tt
then_kept column (Some v) (Err later) h k = absurd k

of_fields_kept : (r : Result (List Value) ℕ) → IsKept r → IsKept (of_fields r)
of_fields_kept (Ok vs) h = tt
of_fields_kept (Err column) h = absurd h

of_records_kept : (o : Option (Option (List Value))) → IsThere o → IsKept (of_records o)
of_records_kept None h = absurd h
of_records_kept (Some state) h = tt

module _ (prefer : Prefer) (value : (x y : Value) → IsThere (preferred prefer x y)) (state : (x y : Option (List Value)) → IsThere (preferred prefer x y)) where
  fields_kept : (column : ℕ) (base : Option (List Value)) (left right : List Value) → IsKept (merge_fields prefer column base left right)
  fields_kept column base [] right = tt
  fields_kept column base (l ∷ ls) [] = tt
  fields_kept column base (l ∷ ls) (r ∷ rs) = then_kept column (merge_field prefer (first_field base) l r) (merge_fields prefer (column + 1) (other_fields base) ls rs)
      (if_there (value_eq l r) l _ (if_there (is_base (first_field base) l) r _ (if_there (is_base (first_field base) r) l _ (value l r))))
      (fields_kept (column + 1) (other_fields base) ls rs)

  changed_kept : (base left right : Option (List Value)) → IsKept (merge_changed prefer base left right)
  changed_kept base None right = of_records_kept (preferred prefer None right) (state None right)
  changed_kept base (Some l) None = of_records_kept (preferred prefer (Some l) None) (state (Some l) None)
  changed_kept base (Some l) (Some r) = of_fields_kept (merge_fields prefer 0 base l r) (fields_kept 0 base l r)

  at_kept : (base left right : Option (List Value)) → IsKept (merge_at prefer base left right)
  at_kept base left right = if_kept (same_state left right) left _ (if_kept (same_state left base) right _ (if_kept (same_state right base) left _ (changed_kept base left right)))

not_kept : {A B : Type 0} (r : Result A B) (e : B) → r ≡ Err e → IsKept r → ⊥
not_kept (Ok x) e is k = absurd cc
not_kept (Err f) e is k = k

-- a merge that is a conflict was asked without a side
pub asked : (prefer : Prefer) (base left right : Option (List Value)) (field : Option ℕ) → merge_at prefer base left right ≡ Err field → prefer ≡ Neither
asked Neither base left right field e = refl
asked Left base left right field e = absurd (not_kept (merge_at Left base left right) field e (at_kept Left (λ x y. tt) (λ x y. tt) base left right))
asked Right base left right field e = absurd (not_kept (merge_at Right base left right) field e (at_kept Right (λ x y. tt) (λ x y. tt) base left right))

from_clash : (prefer : Prefer) (merged : Result (Option (List Value)) (Option ℕ)) (relation key : ℕ) (clash : Clash) → ((field : Option ℕ) → merged ≡ Err field → prefer ≡ Neither) → clash_where relation key merged ≡ clash ∷ [] → prefer ≡ Neither
from_clash prefer (Ok state) relation key clash by e = absurd cc
from_clash prefer (Err field) relation key clash by e = by field refl

-- so was one that has a conflict at a key
pub clash_asked : (prefer : Prefer) (base left right : Option (List Value)) (relation key : ℕ) (clash : Clash) → clash_where relation key (merge_at prefer base left right) ≡ clash ∷ [] → prefer ≡ Neither
clash_asked prefer base left right relation key clash e = from_clash prefer (merge_at prefer base left right) relation key clash (asked prefer base left right) e
