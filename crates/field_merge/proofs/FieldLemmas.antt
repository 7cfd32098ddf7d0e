-- The merge of fields, column by column.
use Rattle.std.proofs.Common.{◌≡◌, ℕ, ◌+◌, ◌<◌, List, [], ◌∷◌, ◌++◌, length, take, drop, set, Option, Some, None, Result, Ok, Err, pos, refl, ap, sym, ◌∙◌, arith}
use Rattle.std.proofs.lemmas.List.{drop_more, take_more, take_more_set, drop-set-lt, length-set, append_assoc}
use Rattle.std.proofs.lemmas.Grind.{drop_more_same}
use Rattle.db_value.specs.Value.{Value, field_at}
use Rattle.db_value.specs.declared.value.Value.TheVariants.{Number}
use Rattle.db_value.specs.declared.condition.Prefer.{Prefer}
use Rattle.field_merge.specs.Merge.{merge_field, merge_fields, field_then, first_field, other_fields}
use Rattle.field_merge.specs.Rows.{field_if, AreAsLong}

abbrev zero_value : Value
zero_value = Number (pos 0)

-- fields before the others
abbrev pub fields_then : List Value → Result (List Value) ℕ → Result (List Value) ℕ
fields_then vs (Ok us) = Ok (vs ++ us)
fields_then vs (Err column) = Err column

-- the base's fields from a column on
abbrev pub from_column : ℕ → Option (List Value) → Option (List Value)
from_column column None = None
from_column column (Some fields) = Some (drop column fields)

-- the merge from a column on
abbrev pub rest_of : Prefer → Option (List Value) → List Value → List Value → ℕ → Result (List Value) ℕ
rest_of prefer base left right column = merge_fields prefer column (from_column column base) (drop column left) (drop column right)

first_is : (base : Option (List Value)) (left : List Value) (column : ℕ) → AreAsLong base left → column < length left → first_field (from_column column base) ≡ field_if base column
first_is None left column a h = refl
first_is (Some fields) left column a h = ap (λ (vs : List Value). first_field (Some vs)) (drop_more fields column zero_value (omega (arith, a, h)))

others_are : (base : Option (List Value)) (left : List Value) (column : ℕ) → AreAsLong base left → column < length left → other_fields (from_column column base) ≡ from_column (column + 1) base
others_are None left column a h = refl
others_are (Some fields) left column a h = ap (λ (vs : List Value). other_fields (Some vs)) (drop_more fields column zero_value (omega (arith, a, h)))

-- one column and the rest
rest_more : (prefer : Prefer) (base : Option (List Value)) (left right : List Value) (column : ℕ) → AreAsLong base left → length right ≡ length left → column < length left
    → rest_of prefer base left right column ≡ field_then column (merge_field prefer (field_if base column) (field_at left column) (field_at right column)) (rest_of prefer base left right (column + 1))
rest_more prefer base left right column a r h =
    ap (λ (ls : List Value). merge_fields prefer column (from_column column base) ls (drop column right)) (drop_more left column zero_value h)
    ∙ ap (λ (rs : List Value). merge_fields prefer column (from_column column base) (field_at left column ∷ drop (column + 1) left) rs) (drop_more right column zero_value (omega (arith, r, h)))
    ∙ (λ i. field_then column (merge_field prefer (first_is base left column a h i) (field_at left column) (field_at right column)) (merge_fields prefer (column + 1) (others_are base left column a h i) (drop (column + 1) left) (drop (column + 1) right)))

then_one : (vs : List Value) (column : ℕ) (v : Value) (others : Result (List Value) ℕ) → fields_then vs (field_then column (Some v) others) ≡ fields_then (vs ++ v ∷ []) others
then_one vs column v (Ok us) = ap Ok (sym (append_assoc vs (v ∷ []) us))
then_one vs column v (Err later) = refl

-- a column that isn't in conflict is one field more
column_more : (prefer : Prefer) (base : Option (List Value)) (left right : List Value) (column : ℕ) (vs us : List Value) (v : Value) → AreAsLong base left → length right ≡ length left → column < length left
    → merge_field prefer (field_if base column) (field_at left column) (field_at right column) ≡ Some v → us ≡ vs ++ v ∷ []
    → fields_then us (rest_of prefer base left right (column + 1)) ≡ fields_then vs (rest_of prefer base left right column)
column_more prefer base left right column vs us v a r h is more =
    ap (λ (ws : List Value). fields_then ws (rest_of prefer base left right (column + 1))) more
    ∙ sym (then_one vs column v (rest_of prefer base left right (column + 1)))
    ∙ ap (λ (o : Option Value). fields_then vs (field_then column o (rest_of prefer base left right (column + 1)))) (sym is)
    ∙ ap (fields_then vs) (sym (rest_more prefer base left right column a r h))

same_head : (x y : Value) (xs ys : List Value) → x ∷ xs ≡ y ∷ ys → x ≡ y
same_head x y xs ys e = cc

-- left's fields are those of the columns that aren't decided yet, and the fields so far with the merge of the others are all
pub record AreSoFar (prefer : Prefer) (base : Option (List Value)) (left right : List Value) (column : ℕ) (fields : List Value) : Type 0 where
  pub long : length fields ≡ length left
  pub rest : drop column fields ≡ drop column left
  pub all : fields_then (take column fields) (rest_of prefer base left right column) ≡ merge_fields prefer 0 base left right

-- a column that keeps left's value
pub left_kept : (prefer : Prefer) (base : Option (List Value)) (left right : List Value) (column : ℕ) (fields : List Value) → AreAsLong base left → length right ≡ length left → column < length left
    → AreSoFar prefer base left right column fields → merge_field prefer (field_if base column) (field_at left column) (field_at right column) ≡ Some (field_at left column) → AreSoFar prefer base left right (column + 1) fields
left_kept prefer base left right column fields a r h s is =
    let one : field_at fields column ≡ field_at left column = same_head _ _ _ _ (sym (drop_more fields column zero_value (omega (arith, s.long, h))) ∙ s.rest ∙ drop_more left column zero_value h) in
    let more : take (column + 1) fields ≡ take column fields ++ field_at left column ∷ [] = take_more fields column zero_value (omega (arith, s.long, h)) ∙ ap (λ (v : Value). take column fields ++ v ∷ []) one in
    record {
      long = s.long;
      rest = drop_more_same fields left column s.rest;
      all = column_more prefer base left right column (take column fields) (take (column + 1) fields) (field_at left column) a r h is more ∙ s.all;
    }

-- a column that takes right's value
pub right_taken : (prefer : Prefer) (base : Option (List Value)) (left right : List Value) (column : ℕ) (fields : List Value) → AreAsLong base left → length right ≡ length left → column < length left
    → AreSoFar prefer base left right column fields → merge_field prefer (field_if base column) (field_at left column) (field_at right column) ≡ Some (field_at right column) → AreSoFar prefer base left right (column + 1) (set fields column (field_at right column))
right_taken prefer base left right column fields a r h s is = record {
  long = length-set fields column (field_at right column) ∙ s.long;
  rest = drop-set-lt (column + 1) fields column (field_at right column) (omega arith) ∙ drop_more_same fields left column s.rest;
  all = column_more prefer base left right column (take column fields) (take (column + 1) (set fields column (field_at right column))) (field_at right column) a r h is (take_more_set fields column (field_at right column) (omega (arith, s.long, h))) ∙ s.all;
}
