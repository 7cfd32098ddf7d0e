-- Fields have one spelling.
use Rattle.std.proofs.Common.{◌≡◌, ℕ, List, refl, sym, subst, ap, ◌∙◌, true}
use Rattle.std.specs.Prelude.{nat_eq}
use Rattle.std.specs.Cmp.{both_ways, eq_by_cmp_equiv, nat_cmp_total}
use Rattle.std.specs.Cmp.Lexicographic.{pointwise, lists_ties, texts_ties, lists_total}
use Rattle.std.specs.FinMap.{IsAntisymmetric, nat_cmp-IsAntisymmetric, int_cmp-IsAntisymmetric, slice_cmp-IsAntisymmetric}
use Rattle.std.proofs.lemmas.Map.Views.{tells_apart}
use Rattle.db_value.specs.Value.{Value, value_cmp, fields_eq, fields_cmp}
use Rattle.db_value.specs.ValueOrder.{fields_equal}
use Rattle.db_value.specs.declared.value.Value.TheVariants.{Number, Text}
use Rattle.db_value.specs.Spelling.{IsSpelling, fields_in, fields_bytes}

-- values that compare alike are one
pub value_exact : IsAntisymmetric value_cmp
value_exact (Number a) (Number b) e = ap (λ n. Number n) (int_cmp-IsAntisymmetric a b e)
value_exact (Number a) (Text t) e = absurd cc
value_exact (Text s) (Number b) e = absurd cc
value_exact (Text s) (Text t) e = ap (λ x. Text x) (slice_cmp-IsAntisymmetric nat_cmp-IsAntisymmetric s t e)

pub fields_exact : IsAntisymmetric fields_cmp
fields_exact = slice_cmp-IsAntisymmetric value_exact

-- fields that are equal are one
pub fields_is : (a b : List Value) → fields_eq a b ≡ true → a ≡ b
fields_is a b e = tells_apart fields_exact a b (sym (lists_ties value_cmp (λ x y. refl) a b) ∙ e)

pub bytes_is : (a b : List ℕ) → pointwise nat_eq a b ≡ true → a ≡ b
bytes_is a b e = tells_apart (slice_cmp-IsAntisymmetric nat_cmp-IsAntisymmetric) a b (sym (texts_ties a b) ∙ e)

pub bytes_same : (a : List ℕ) → pointwise nat_eq a a ≡ true
bytes_same a = texts_ties a a ∙ (eq_by_cmp_equiv (lists_total nat_cmp_total)).refl a

-- so their bytes are equal exactly if they are
pub same_bytes : (a b : List ℕ) → IsSpelling a → IsSpelling b → pointwise nat_eq a b ≡ fields_eq (fields_in a) (fields_in b)
same_bytes a b p q = both_ways _ _
    (λ e. subst (λ (xs : List ℕ). fields_eq (fields_in a) (fields_in xs) ≡ true) (bytes_is a b e) (fields_equal.refl (fields_in a)))
    (λ e. let one : a ≡ b = p.same ∙ ap fields_bytes (fields_is (fields_in a) (fields_in b) e) ∙ sym q.same in subst (λ (xs : List ℕ). pointwise nat_eq a xs ≡ true) one (bytes_same a))
