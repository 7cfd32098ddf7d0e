-- Texts that are the same, and segments that are spelled one more at a time.
use Rattle.std.proofs.Common.{◌≡◌, ℕ, ◌+◌, ◌<◌, ◌&&◌, nat_eq, Bool, true, List, [], ◌∷◌, ◌++◌, length, drop, refl, sym, ◌∙◌, ap, arith, append_assoc}
use Rattle.std.proofs.lemmas.Bool.{and_from, eq-eqb}
use Rattle.std.proofs.lemmas.List.{drop_more}
use Rattle.db_value.specs.Text.{same}
use Rattle.db_value.specs.declared.schema.Relation.{Relation}
use Rattle.new_image.specs.Image.{segment_bytes, segments_bytes}

pub same_self : (xs : List ℕ) → same xs xs ≡ true
same_self [] = refl
same_self (x ∷ xs) = and_from (nat_eq x x) (same xs xs) (eq-eqb x x refl) (same_self xs)

pub same_flip : (a b : List ℕ) → same a b ≡ same b a
same_flip [] [] = refl
same_flip [] (y ∷ ys) = refl
same_flip (x ∷ xs) [] = refl
same_flip (x ∷ xs) (y ∷ ys) = ap (λ (q : Bool). q && same xs ys) (eq_flip x y) ∙ ap (λ (q : Bool). nat_eq y x && q) (same_flip xs ys)
  where
    eq_flip : (x y : ℕ) → nat_eq x y ≡ nat_eq y x
    eq_flip x y = search arith

pub segments_put : (out new : List ℕ) (rs : List Relation) (i : ℕ) (d : Relation) → i < length rs → new ≡ out ++ segment_bytes → new ++ segments_bytes (drop (i + 1) rs) ≡ out ++ segments_bytes (drop i rs)
segments_put out new rs i d lt is =
    ap (λ (l : List ℕ). l ++ segments_bytes (drop (i + 1) rs)) is ∙ append_assoc out segment_bytes (segments_bytes (drop (i + 1) rs))
    ∙ ap (λ (l : List Relation). out ++ segments_bytes l) (sym (drop_more rs i d lt))
