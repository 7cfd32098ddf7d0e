-- Rows with the versions that have them: as many as the rows, in their order.
use Rattle.std.proofs.Common.{◌≡◌, ◌∙◌, ◌<◌, ℕ, zero, suc, List, [], ◌∷◌, length, map, get_or, refl, ap, sym, arith, Option, Some, None}
use Rattle.std.specs.Prelude.{slice_get}
use Rattle.std.proofs.lemmas.List.{length-map}
use Rattle.db_value.specs.declared.record.Record.{Record}
use Rattle.db_value.specs.Marks.{alone, mark, marked_rows, AreMarks, marked_here}

mark_many : (rows : List Record) (ps : List (List ℕ)) → length ps ≡ length rows → length (mark rows ps) ≡ length rows
mark_many [] ps h = refl
mark_many (r ∷ rs) [] h = absurd (omega (arith, h))
mark_many (r ∷ rs) (p ∷ ps) h = ap suc (mark_many rs ps (omega (arith, h)))

pub many : (rows : List Record) (o : Option (List (List ℕ))) → AreMarks rows o → length (marked_rows rows o) ≡ length rows
many rows None h = length-map rows alone
many rows (Some ps) h = mark_many rows ps h

alone_here : (rows : List Record) (i : ℕ) (r : Record) → slice_get rows i ≡ Some r → (marked_here (map alone rows) i).row ≡ r
alone_here [] i r e = absurd cc
alone_here (x ∷ rows) zero r e = ap (λ (o : Option Record). elim o [ None ↦ x | Some y ↦ y ]) e
alone_here (x ∷ rows) (suc i) r e = alone_here rows i r e

mark_here : (rows : List Record) (ps : List (List ℕ)) (i : ℕ) (r : Record) → length ps ≡ length rows → slice_get rows i ≡ Some r → (marked_here (mark rows ps) i).row ≡ r
mark_here [] ps i r h e = absurd cc
mark_here (x ∷ rows) [] i r h e = absurd (omega (arith, h))
mark_here (x ∷ rows) (p ∷ ps) zero r h e = ap (λ (o : Option Record). elim o [ None ↦ x | Some y ↦ y ]) e
mark_here (x ∷ rows) (p ∷ ps) (suc i) r h e = mark_here rows ps i r (omega (arith, h)) e

pub row_here : (rows : List Record) (o : Option (List (List ℕ))) (i : ℕ) (r : Record) → AreMarks rows o → slice_get rows i ≡ Some r → (marked_here (marked_rows rows o) i).row ≡ r
row_here rows None i r h e = alone_here rows i r e
row_here rows (Some ps) i r h e = mark_here rows ps i r h e

-- ---- the versions of a row

alone_positions : (rows : List Record) (i : ℕ) → i < length (map alone rows) → (marked_here (map alone rows) i).positions ≡ 0 ∷ []
alone_positions [] i h = absurd (omega (arith, h))
alone_positions (x ∷ rows) zero h = refl
alone_positions (x ∷ rows) (suc i) h = alone_positions rows i (omega (arith, h))

mark_positions : (rows : List Record) (ps : List (List ℕ)) (i : ℕ) → length ps ≡ length rows → (marked_here (mark rows ps) i).positions ≡ get_or ps i []
mark_positions [] [] i h = refl
mark_positions [] (p ∷ ps) i h = absurd (omega (arith, h))
mark_positions (x ∷ rows) [] i h = absurd (omega (arith, h))
mark_positions (x ∷ rows) (p ∷ ps) zero h = refl
mark_positions (x ∷ rows) (p ∷ ps) (suc i) h = mark_positions rows ps i (omega (arith, h))

-- rows of the first version alone
pub positions_alone : (rows : List Record) (o : Option (List (List ℕ))) (i : ℕ) → o ≡ None → i < length (marked_rows rows o) → (marked_here (marked_rows rows o) i).positions ≡ 0 ∷ []
positions_alone rows None i e h = alone_positions rows i h
positions_alone rows (Some ps) i e h = absurd cc

-- as many lists of versions as rows
pub marks_many : (rows : List Record) (o : Option (List (List ℕ))) (ps : List (List ℕ)) → AreMarks rows o → o ≡ Some ps → length ps ≡ length (marked_rows rows o)
marks_many rows None ps h e = absurd cc
marks_many rows (Some qs) ps h e =
    let same : qs ≡ ps = ap (λ (a : Option (List (List ℕ))). elim a [ None ↦ qs | Some b ↦ b ]) e in
    sym (ap (λ (bs : List (List ℕ)). length bs) same) ∙ h ∙ sym (many rows (Some qs) h)

-- rows with their versions
pub positions_marked : (rows : List Record) (o : Option (List (List ℕ))) (ps : List (List ℕ)) (i : ℕ) → AreMarks rows o → o ≡ Some ps → (marked_here (marked_rows rows o) i).positions ≡ get_or ps i []
positions_marked rows None ps i h e = absurd cc
positions_marked rows (Some qs) ps i h e = mark_positions rows qs i h ∙ ap (λ (a : Option (List (List ℕ))). get_or (elim a [ None ↦ qs | Some b ↦ b ]) i []) e
