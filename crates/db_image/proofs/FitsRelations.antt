-- Segments that fit, relation by relation.
use Rattle.std.proofs.Common.{◌≡◌, ℕ, zero, suc, ◌<◌, List, [], ◌∷◌, length, get_or, arith}
use Rattle.db_value.specs.Relations.{widths_at}
use Rattle.db_value.specs.declared.schema.Relation.{Relation}
use Rattle.image_text.specs.declared.image.SegmentPart.{SegmentPart}
use Rattle.image_text.specs.Spelling.{FitsSegments, AllFit}

-- those of one relation
pub fit_at : (rs : List Relation) (sss : List (List SegmentPart)) → AllFit rs sss → (r : ℕ) → r < length rs → r < length sss → FitsSegments (widths_at rs r) (get_or sss r [])
fit_at [] sss all r h k = absurd (omega (arith, h))
fit_at (x ∷ rs) [] all r h k = absurd (omega (arith, k))
fit_at (x ∷ rs) (ss ∷ sss) all zero h k = all.0
fit_at (x ∷ rs) (ss ∷ sss) all (suc r) h k = fit_at rs sss all.1 r (omega (arith, h)) (omega (arith, k))

-- and of all
pub all_fit : (rs : List Relation) (sss : List (List SegmentPart)) → ((r : ℕ) → r < length rs → r < length sss → FitsSegments (widths_at rs r) (get_or sss r [])) → AllFit rs sss
all_fit [] sss f = tt
all_fit (x ∷ rs) [] f = tt
all_fit (x ∷ rs) (ss ∷ sss) f = (f 0 (omega arith) (omega arith), all_fit rs sss (λ r h k. f (suc r) (omega (arith, h)) (omega (arith, k))))
