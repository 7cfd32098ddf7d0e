-- The segments of relations, one relation after another.
use Rattle.std.proofs.Common.{◌≡◌, ℕ, zero, suc, ◌+◌, ◌<◌, List, [], ◌∷◌, ◌++◌, map, take, length, get_or, refl, sym, ap, subst, ◌∙◌, arith, append_assoc}
use Rattle.std.specs.List.{All}
use Rattle.std.proofs.lemmas.List.{append-nil}
use Rattle.db_value.specs.Relations.{widths_at, no_relation}
use Rattle.db_value.specs.declared.schema.Relation.{Relation}
use Rattle.hybrid_store.specs.declared.parts.SegmentPart.{SegmentPart as SegmentLaid}
use Rattle.image_text.specs.declared.image.SegmentPart.{SegmentPart}
use Rattle.db_image.specs.Parts.{segment_with, segment_part, segments_from, Fits, AllFit}

abbrev none_read : List SegmentPart
none_read = []

from_more : (relations : List Relation) (k r : ℕ) (sss : List (List SegmentPart)) → r < length sss
    → segments_from relations k (take (suc r) sss) ≡ segments_from relations k (take r sss) ++ map (segment_part relations (k + r)) (get_or sss r none_read)
from_more relations k r [] l = absurd (omega (arith, l))
from_more relations k zero (ss ∷ sss) l = let e : k ≡ k + 0 = omega arith in append-nil (map (segment_part relations k) ss) ∙ ap (λ m. map (segment_part relations m) ss) e
from_more relations k (suc r) (ss ∷ sss) l =
    let e : suc k + r ≡ k + suc r = omega arith in
    ap (λ x. map (segment_part relations k) ss ++ x) (from_more relations (suc k) r sss (omega (arith, l)) ∙ ap (λ m. segments_from relations (suc k) (take r sss) ++ map (segment_part relations m) (get_or sss r none_read)) e)
    ∙ sym (append_assoc (map (segment_part relations k) ss) (segments_from relations (suc k) (take r sss)) (map (segment_part relations (k + suc r)) (get_or sss r none_read)))

pub goes : (relations : List Relation) (r : ℕ) (ws : List ℕ) (sss : List (List SegmentPart)) (old new : List SegmentLaid) → r < length sss → ws ≡ widths_at relations r
    → old ≡ segments_from relations 0 (take r sss) → new ≡ old ++ map (segment_with r ws) (get_or sss r none_read) → new ≡ segments_from relations 0 (take (r + 1) sss)
goes relations r ws sss old new l c o n =
    let e : 0 + r ≡ r = omega arith in
    let s : r + 1 ≡ suc r = omega arith in
    n
    ∙ (λ i. o i ++ map (segment_with r (c i)) (get_or sss r none_read))
    ∙ ap (λ m. segments_from relations 0 (take r sss) ++ map (segment_part relations m) (get_or sss r none_read)) (sym e)
    ∙ sym (from_more relations 0 r sss l)
    ∙ ap (λ m. segments_from relations 0 (take m sss)) (sym s)

same_default : {X : Type 0} (xs : List X) (i : ℕ) (d e : X) → i < length xs → get_or xs i d ≡ get_or xs i e
same_default [] i d e l = absurd (omega (arith, l))
same_default (x ∷ xs) zero d e l = refl
same_default (x ∷ xs) (suc i) d e l = same_default xs i d e (omega (arith, l))

pub list_is : (sss : List (List SegmentPart)) (r : ℕ) (x ss : List SegmentPart) → r < length sss → ss ≡ get_or sss r x → ss ≡ get_or sss r none_read
list_is sss r x ss l e = e ∙ same_default sss r x none_read l

pub fit_here : (relations : List Relation) (sss : List (List SegmentPart)) (r : ℕ) (ws : List ℕ) (ss : List SegmentPart) → AllFit relations sss → r < length sss → ws ≡ widths_at relations r → ss ≡ get_or sss r none_read → All (Fits ws) ss
fit_here relations sss r ws ss all l c e = subst (λ n. All (Fits n) ss) (sym c) (subst (All (Fits (widths_at relations r))) (sym e) (all r l))
