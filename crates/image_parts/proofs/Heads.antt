-- Counting heads, segment by segment.
use Rattle.std.proofs.Common.{◌≡◌, ℕ, ◌+◌, ◌-◌, ◌<◌, ◌≤◌, Bool, true, false, cond, List, [], ◌∷◌, length, get_or, drop, refl, sym, ap, ◌∙◌, arith}
use Rattle.std.specs.Prelude.{◌==◌, set}
use Rattle.std.specs.List.{list_all}
use Rattle.std.proofs.lemmas.List.{drop_more, nil_from_length, length-drop}
use Rattle.image_text.specs.declared.image.SegmentPart.{SegmentPart}
use Rattle.image_parts.specs.Whole.{counts_from, one_more}

pub goes_on : (counts new : List ℕ) (ss : List SegmentPart) (i : ℕ) (s : SegmentPart) (total : List ℕ) → i < length ss → s ≡ get_or ss i s
    → new ≡ cond (s.head == 0) counts (set counts (s.head - 1) (one_more (get_or counts (s.head - 1) 0))) → counts_from counts (drop i ss) ≡ total → counts_from new (drop (i + 1) ss) ≡ total
unfolding counts_from
goes_on counts new ss i s total lt is made so_far =
    let split : drop i ss ≡ s ∷ drop (i + 1) ss = drop_more ss i s lt ∙ ap (λ (x : SegmentPart). x ∷ drop (i + 1) ss) (sym is) in
    let one : counts_from counts (drop i ss) ≡ counts_from new (drop (i + 1) ss) = rw (split, made) refl in
    sym one ∙ so_far

pub ends : (counts : List ℕ) (ss : List SegmentPart) (i : ℕ) (total : List ℕ) → length ss ≤ i → counts_from counts (drop i ss) ≡ total → counts ≡ total
unfolding counts_from
ends counts ss i total le so_far =
    let none : drop i ss ≡ [] = nil_from_length (drop i ss) (omega (arith, length-drop i ss)) in
    let one : counts_from counts (drop i ss) ≡ counts = rw none refl in
    sym one ∙ so_far

-- ---- a test of each item

pub all_goes : {A : Type 0} (p : A → Bool) (xs : List A) (i : ℕ) (x : A) (total : Bool) → i < length xs → x ≡ get_or xs i x → p x ≡ true → list_all p (drop i xs) ≡ total → list_all p (drop (i + 1) xs) ≡ total
all_goes p xs i x total lt is e so_far =
    let split : drop i xs ≡ x ∷ drop (i + 1) xs = drop_more xs i x lt ∙ ap (λ y. y ∷ drop (i + 1) xs) (sym is) in
    let one : list_all p (drop i xs) ≡ list_all p (drop (i + 1) xs) = rw (split, e) refl in
    sym one ∙ so_far

pub all_stops : {A : Type 0} (p : A → Bool) (xs : List A) (i : ℕ) (x : A) (total : Bool) → i < length xs → x ≡ get_or xs i x → p x ≡ false → list_all p (drop i xs) ≡ total → false ≡ total
all_stops p xs i x total lt is e so_far =
    let split : drop i xs ≡ x ∷ drop (i + 1) xs = drop_more xs i x lt ∙ ap (λ y. y ∷ drop (i + 1) xs) (sym is) in
    let one : list_all p (drop i xs) ≡ false = rw (split, e) refl in
    sym one ∙ so_far

pub all_ends : {A : Type 0} (p : A → Bool) (xs : List A) (i : ℕ) (total : Bool) → length xs ≤ i → list_all p (drop i xs) ≡ total → true ≡ total
all_ends p xs i total le so_far =
    let none : drop i xs ≡ [] = nil_from_length (drop i xs) (omega (arith, length-drop i xs)) in
    let one : list_all p (drop i xs) ≡ true = rw none refl in
    sym one ∙ so_far
