-- Writing pages, and the segments of each relation.
use Rattle.std.proofs.Common.{◌≡◌, ℕ, zero, suc, ◌+◌, ◌-◌, ◌*◌, ◌<◌, ◌≤◌, List, [], ◌∷◌, ◌++◌, length, get_or, take, drop, refl, sym, ap, ap₂, subst, ◌∙◌, append_assoc, arith, inl, inr}
use Rattle.std.proofs.lemmas.Bool.{cases_lt, lt-ltb, le-ltb}
use Rattle.std.proofs.lemmas.List.{length-drop, append-nil, drop_more, drop-drop, take_all, nil_from_length}
use Rattle.db_value.specs.declared.record.Record.{Record}
use Rattle.db_value.specs.declared.schema.Relation.{Relation}
use Rattle.record_page.specs.Page.{Rows, capacity, page_bytes as page_text}
use Rattle.segment.specs.Pages.{page_of}
use Rattle.image_text.specs.declared.image.SegmentPart.{SegmentPart}
use Rattle.image_text.specs.Reading.{on_page}
use Rattle.image_text.specs.Spelling.{FitsSegments, AllFit, widths_of, counted, page_bytes, pages_bytes, segment_bytes, segments_bytes}

-- the records of the next page, and those after them
taken : (ws : List ℕ) (xs : List Record) → take (on_page ws (length xs)) xs ≡ take (capacity ws) xs
taken ws xs = elim (cases_lt (length xs) (capacity ws)) [
  | inl lt ↦ rw (lt-ltb (length xs) (capacity ws) lt) (take_all (length xs) xs (omega arith) ∙ sym (take_all (capacity ws) xs (omega (arith, lt))))
  | inr le ↦ rw (le-ltb (length xs) (capacity ws) le) refl
]

left : (ws : List ℕ) (xs : List Record) → drop (on_page ws (length xs)) xs ≡ drop (capacity ws) xs
left ws xs = elim (cases_lt (length xs) (capacity ws)) [
  | inl lt ↦ rw (lt-ltb (length xs) (capacity ws) lt)
      (nil_from_length (drop (length xs) xs) (omega (arith, length-drop (length xs) xs)) ∙ sym (nil_from_length (drop (capacity ws) xs) (omega (arith, length-drop (capacity ws) xs, lt))))
  | inr le ↦ rw (le-ltb (length xs) (capacity ws) le) refl
]

-- one page more
pub page_next : (out new total : List ℕ) (all : Rows) (pages i : ℕ) → i < pages → new ≡ out ++ page_text (page_of all i)
    → out ++ pages_bytes all.widths (pages - i) (drop (i * capacity all.widths) all.records) ≡ total → new ++ pages_bytes all.widths (pages - (i + 1)) (drop ((i + 1) * capacity all.widths) all.records) ≡ total
unfolding page_bytes
page_next out new total all pages i lt e so_far =
    let ws : List ℕ = all.widths in
    let c : ℕ = capacity ws in
    let rest : List Record = drop (i * c) all.records in
    let k : pages - i ≡ suc (pages - (i + 1)) = omega arith in
    let n : i * c + c ≡ (i + 1) * c = omega arith in
    let behind : drop (on_page ws (length rest)) rest ≡ drop ((i + 1) * c) all.records = left ws rest ∙ drop-drop c (i * c) all.records ∙ ap (λ (m : ℕ). drop m all.records) n in
    let one : pages_bytes ws (pages - i) rest ≡ page_bytes ws (take c rest) ++ pages_bytes ws (pages - (i + 1)) (drop ((i + 1) * c) all.records) =
    ap (λ (m : ℕ). pages_bytes ws m rest) k
    ∙ ap₂ (λ (xs ys : List Record). page_bytes ws xs ++ pages_bytes ws (pages - (i + 1)) ys) (taken ws rest) behind in
    ap (λ (l : List ℕ). l ++ pages_bytes ws (pages - (i + 1)) (drop ((i + 1) * c) all.records)) e
    ∙ append_assoc out (page_bytes ws (take c rest)) (pages_bytes ws (pages - (i + 1)) (drop ((i + 1) * c) all.records))
    ∙ ap (λ (l : List ℕ). out ++ l) (sym one) ∙ so_far

pub no_page : (out total : List ℕ) (ws : List ℕ) (pages i : ℕ) (rest : List Record) → pages ≤ i → out ++ pages_bytes ws (pages - i) rest ≡ total → out ≡ total
no_page out total ws pages i rest le so_far =
    let k : pages - i ≡ 0 = omega arith in
    let none : pages_bytes ws (pages - i) rest ≡ [] = ap (λ (m : ℕ). pages_bytes ws m rest) k in
    sym (append-nil out) ∙ ap (λ (l : List ℕ). out ++ l) (sym none) ∙ so_far

-- the segments of a relation fit it
pub fits_here : (rs : List Relation) (sss : List (List SegmentPart)) (i : ℕ) (r : Relation) (ss : List SegmentPart) → AllFit rs sss → i < length rs → length sss ≡ length rs → r ≡ get_or rs i r → ss ≡ get_or sss i ss → FitsSegments (widths_of r) ss
fits_here [] sss i r ss fit lt same here there = absurd (omega (arith, lt))
fits_here (x ∷ rs) [] i r ss fit lt same here there = absurd (omega (arith, same))
fits_here (x ∷ rs) (s ∷ sss) zero r ss fit lt same here there = subst (λ (y : Relation). FitsSegments (widths_of y) ss) (sym here) (subst (FitsSegments (widths_of x)) (sym there) fit.0)
fits_here (x ∷ rs) (s ∷ sss) (suc i) r ss fit lt same here there = fits_here rs sss i r ss fit.1 (omega (arith, lt)) (omega (arith, same)) here there

-- one relation more
pub part_more : (out new total : List ℕ) (rs : List Relation) (sss : List (List SegmentPart)) (i : ℕ) (r : Relation) (ss : List SegmentPart) → i < length rs → length sss ≡ length rs
    → r ≡ get_or rs i r → ss ≡ get_or sss i ss → new ≡ out ++ counted (segment_bytes (widths_of r)) ss
    → out ++ segments_bytes (drop i rs) (drop i sss) ≡ total → new ++ segments_bytes (drop (i + 1) rs) (drop (i + 1) sss) ≡ total
part_more out new total rs sss i r ss lt same here there e so_far =
    let a : drop i rs ≡ r ∷ drop (i + 1) rs = drop_more rs i r lt ∙ ap (λ (x : Relation). x ∷ drop (i + 1) rs) (sym here) in
    let b : drop i sss ≡ ss ∷ drop (i + 1) sss = drop_more sss i ss (omega (arith, lt, same)) ∙ ap (λ (x : List SegmentPart). x ∷ drop (i + 1) sss) (sym there) in
    let one : out ++ segments_bytes (drop i rs) (drop i sss) ≡ new ++ segments_bytes (drop (i + 1) rs) (drop (i + 1) sss) =
    rw (a, b, e) (sym (append_assoc out (counted (segment_bytes (widths_of r)) ss) (segments_bytes (drop (i + 1) rs) (drop (i + 1) sss)))) in
    sym one ∙ so_far

pub no_part : (out total : List ℕ) (rs : List Relation) (sss : List (List SegmentPart)) (i : ℕ) → length rs ≤ i → out ++ segments_bytes (drop i rs) (drop i sss) ≡ total → out ≡ total
no_part out total rs sss i le so_far =
    let none : drop i rs ≡ [] = nil_from_length (drop i rs) (omega (arith, length-drop i rs)) in
    let one : out ++ segments_bytes (drop i rs) (drop i sss) ≡ out = rw none (append-nil out) in
    sym one ∙ so_far
