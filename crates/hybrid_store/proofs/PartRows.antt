-- Rows and segments of parts, one after another.
use Rattle.std.proofs.Common.{◌≡◌, ◌≢◌, ◌⊎◌, inl, inr, ℕ, suc, ◌+◌, ◌<◌, ◌≤◌, ◌==◌, Bool, true, false, cond, List, [], ◌∷◌, ◌++◌, length, map, filter, take, drop, reverse, set, get_or, refl, arith, ap, sym, ◌∙◌}
use Rattle.std.proofs.lemmas.Bool.{cases_eq, eq-eqb, ne_eqb}
use Rattle.std.proofs.lemmas.List.{take_more, append_assoc, append-nil, map-append, take-append-drop, reverse-append, length-append, length-set, get_or-set_other, get_or-set_same}
use Rattle.std.proofs.Math.Seq.{get_or-append_seam}
use Rattle.std.proofs.lemmas.List.Elements.{filter-append}
use Rattle.bit_rows.specs.Rows.{KeptRow, shortest_row}
use Rattle.bit_rows.specs.Segments.{KeptRecords, KeptList, no_list, list_at, most_segments}
use Rattle.hybrid_store.specs.declared.parts.RowPart.{RowPart}
use Rattle.hybrid_store.specs.declared.parts.SegmentPart.{SegmentPart}
use Rattle.hybrid_store.specs.Parts.{parts_of}
use Rattle.hybrid_store.proofs.NewLemmas.{each_more}
use Rattle.hybrid_store.specs.Assembled.{rows_among, rows_kept_from, segment_kept, with_part, AreLists}

-- ---- a list that is taken from the front on, where it stands the other way round

pub rest_next : {X : Type 0} (done rest new all : List X) (x : X) → rest ≡ new ++ x ∷ [] → done ++ reverse rest ≡ all → (done ++ x ∷ []) ++ reverse new ≡ all
rest_next done rest new all x e h = append_assoc done (x ∷ []) (reverse new) ∙ ap (λ ys. done ++ ys) (sym (ap reverse e ∙ reverse-append new (x ∷ []))) ∙ h

pub rest_at : {X : Type 0} (done rest new all : List X) (x d : X) → rest ≡ new ++ x ∷ [] → done ++ reverse rest ≡ all → x ≡ get_or all (length done) d
rest_at done rest new all x d e h =
    sym (get_or-append_seam done x (reverse new) d) ∙ ap (λ ys. get_or ys (length done) d) (sym (append_assoc done (x ∷ []) (reverse new)) ∙ rest_next done rest new all x e h)

pub rest_below : {X : Type 0} (done rest new all : List X) (x : X) → rest ≡ new ++ x ∷ [] → done ++ reverse rest ≡ all → length done < length all
rest_below done rest new all x e h =
    let n = ap (λ ys. length ys) (rest_next done rest new all x e h) in
    let a = length-append (done ++ x ∷ []) (reverse new) in
    let b = length-append done (x ∷ []) in
    omega (arith, n, a, b)

pub rest_none : {X : Type 0} (done rest all : List X) → length rest ≡ 0 → done ++ reverse rest ≡ all → done ≡ all
rest_none done [] all n h = sym (append-nil done) ∙ h
rest_none done (x ∷ rest) all n h = absurd (omega (arith, n))

-- ---- the rows of a segment

among_append : (b s : ℕ) (xs ys : List RowPart) → rows_among b s (xs ++ ys) ≡ rows_among b s xs ++ rows_among b s ys
among_append b s xs ys =
    ap (map (λ (x : RowPart). shortest_row s x.from x.deltas)) (filter-append (λ (x : RowPart). x.branch == b) xs ys)
    ∙ map-append (λ (x : RowPart). shortest_row s x.from x.deltas) (filter (λ (x : RowPart). x.branch == b) xs) (filter (λ (x : RowPart). x.branch == b) ys)

pub among_more : (b s : ℕ) (xs : List RowPart) (i : ℕ) (d : RowPart) → i < length xs → rows_among b s (take (i + 1) xs) ≡ rows_among b s (take i xs) ++ rows_among b s (get_or xs i d ∷ [])
among_more b s xs i d h = ap (rows_among b s) (take_more xs i d h) ∙ among_append b s (take i xs) (get_or xs i d ∷ [])

-- ---- the segments of a relation

parts_append : (r : ℕ) (xs ys : List SegmentPart) → parts_of r (xs ++ ys) ≡ parts_of r xs ++ parts_of r ys
parts_append r xs ys = filter-append (λ (s : SegmentPart). s.relation == r) xs ys

pub parts_more : (r : ℕ) (xs : List SegmentPart) (i : ℕ) (d : SegmentPart) → i < length xs → parts_of r (take (i + 1) xs) ≡ parts_of r (take i xs) ++ parts_of r (get_or xs i d ∷ [])
parts_more r xs i d h = ap (parts_of r) (take_more xs i d h) ∙ parts_append r (take i xs) (get_or xs i d ∷ [])

pub parts_fewer : (r : ℕ) (xs : List SegmentPart) (i : ℕ) → length (parts_of r (take i xs)) ≤ length (parts_of r xs)
parts_fewer r xs i =
    let e = ap (λ (ys : List SegmentPart). length (parts_of r ys)) (take-append-drop i xs) in
    let p = ap (λ (ys : List SegmentPart). length ys) (parts_append r (take i xs) (drop i xs)) in
    let n = length-append (parts_of r (take i xs)) (parts_of r (drop i xs)) in
    omega (arith, e, p, n)

-- those at the front are no more
pub parts_front : (r : ℕ) (xs ys all : List SegmentPart) → xs ++ ys ≡ all → length (parts_of r xs) ≤ length (parts_of r all)
parts_front r xs ys all e =
    let a = ap (λ (zs : List SegmentPart). length (parts_of r zs)) e in
    let p = ap (λ (zs : List SegmentPart). length zs) (parts_append r xs ys) in
    let n = length-append (parts_of r xs) (parts_of r ys) in
    omega (arith, a, p, n)

kept_append : (b n : ℕ) (xs ys : List SegmentPart) → rows_kept_from b n (xs ++ ys) ≡ rows_kept_from b n xs ++ rows_kept_from b (n + length xs) ys
kept_append b n [] ys = ap (λ m. rows_kept_from b m ys) (omega arith)
kept_append b n (x ∷ xs) ys =
    ap (λ (zs : List KeptRow). rows_among b n x.rows ++ zs) (kept_append b (suc n) xs ys ∙ ap (λ m. rows_kept_from b (suc n) xs ++ rows_kept_from b m ys) (omega arith))
    ∙ sym (append_assoc (rows_among b n x.rows) (rows_kept_from b (suc n) xs) (rows_kept_from b (n + length (x ∷ xs)) ys))

pub rows_more : (b r : ℕ) (xs : List SegmentPart) (i : ℕ) (d : SegmentPart) → i < length xs
    → rows_kept_from b 0 (parts_of r (take (i + 1) xs)) ≡ rows_kept_from b 0 (parts_of r (take i xs)) ++ rows_kept_from b (length (parts_of r (take i xs))) (parts_of r (get_or xs i d ∷ []))
rows_more b r xs i d h =
    ap (rows_kept_from b 0) (parts_more r xs i d h)
    ∙ kept_append b 0 (parts_of r (take i xs)) (parts_of r (get_or xs i d ∷ []))
    ∙ ap (λ m. rows_kept_from b 0 (parts_of r (take i xs)) ++ rows_kept_from b m (parts_of r (get_or xs i d ∷ []))) (omega arith)

pub count_more : (r : ℕ) (xs : List SegmentPart) (i : ℕ) (d : SegmentPart) → i < length xs → length (parts_of r (take (i + 1) xs)) ≡ length (parts_of r (take i xs)) + length (parts_of r (get_or xs i d ∷ []))
count_more r xs i d h = ap (λ (ys : List SegmentPart). length ys) (parts_more r xs i d h) ∙ length-append (parts_of r (take i xs)) (parts_of r (get_or xs i d ∷ []))

-- ---- the lists

parts_one : (r : ℕ) (x : SegmentPart) (t : Bool) → (x.relation == r) ≡ t → parts_of r (x ∷ []) ≡ cond t (x ∷ []) []
parts_one r x t e = ap (λ b. cond b (x ∷ []) []) e

pub lists_put : (width : ℕ) (done : List SegmentPart) (lists : List KeptList) (x : SegmentPart) → AreLists width done lists → x.relation < width
    → AreLists width (done ++ x ∷ []) (set lists x.relation (with_part (get_or lists x.relation no_list) x))
lists_put width done lists x is h = record {
  count = length-set lists x.relation (with_part (get_or lists x.relation no_list) x) ∙ is.count;
  each = λ r lt. each r lt (cases_eq r x.relation);
  room = λ r lt. room r lt (cases_eq r x.relation);
}
  where
    there : x.relation < length lists
    there = let n = is.count in omega (arith, n, h)

    more : KeptList
    more = with_part (get_or lists x.relation no_list) x

    each : (r : ℕ) → r < width → (r ≡ x.relation) ⊎ (r ≢ x.relation) → list_at (set lists x.relation more) r ≡ map segment_kept (parts_of r (done ++ x ∷ []))
    each r lt (inl e) =
        ap (λ k. (get_or (set lists x.relation more) k no_list).all) e
        ∙ ap (λ (k : KeptList). k.all) (get_or-set_same lists x.relation more no_list there)
        ∙ ap (λ (ks : List KeptRecords). ks ++ segment_kept x ∷ []) (is.each x.relation h)
        ∙ sym (map-append segment_kept (parts_of x.relation done) (x ∷ []))
        ∙ ap (λ (ss : List SegmentPart). map segment_kept (parts_of x.relation done ++ ss)) (sym (parts_one x.relation x true (eq-eqb x.relation x.relation refl)))
        ∙ ap (map segment_kept) (sym (parts_append x.relation done (x ∷ [])))
        ∙ ap (λ k. map segment_kept (parts_of k (done ++ x ∷ []))) (sym e)
    each r lt (inr n) =
        ap (λ (k : KeptList). k.all) (get_or-set_other lists x.relation r more no_list n)
        ∙ is.each r lt
        ∙ ap (map segment_kept) (sym (append-nil (parts_of r done)))
        ∙ ap (λ (ss : List SegmentPart). map segment_kept (parts_of r done ++ ss)) (sym (parts_one r x false (ne_eqb x.relation r (λ e. n (sym e)))))
        ∙ ap (map segment_kept) (sym (parts_append r done (x ∷ [])))

    room : (r : ℕ) → r < width → (r ≡ x.relation) ⊎ (r ≢ x.relation) → most_segments ≤ (get_or (set lists x.relation more) r no_list).room
    room r lt (inl e) =
        let s = ap (λ (k : KeptList). k.room) (ap (λ k. get_or (set lists x.relation more) k no_list) e ∙ get_or-set_same lists x.relation more no_list there) in
        let m = is.room x.relation h in
        omega (arith, s, m)
    room r lt (inr n) =
        let s = ap (λ (k : KeptList). k.room) (get_or-set_other lists x.relation r more no_list n) in
        let m = is.room r lt in
        omega (arith, s, m)

-- one more relation, without segments
pub lists_more : (width : ℕ) (lists : List KeptList) (k : KeptList) → AreLists width [] lists → k.all ≡ [] → most_segments ≤ k.room → AreLists (width + 1) [] (lists ++ k ∷ [])
lists_more width lists k is none room = record {
  count = let n = is.count in let p = length-append lists (k ∷ []) in omega (arith, n, p);
  each = each_more (λ r (x : KeptList). x.all ≡ []) lists k no_list width is.count is.each none;
  room = each_more (λ r (x : KeptList). most_segments ≤ x.room) lists k no_list width is.count is.room room;
}
