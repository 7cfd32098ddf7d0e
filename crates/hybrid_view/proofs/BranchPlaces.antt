-- A new branch has its keys where its origin has them, so it takes over the index as it is.
use Rattle.std.proofs.Common.{◌≡◌, ℕ, suc, ◌<◌, Bool, true, false, List, [], ◌∷◌, ◌++◌, length, Option, Some, None, refl, arith, ap, sym, ◌∙◌}
use Rattle.std.specs.List.{flat_map}
use Rattle.db_value.specs.declared.record.Record.{Record}
use Rattle.db_store.specs.Layout.{Segment, Row, differ, has, bit, slots_where, records_at, head_row}
use Rattle.db_store.specs.LayoutGrowth.{row_of, carried, segments_with, new_head, rows_begun}
use Rattle.db_store.specs.LaidOut.{IsRow, AreRows}
use Rattle.db_store.proofs.BitLemmas.{has_where}
use Rattle.db_store.proofs.CommitLaw.{first_is, rest_are}
use Rattle.db_store.proofs.LayoutLaw.{with_same, head_new}
use Rattle.hybrid_view.specs.Live.{slot_in, place_or}
use Rattle.hybrid_view.specs.RowPlaces.{row_slot, place_in_rows}
use Rattle.hybrid_view.proofs.PlaceLemmas.{slot_same}

abbrev or_place : Option (ℕ × ℕ) → Option (ℕ × ℕ) → Option (ℕ × ℕ)
or_place None o = o
or_place (Some x) o = Some x

or_nothing : (o : Option (ℕ × ℕ)) → or_place o None ≡ o
or_nothing None = refl
or_nothing (Some x) = refl

places_append : (ss : List Segment) (n : ℕ) (xs ys : List Row) (key : ℕ) → place_in_rows ss n (xs ++ ys) key ≡ or_place (place_in_rows ss n xs key) (place_in_rows ss n ys key)
places_append ss n [] ys key = refl
places_append ss n (x ∷ xs) ys key = by (row_slot ss n x key) (places_append ss n xs ys key)
  where
    by : (o : Option ℕ) → place_in_rows ss n (xs ++ ys) key ≡ or_place (place_in_rows ss n xs key) (place_in_rows ss n ys key) → place_or x.segment o (place_in_rows ss n (xs ++ ys) key) ≡ or_place (place_or x.segment o (place_in_rows ss n xs key)) (place_in_rows ss n ys key)
    by None e = e
    by (Some s) e = refl

slot_false : (slot : ℕ) (xs : List Record) (key : ℕ) → slot_in slot xs (λ s. false) key ≡ None
slot_false slot [] key = refl
slot_false slot (x ∷ xs) key = slot_false (suc slot) xs key

right : (b : Bool) → differ b false ≡ b
right true = refl
right false = refl

row_begun : (ss : List Segment) (segment : ℕ) (slots : List ℕ) (key : ℕ) → place_in_rows ss 0 (row_of segment slots) key ≡ place_or segment (slot_in 0 (records_at ss segment) (has slots) key) None
row_begun ss segment [] key = sym (ap (λ o. place_or segment o None) (slot_same 0 (records_at ss segment) (has []) (λ s. false) key (λ s h l. refl) ∙ slot_false 0 (records_at ss segment) key))
row_begun ss segment (x ∷ xs) key = ap (λ o. place_or segment o None) (slot_same 0 (records_at ss segment) (bit (record { segment = segment; from = 0; deltas = (x ∷ xs) ∷ [] }) 0) (has (x ∷ xs)) key (λ s h l. right (has (x ∷ xs) s)))

carried_place : (old new : List Segment) (count n : ℕ) (row : Row) (key : ℕ) → IsRow old count row → records_at new row.segment ≡ records_at old row.segment → place_in_rows new 0 (carried old n row) key ≡ place_or row.segment (row_slot old n row key) None
carried_place old new count n row key is same =
    row_begun new row.segment (slots_where (bit row n) (length (records_at old row.segment))) key
    ∙ ap (λ xs. place_or row.segment (slot_in 0 xs (has (slots_where (bit row n) (length (records_at old row.segment)))) key) None) same
    ∙ ap (λ o. place_or row.segment o None) (slot_same 0 (records_at old row.segment) (has (slots_where (bit row n) (length (records_at old row.segment)))) (bit row n) key (λ s h l. has_where (bit row n) (length (records_at old row.segment)) s (omega (arith, l))))

all_carried : (old new : List Segment) (count n : ℕ) (rows : List Row) (key : ℕ) → AreRows old count rows → ((s : ℕ) → s < length old → records_at new s ≡ records_at old s) → place_in_rows new 0 (flat_map (carried old n) rows) key ≡ place_in_rows old n rows key
all_carried old new count n [] key all same = refl
all_carried old new count n (row ∷ rows) key all same =
    let first = first_is old count row rows all in
    places_append new 0 (carried old n row) (flat_map (carried old n) rows) key
    ∙ ap (λ o. or_place o (place_in_rows new 0 (flat_map (carried old n) rows) key)) (carried_place old new count n row key first (same row.segment first.there))
    ∙ ap (or_place (place_or row.segment (row_slot old n row key) None)) (all_carried old new count n rows key (rest_are old count row rows all) same)
    ∙ both (row_slot old n row key)
  where
    both : (o : Option ℕ) → or_place (place_or row.segment o None) (place_in_rows old n rows key) ≡ place_or row.segment o (place_in_rows old n rows key)
    both None = refl
    both (Some s) = refl

-- the index of a branch at a position is that of a new branch of it
pub index_begun : (q : Bool) (b c n count : ℕ) (ss : List Segment) (rows : List Row) (key : ℕ) → AreRows ss count rows → place_in_rows (segments_with q b c ss) 0 (rows_begun q n ss rows) key ≡ place_in_rows ss n rows key
index_begun q b c n count ss rows key all =
    places_append (segments_with q b c ss) 0 (flat_map (carried ss n) rows) (head_row (new_head q ss) 0 ∷ []) key
    ∙ ap (or_place (place_in_rows (segments_with q b c ss) 0 (flat_map (carried ss n) rows) key)) (ap (λ xs. place_or (new_head q ss) (slot_in 0 xs (bit (head_row (new_head q ss) 0) 0) key) None) (head_new q b c ss))
    ∙ or_nothing (place_in_rows (segments_with q b c ss) 0 (flat_map (carried ss n) rows) key)
    ∙ all_carried ss (segments_with q b c ss) count n rows key all (with_same q b c ss)
