-- From the parts of views to the rows of their tables.
use Rattle.std.proofs.Common.{◌≡◌, ℕ, ◌+◌, ◌<◌, Bool, true, false, cond, ◌||◌, List, [], ◌∷◌, ◌++◌, length, map, ap, sym, ◌∙◌, refl, subst, Option, Some, None}
use Rattle.std.specs.List.{All, AllByRecursion, IsDistinct, list_any, filter}
use Rattle.std.specs.List.Sorted.{IsStrictlySortedBy, IsSorted, IsPermutation}
use Rattle.std.specs.Ordering.{eq_by_cmp}
use Rattle.std.proofs.lemmas.List.{map-append}
use Rattle.std.proofs.lemmas.List.Elements.{recursion_from_All}
use Rattle.db_value.specs.Order.{record_eq, record_cmp}
use Rattle.db_value.proofs.OrderLemmas.{record_total, record_exact}
use Rattle.db_value.specs.declared.record.Record.{Record}
use Rattle.db_store.specs.Table.{Table, relation_at, rows_of}
use Rattle.db_store.specs.Parts.{Part, rows_in}
use Rattle.db_store.specs.Rows.{rows_where, marked, row_in_slot, row_if, kept_in_slots, kept_in_part, rows_found}
use Rattle.db_store.proofs.RowLemmas.{same_sorted, has_moved, eq_is, sorted_where, found_filtered, distinct_found}
use Rattle.multi_scan.specs.declared.places.Place.{Place}
use Rattle.multi_scan.specs.Found.{Found, joined, row_cmp, found_at, found_in_part, found_in_slots, found_in_parts, found_in_views, spread, spread_one, total, times, weigh, is_same, AreSame, AreInOrder}
use Rattle.multi_scan.specs.Places.{shown, part_of, places_in, found_at_places}
use Rattle.db_value.specs.declared.record.Marked.{Marked}
use Rattle.multi_scan.specs.Multi.{has, union_of, marked_in, union_marked, multi}
use Rattle.multi_scan.proofs.Union.{has_union, sorted_union, each_member}
use Rattle.multi_scan.proofs.Pairs.{pair, pairs_from, Alike, marked_pairs}
use Rattle.multi_scan.proofs.Totals.{total_append, total_moved}
use Rattle.multi_scan.proofs.PlaceLemmas.{places_at}
use Rattle.multi_scan.proofs.Shared.{at_places}
use Rattle.multi_scan.proofs.Joined.{spread_joined, times_ordered, strict_joined, strict_ordered, positions_ordered}

-- ---- what parts have, with the position of their view

at_position : (n : ℕ) (row : Option Record) → found_at n row ≡ map (pair n) (row_if row)
at_position n None = refl
at_position n (Some row) = refl

in_slots : (p : Record → Bool) (n : ℕ) (slots : List (Record × Bool)) → found_in_slots p n slots ≡ map (pair n) (kept_in_slots p slots)
in_slots p n [] = refl
in_slots p n (s ∷ ss) = (λ i. at_position n (row_in_slot p s) i ++ in_slots p n ss i) ∙ sym (map-append (pair n) (row_if (row_in_slot p s)) (kept_in_slots p ss))

in_parts : (p : Record → Bool) (n : ℕ) (parts : List Part) → found_in_parts p n parts ≡ map (pair n) (rows_found p parts)
in_parts p n [] = refl
in_parts p n (part ∷ parts) = (λ i. in_slots p n part.slots i ++ in_parts p n parts i) ∙ sym (map-append (pair n) (kept_in_part p part) (rows_found p parts))

-- ---- one list

or_false : (b : Bool) → (b || false) ≡ b
or_false true = refl
or_false false = refl

marks_one : (rows more : List Record) → AllByRecursion (λ row. has row rows ≡ true) more → map (marked_in (rows ∷ [])) more ≡ map marked more
marks_one rows [] a = refl
marks_one rows (row ∷ more) a = λ i. record { row = row; positions = cond (a.0 i) (0 ∷ []) [] } ∷ marks_one rows more a.1 i

-- the union of one list in order is that list
one_list : (rows : List Record) → IsStrictlySortedBy record_cmp rows → union_marked (rows ∷ []) ≡ map marked rows
one_list rows s =
    let members : (q : Record) → list_any (eq_by_cmp record_cmp q) (union_of (rows ∷ [])) ≡ list_any (eq_by_cmp record_cmp q) rows =
    subst (λ (e : Record → Record → Bool). (q : Record) → list_any (e q) (union_of (rows ∷ [])) ≡ list_any (e q) rows) eq_is (λ q. has_union q (rows ∷ []) ∙ or_false (has q rows)) in
    let same : union_of (rows ∷ []) ≡ rows = same_sorted record_total record_exact (union_of (rows ∷ [])) rows (sorted_union (rows ∷ [])) s members in
    ap (map (marked_in (rows ∷ []))) same ∙ marks_one rows rows (each_member (λ row. has row rows ≡ true) rows (λ q e. e))

-- one table alone
pub one_table : (p : Record → Bool) (r : ℕ) (t : Table) → multi p r (t ∷ []) ≡ map marked (rows_where p r t)
one_table p r t = one_list (rows_where p r t) (sorted_where p r t)

-- ---- views

spread_times : (q : Found) (ms : List Marked) → times q (spread ms) ≡ total (λ m. times q (spread_one m)) ms
spread_times q [] = refl
spread_times q (m ∷ ms) = total_append (λ f. weigh (is_same q f)) (spread_one m) (spread ms) ∙ ap (λ n. times q (spread_one m) + n) (spread_times q ms)

module _ {V : Type 0} (table : V → Table) (parts : V → ℕ → List Part) (r : ℕ) (p : Record → Bool) (law : (v : V) (r : ℕ) → r < length (table v) → IsPermutation (rows_in (parts v r)) (rows_of (relation_at (table v) r))) where
  found_pairs : (n : ℕ) (views : List V) → found_in_views p n (map (λ v. parts v r) views) ≡ pairs_from n (map (λ v. filter p (rows_in (parts v r))) views)
  found_pairs n [] = refl
  found_pairs n (v ∷ views) = λ i. (in_parts p n (parts v r) ∙ ap (map (pair n)) (found_filtered p (parts v r))) i ++ found_pairs (n + 1) views i

  alike : (views : List V) → AllByRecursion (λ v. r < length (table v)) views → Alike (map (λ v. filter p (rows_in (parts v r))) views) (map (rows_where p r) (map table views))
  alike [] h = tt
  alike (v ∷ views) h = (λ row. has_moved (record_eq row) p (rows_in (parts v r)) (rows_of (relation_at (table v) r)) (law v r h.0), alike views h.1)

  no_repeat : (views : List V) → AllByRecursion (λ v. r < length (table v)) views → AllByRecursion (IsDistinct record_eq) (map (λ v. filter p (rows_in (parts v r))) views)
  no_repeat [] h = tt
  no_repeat (v ∷ views) h = (distinct_found (table v) r (parts v r) (law v r h.0) p, no_repeat views h.1)

  -- what was found at places, in order and joined, are the rows of the tables
  pub scanned : (views : List V) (places : List Place) (found sorted rows : List Marked) → All (λ v. r < length (table v)) views → IsPermutation (places_in 0 (shown parts r views)) places → AreSame (spread found) (found_at_places p (shown parts r views) places) → IsPermutation found sorted → IsSorted row_cmp sorted → AreInOrder (joined sorted) rows → rows ≡ multi p r (map table views)
  scanned views places found sorted rows within moved same by up order =
      let each : AllByRecursion (λ v. r < length (table v)) views = recursion_from_All (λ v. r < length (table v)) views within in
      let all = shown parts r views in
      let pairs : (q : Found) → times q (spread rows) ≡ times q (pairs_from 0 (map (λ v. filter p (rows_in (parts v r))) views)) = λ q.
      (times_ordered q (joined sorted) rows order ∙ ap (times q) (spread_joined sorted) ∙ spread_times q sorted ∙ total_moved (λ m. times q (spread_one m)) found sorted by ∙ sym (spread_times q found) ∙ same q
      ∙ at_places q p all places ∙ total_moved (λ s. times q (found_in_part p s.position (part_of all s))) (places_in 0 all) places moved ∙ sym (at_places q p all (places_in 0 all))
      ∙ ap (times q) ((places_at p all 0 all refl).2 ∙ found_pairs 0 views)) in
      marked_pairs (map (λ v. filter p (rows_in (parts v r))) views) (map (rows_where p r) (map table views)) rows (alike views each) (no_repeat views each) (strict_ordered (joined sorted) rows order (strict_joined sorted up)) (positions_ordered (joined sorted) rows order) pairs
