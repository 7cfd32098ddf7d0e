-- Rows with positions: one by one, and joined by rows.
use Rattle.std.proofs.Common.{◌≡◌, ℕ, ◌+◌, ◌<◌, ◌≤◌, ◌==◌, Bool, true, false, cond, ◌&&◌, ◌||◌, List, [], ◌∷◌, ◌++◌, length, map, ap, sym, ◌∙◌, refl, subst, arith, nat_cmp, Ordering, Less, Equal, Greater}
use Rattle.std.specs.List.{AllByRecursion, IsDistinct, list_any}
use Rattle.std.specs.List.Sorted.{IsStrictlySortedBy}
use Rattle.std.specs.Ordering.{eq_by_cmp, is_eq, ordering_then}
use Rattle.std.specs.Cmp.{IsTotalOrder, nat_cmp_total, on_total, then_total, unsigned_ties, tied_itself, eq_by_cmp_equiv}
use Rattle.std.specs.FinMap.{IsAntisymmetric, nat_cmp-IsAntisymmetric}
use Rattle.std.proofs.Math.Dec.{ltb}
use Rattle.std.proofs.lemmas.Bool.{lt-ltb}
use Rattle.std.proofs.lemmas.Bool.Decides.{nat_tests}
use Rattle.std.proofs.lemmas.Map.Views.{tells_apart}
use Rattle.std.proofs.lemmas.List.Folds.{list_any-append}
use Rattle.std.proofs.lemmas.Map.Keys.{IsDistinct-head, IsDistinct-tail}
use Rattle.db_value.specs.Order.{record_eq, record_cmp}
use Rattle.db_value.proofs.OrderLemmas.{record_total, record_exact, record_ties, record_same, record_is, both_tie, tied}
use Rattle.db_value.specs.declared.record.Record.{Record}
use Rattle.db_value.specs.declared.record.Marked.{Marked}
use Rattle.multi_scan.specs.Found.{Found, Climbs, HasPositions, found_cmp, row_cmp, spread, spread_one, times, weigh, is_same}
use Rattle.multi_scan.proofs.Totals.{zero_plus}
use Rattle.multi_scan.specs.Multi.{has, union_of, positions_from, marked_in, union_marked}
use Rattle.db_store.proofs.RowLemmas.{same_sorted, all_append}
use Rattle.multi_scan.proofs.Sorted.{sorted_append, sorted_nil, sorted_cons, distinct_append, distinct_nil, all_map}
use Rattle.multi_scan.proofs.Union.{anywhere, has_union, sorted_union, each_member}

abbrev pub pair : ℕ → Record → Found
pair n row = record { row = row; position = n }

-- the rows of lists, the first of which has number n
abbrev pub pairs_from : ℕ → List (List Record) → List Found
pairs_from n [] = []
pairs_from n (rows ∷ lists) = map (pair n) rows ++ pairs_from (n + 1) lists

-- list k has the row, where the first list has number n
abbrev pub at : ℕ → ℕ → Record → List (List Record) → Bool
at n k row [] = false
at n k row (rows ∷ lists) = (k == n && has row rows) || at (n + 1) k row lists

-- ---- the order of pairs

pub found_total : IsTotalOrder found_cmp
found_total = then_total (on_total (λ (f : Found). f.row) record_total) (on_total (λ (f : Found). f.position) nat_cmp_total)

pub found_exact : IsAntisymmetric found_cmp
found_exact a b e =
    let two : (record_cmp a.row b.row ≡ Equal) × (nat_cmp a.position b.position ≡ Equal) = both_tie _ _ e in
    let row : a.row ≡ b.row = record_exact a.row b.row two.0 in
    let position : a.position ≡ b.position = nat_cmp-IsAntisymmetric a.position b.position two.1 in
    λ i. record { row = row i; position = position i }

pair_eq : (k n : ℕ) (row r : Record) → eq_by_cmp found_cmp (pair k row) (pair n r) ≡ (record_eq row r && k == n)
pair_eq k n row r =
    let rows : record_eq row r ≡ eq_by_cmp record_cmp row r = record_ties row r in
    let numbers : (k == n) ≡ eq_by_cmp nat_cmp k n = unsigned_ties k n in
    sym ((λ i. rows i && numbers i) ∙ tied (record_cmp row r) (nat_cmp k n))

less_is : (a b : ℕ) → a < b → nat_cmp a b ≡ Less
less_is a b h = let l = lt-ltb a b h in rw l refl

-- ---- which pairs there are

and_false : (b : Bool) → false ≡ (b && false)
and_false true = refl
and_false false = refl

gathers : (a b c : Bool) → ((a && b) || (b && c)) ≡ (b && (a || c))
gathers true true c = refl
gathers true false c = refl
gathers false b c = refl

among_row : (k n : ℕ) (row : Record) (rows : List Record) → list_any (eq_by_cmp found_cmp (pair k row)) (map (pair n) rows) ≡ (k == n && has row rows)
among_row k n row [] = and_false (k == n)
among_row k n row (r ∷ rows) =
    let head : eq_by_cmp found_cmp (pair k row) (pair n r) ≡ (record_eq row r && k == n) = pair_eq k n row r in
    let tail : list_any (eq_by_cmp found_cmp (pair k row)) (map (pair n) rows) ≡ (k == n && has row rows) = among_row k n row rows in
    (λ i. head i || tail i) ∙ gathers (record_eq row r) (k == n) (has row rows)

among_pairs : (n k : ℕ) (row : Record) (lists : List (List Record)) → list_any (eq_by_cmp found_cmp (pair k row)) (pairs_from n lists) ≡ at n k row lists
among_pairs n k row [] = refl
among_pairs n k row (rows ∷ lists) =
    let here : list_any (eq_by_cmp found_cmp (pair k row)) (map (pair n) rows) ≡ (k == n && has row rows) = among_row k n row rows in
    let later : list_any (eq_by_cmp found_cmp (pair k row)) (pairs_from (n + 1) lists) ≡ at (n + 1) k row lists = among_pairs (n + 1) k row lists in
    list_any-append (eq_by_cmp found_cmp (pair k row)) (map (pair n) rows) (pairs_from (n + 1) lists) ∙ (λ i. here i || later i)

among_positions : (n k : ℕ) (row : Record) (lists : List (List Record)) → list_any (λ i. k == i) (positions_from n row lists) ≡ at n k row lists
among_positions n k row [] = refl
among_positions n k row (rows ∷ lists) = elim (has row rows) as (λ b. list_any (λ i. k == i) (cond b (n ∷ positions_from (n + 1) row lists) (positions_from (n + 1) row lists)) ≡ ((k == n && b) || at (n + 1) k row lists)) [
  | true ↦ (λ j. and_true (k == n) j || among_positions (n + 1) k row lists j)
  | false ↦ among_positions (n + 1) k row lists ∙ ap (λ b. b || at (n + 1) k row lists) (and_false (k == n))
]
  where
    and_true : (b : Bool) → b ≡ (b && true)
    and_true true = refl
    and_true false = refl

among_marked : (k : ℕ) (row r : Record) (ps : List ℕ) → list_any (eq_by_cmp found_cmp (pair k row)) (map (λ i. pair i r) ps) ≡ (record_eq row r && list_any (λ i. k == i) ps)
among_marked k row r [] = and_false (record_eq row r)
among_marked k row r (p ∷ ps) =
    let head : eq_by_cmp found_cmp (pair k row) (pair p r) ≡ (record_eq row r && k == p) = pair_eq k p row r in
    let tail : list_any (eq_by_cmp found_cmp (pair k row)) (map (λ i. pair i r) ps) ≡ (record_eq row r && list_any (λ i. k == i) ps) = among_marked k row r ps in
    (λ i. head i || tail i) ∙ splits (record_eq row r) (k == p) (list_any (λ i. k == i) ps)
  where
    splits : (a b c : Bool) → ((a && b) || (a && c)) ≡ (a && (b || c))
    splits true b c = refl
    splits false b c = refl

-- a pair of a marked row is one of its list
row_and_list : (k : ℕ) (row r : Record) (lists : List (List Record)) → (record_eq row r && at 0 k r lists) ≡ (record_eq row r && at 0 k row lists)
row_and_list k row r lists = elim (record_eq row r) as (λ b. record_eq row r ≡ b → (b && at 0 k r lists) ≡ (b && at 0 k row lists)) [
  | true ↦ λ e. ap (λ (x : Record). at 0 k x lists) (sym (record_is row r e))
  | false ↦ λ e. refl
] refl

among_spread : (k : ℕ) (row : Record) (lists : List (List Record)) (rows : List Record) → list_any (eq_by_cmp found_cmp (pair k row)) (spread (map (marked_in lists) rows)) ≡ (has row rows && at 0 k row lists)
among_spread k row lists [] = refl
among_spread k row lists (r ∷ rows) =
    let head : list_any (eq_by_cmp found_cmp (pair k row)) (map (λ i. pair i r) (positions_from 0 r lists)) ≡ (record_eq row r && at 0 k row lists) = among_marked k row r (positions_from 0 r lists) ∙ ap (λ b. record_eq row r && b) (among_positions 0 k r lists) ∙ row_and_list k row r lists in
    let tail : list_any (eq_by_cmp found_cmp (pair k row)) (spread (map (marked_in lists) rows)) ≡ (has row rows && at 0 k row lists) = among_spread k row lists rows in
    list_any-append (eq_by_cmp found_cmp (pair k row)) (map (λ i. pair i r) (positions_from 0 r lists)) (spread (map (marked_in lists) rows)) ∙ (λ i. head i || tail i) ∙ splits (record_eq row r) (has row rows) (at 0 k row lists)
  where
    splits : (a b c : Bool) → ((a && c) || (b && c)) ≡ ((a || b) && c)
    splits true true true = refl
    splits true true false = refl
    splits true false true = refl
    splits true false false = refl
    splits false b c = refl

at_anywhere : (n k : ℕ) (row : Record) (lists : List (List Record)) → at n k row lists ≡ (anywhere row lists && at n k row lists)
at_anywhere n k row [] = refl
at_anywhere n k row (rows ∷ lists) = covers (k == n) (has row rows) (anywhere row lists) (at (n + 1) k row lists) (at_anywhere (n + 1) k row lists)
  where
    covers : (a b c d : Bool) → d ≡ (c && d) → ((a && b) || d) ≡ ((b || c) && ((a && b) || d))
    covers true true c d e = refl
    covers true false c d e = e
    covers false true c d e = refl
    covers false false c d e = e

-- what lists have in common, list by list
abbrev pub Alike : List (List Record) → List (List Record) → Type 0
Alike [] [] = Unit {0}
Alike (xs ∷ xss) (ys ∷ yss) = ((row : Record) → has row xs ≡ has row ys) × Alike xss yss
Alike _ _ = ⊥

at_alike : (n k : ℕ) (row : Record) (xss yss : List (List Record)) → Alike xss yss → at n k row xss ≡ at n k row yss
at_alike n k row [] [] a = refl
at_alike n k row [] (ys ∷ yss) a = absurd a
at_alike n k row (xs ∷ xss) [] a = absurd a
at_alike n k row (xs ∷ xss) (ys ∷ yss) a = λ i. (k == n && a.0 row i) || at_alike (n + 1) k row xss yss a.1 i

-- ---- no pair twice

all_of : {K : Type 0} (P : K → Type 0) → ((x : K) → P x) → (xs : List K) → AllByRecursion P xs
all_of P h [] = tt
all_of P h (x ∷ xs) = (h x, all_of P h xs)

all_imply : {K : Type 0} (P Q : K → Type 0) → ((x : K) → P x → Q x) → (xs : List K) → AllByRecursion P xs → AllByRecursion Q xs
all_imply P Q h [] a = tt
all_imply P Q h (x ∷ xs) a = (h x a.0, all_imply P Q h xs a.1)

later : (n m : ℕ) (lists : List (List Record)) → n ≤ m → AllByRecursion (λ f. n ≤ f.position) (pairs_from m lists)
later n m [] h = tt
later n m (rows ∷ lists) h = all_append (λ f. n ≤ f.position) (map (pair m) rows) (pairs_from (m + 1) lists) (all_map (λ (f : Found). n ≤ f.position) (pair m) rows (all_of (λ (r : Record). n ≤ m) (λ r. h) rows)) (later n (m + 1) lists (omega arith))

-- pairs differ where their numbers do
apart_numbers : (n : ℕ) (row : Record) (f : Found) → n + 1 ≤ f.position → eq_by_cmp found_cmp (pair n row) f ≡ false
apart_numbers n row f h = by_number (record_cmp row f.row) (nat_cmp n f.position) (less_is n f.position (omega (arith, h)))
  where
    by_number : (a b : Ordering) → b ≡ Less → is_eq (ordering_then a b) ≡ false
    by_number Less b e = refl
    by_number Equal b e = ap is_eq e
    by_number Greater b e = refl

apart_rows : (n : ℕ) (r s : Record) → record_eq r s ≡ false → eq_by_cmp found_cmp (pair n r) (pair n s) ≡ false
apart_rows n r s e = pair_eq n n r s ∙ ap (λ b. b && n == n) e

distinct_row : (n : ℕ) (rows : List Record) → IsDistinct record_eq rows → IsDistinct (eq_by_cmp found_cmp) (map (pair n) rows)
unfolding IsDistinct
distinct_row n [] d = tt
distinct_row n (r ∷ rows) d = (all_map (λ (f : Found). eq_by_cmp found_cmp (pair n r) f ≡ false) (pair n) rows (all_imply (λ (s : Record). record_eq r s ≡ false) (λ (s : Record). eq_by_cmp found_cmp (pair n r) (pair n s) ≡ false) (λ s e. apart_rows n r s e) rows d.0), distinct_row n rows d.1)

distinct_pairs : (n : ℕ) (lists : List (List Record)) → AllByRecursion (IsDistinct record_eq) lists → IsDistinct (eq_by_cmp found_cmp) (pairs_from n lists)
distinct_pairs n [] d = distinct_nil (eq_by_cmp found_cmp)
distinct_pairs n (rows ∷ lists) d =
    let Apart : Record → Type 0 = λ r. AllByRecursion (λ f. eq_by_cmp found_cmp (pair n r) f ≡ false) (pairs_from (n + 1) lists) in
    let apart : (r : Record) → Apart r = λ r. all_imply (λ (f : Found). n + 1 ≤ f.position) (λ (f : Found). eq_by_cmp found_cmp (pair n r) f ≡ false) (λ f h. apart_numbers n r f h) (pairs_from (n + 1) lists) (later (n + 1) (n + 1) lists (omega arith)) in
    distinct_append (eq_by_cmp found_cmp) (map (pair n) rows) (pairs_from (n + 1) lists) (distinct_row n rows d.0) (distinct_pairs (n + 1) lists d.1)
    (all_map (λ (x : Found). AllByRecursion (λ f. eq_by_cmp found_cmp x f ≡ false) (pairs_from (n + 1) lists)) (pair n) rows (all_of Apart apart rows))

-- ---- marked rows in order

from_number : (n m : ℕ) (row : Record) (lists : List (List Record)) → n ≤ m → AllByRecursion (λ k. n ≤ k) (positions_from m row lists)
from_number n m row [] h = tt
from_number n m row (rows ∷ lists) h = elim (has row rows) as (λ b. AllByRecursion (λ k. n ≤ k) (cond b (m ∷ positions_from (m + 1) row lists) (positions_from (m + 1) row lists))) [
  | true ↦ (h, from_number n (m + 1) row lists (omega arith))
  | false ↦ from_number n (m + 1) row lists (omega arith)
]

sorted_positions : (n : ℕ) (row : Record) (lists : List (List Record)) → IsStrictlySortedBy nat_cmp (positions_from n row lists)
sorted_positions n row [] = sorted_nil nat_cmp
sorted_positions n row (rows ∷ lists) = elim (has row rows) as (λ b. IsStrictlySortedBy nat_cmp (cond b (n ∷ positions_from (n + 1) row lists) (positions_from (n + 1) row lists))) [
  | true ↦ sorted_cons nat_cmp n (positions_from (n + 1) row lists) (all_imply (λ (k : ℕ). n + 1 ≤ k) (λ (k : ℕ). nat_cmp n k ≡ Less) (λ k h. less_is n k (omega (arith, h))) (positions_from (n + 1) row lists) (from_number (n + 1) (n + 1) row lists (omega arith))) (sorted_positions (n + 1) row lists)
  | false ↦ sorted_positions (n + 1) row lists
]

sorted_marked : (row : Record) (ps : List ℕ) → IsStrictlySortedBy nat_cmp ps → IsStrictlySortedBy found_cmp (map (λ i. pair i row) ps)
unfolding IsStrictlySortedBy
sorted_marked row [] s = tt
sorted_marked row (p ∷ ps) s =
    let same : record_cmp row row ≡ Equal = tied_itself record_total row in
    (all_map (λ (f : Found). found_cmp (pair p row) f ≡ Less) (λ i. pair i row) ps (all_imply (λ (k : ℕ). nat_cmp p k ≡ Less) (λ (k : ℕ). found_cmp (pair p row) (pair k row) ≡ Less) (λ k e. ap (λ o. ordering_then o (nat_cmp p k)) same ∙ e) ps s.0), sorted_marked row ps s.1)

-- what holds of each row holds of each of their pairs
rows_of_spread : (P : Record → Type 0) (ms : List Marked) → AllByRecursion (λ m. P m.row) ms → AllByRecursion (λ f. P f.row) (spread ms)
rows_of_spread P [] a = tt
rows_of_spread P (m ∷ ms) a = all_append (λ f. P f.row) (spread_one m) (spread ms) (all_map (λ (f : Found). P f.row) (λ i. pair i m.row) m.positions (all_of (λ (i : ℕ). P m.row) (λ i. a.0) m.positions)) (rows_of_spread P ms a.1)

sorted_spread : (ms : List Marked) → IsStrictlySortedBy row_cmp ms → AllByRecursion (λ m. IsStrictlySortedBy nat_cmp m.positions) ms → IsStrictlySortedBy found_cmp (spread ms)
unfolding IsStrictlySortedBy
sorted_spread [] s a = tt
sorted_spread (m ∷ ms) s a =
    let rest = spread ms in
    let Before : ℕ → Type 0 = λ i. AllByRecursion (λ f. found_cmp (pair i m.row) f ≡ Less) rest in
    let before : (i : ℕ) → Before i = λ i. all_imply (λ (f : Found). record_cmp m.row f.row ≡ Less) (λ (f : Found). found_cmp (pair i m.row) f ≡ Less) (λ f e. ap (λ o. ordering_then o (nat_cmp i f.position)) e) rest (rows_of_spread (λ (x : Record). record_cmp m.row x ≡ Less) ms s.0) in
    sorted_append found_cmp (spread_one m) rest (sorted_marked m.row m.positions a.0) (sorted_spread ms s.1 a.1)
    (all_map (λ (x : Found). AllByRecursion (λ f. found_cmp x f ≡ Less) rest) (λ i. pair i m.row) m.positions (all_of Before before m.positions))

-- rows in order are so with the positions of the lists that have them
marked_sorted : (lists : List (List Record)) (rows : List Record) → IsStrictlySortedBy record_cmp rows → IsStrictlySortedBy row_cmp (map (marked_in lists) rows)
unfolding IsStrictlySortedBy
marked_sorted lists [] s = tt
marked_sorted lists (r ∷ rows) s = (all_map (λ (m : Marked). record_cmp r m.row ≡ Less) (marked_in lists) rows s.0, marked_sorted lists rows s.1)

-- ---- joining what was spread

-- neighbours with one row as that row, with the positions of all
abbrev with_pair : Found → List Marked → List Marked
with_pair f [] = record { row = f.row; positions = f.position ∷ [] } ∷ []
with_pair f (m ∷ ms) = cond (record_eq f.row m.row) (record { row = f.row; positions = f.position ∷ m.positions } ∷ ms) (record { row = f.row; positions = f.position ∷ [] } ∷ m ∷ ms)

abbrev gathered : List Found → List Marked
gathered [] = []
gathered (f ∷ fs) = with_pair f (gathered fs)

abbrev Differs : Record → List Marked → Type 0
Differs row [] = Unit {0}
Differs row (m ∷ ms) = record_eq row m.row ≡ false

abbrev IsRun : Record → List ℕ → List Found → List Marked → Type 0
IsRun row ps rest ms = gathered (map (λ i. pair i row) ps ++ rest) ≡ record { row = row; positions = ps } ∷ ms

last_joined : (row : Record) (p : ℕ) (rest : List Found) (ms : List Marked) → gathered rest ≡ ms → Differs row ms → IsRun row (p ∷ []) rest ms
last_joined row p rest [] e d = rw e refl
last_joined row p rest (m ∷ ms) e d = rw (e, d) refl

more_joined : (row : Record) (p q : ℕ) (ps : List ℕ) (rest : List Found) (ms : List Marked) → IsRun row (q ∷ ps) rest ms → IsRun row (p ∷ q ∷ ps) rest ms
more_joined row p q ps rest ms e = rw (e, record_same row) refl

run_joined : (row : Record) (p : ℕ) (ps : List ℕ) (rest : List Found) (ms : List Marked) → gathered rest ≡ ms → Differs row ms → IsRun row (p ∷ ps) rest ms
run_joined row p [] rest ms e d = last_joined row p rest ms e d
run_joined row p (q ∷ ps) rest ms e d = more_joined row p q ps rest ms (run_joined row q ps rest ms e d)

some_joined : (row : Record) (ps : List ℕ) (rest : List Found) (ms : List Marked) → 0 < length ps → gathered rest ≡ ms → Differs row ms → IsRun row ps rest ms
some_joined row [] rest ms h e d = absurd (omega arith)
some_joined row (p ∷ ps) rest ms h e d = run_joined row p ps rest ms e d

some_position : (n : ℕ) (row : Record) (lists : List (List Record)) → anywhere row lists ≡ true → 0 < length (positions_from n row lists)
some_position n row [] e = absurd cc
some_position n row (rows ∷ lists) e = elim (has row rows) as (λ b. (b || anywhere row lists) ≡ true → 0 < length (cond b (n ∷ positions_from (n + 1) row lists) (positions_from (n + 1) row lists))) [
  | true ↦ λ e. omega arith
  | false ↦ λ e. some_position (n + 1) row lists e
] e

less_differs : (a b : Record) → record_cmp a b ≡ Less → record_eq a b ≡ false
less_differs a b e = record_ties a b ∙ ap is_eq e

differs_from : (row : Record) (ms : List Marked) → AllByRecursion (λ m. record_cmp row m.row ≡ Less) ms → Differs row ms
differs_from row [] a = tt
differs_from row (m ∷ ms) a = less_differs row m.row a.0

gathered_spread : (ms : List Marked) → IsStrictlySortedBy row_cmp ms → AllByRecursion (λ m. 0 < length m.positions) ms → gathered (spread ms) ≡ ms
unfolding IsStrictlySortedBy
gathered_spread [] s a = refl
gathered_spread (m ∷ ms) s a = some_joined m.row m.positions (spread ms) ms a.0 (gathered_spread ms s.1 a.1) (differs_from m.row ms s.0)

-- ---- how often a pair is there

same_is : (q f : Found) → eq_by_cmp found_cmp q f ≡ is_same q f
same_is q f = pair_eq q.position f.position q.row f.row

flips : (a b : Found) → is_same a b ≡ is_same b a
flips a b = sym (same_is a b) ∙ (eq_by_cmp_equiv found_total).symm a b ∙ same_is b a

same_itself : (q : Found) → is_same q q ≡ true
same_itself q = sym (same_is q q) ∙ (eq_by_cmp_equiv found_total).refl q

is_found : (q f : Found) → is_same q f ≡ true → q ≡ f
is_found q f e = tells_apart found_exact q f (same_is q f ∙ e)

-- no time where none is the same, and some time otherwise
never : (q : Found) (fs : List Found) → AllByRecursion (λ f. is_same q f ≡ false) fs → times q fs ≡ 0
never q [] a = refl
never q (f ∷ fs) a = (λ i. weigh (a.0 i) + times q fs) ∙ sym (zero_plus (times q fs)) ∙ never q fs a.1

nowhere : (q : Found) (fs : List Found) → times q fs ≡ 0 → AllByRecursion (λ f. is_same q f ≡ false) fs
nowhere q [] e = tt
nowhere q (f ∷ fs) e = elim (is_same q f) as (λ b. is_same q f ≡ b → weigh b + times q fs ≡ 0 → (b ≡ false) × AllByRecursion (λ f. is_same q f ≡ false) fs) [
  | true ↦ λ s z. absurd (omega (arith, z))
  | false ↦ λ s z. (refl, nowhere q fs (omega (arith, z)))
] refl e

once : (fs : List Found) → IsDistinct is_same fs → (q : Found) → times q fs ≤ 1
unfolding IsDistinct
once [] d q = omega arith
once (f ∷ fs) d q = elim (is_same q f) as (λ b. is_same q f ≡ b → weigh b + times q fs ≤ 1) [
  | true ↦ λ e. let z : times q fs ≡ 0 = ap (λ (x : Found). times x fs) (is_found q f e) ∙ never f fs d.0 in omega (arith, z)
  | false ↦ λ e. omega (arith, once fs d.1 q)
] refl

distinct_once : (fs : List Found) → ((q : Found) → times q fs ≤ 1) → IsDistinct is_same fs
unfolding IsDistinct
distinct_once [] h = tt
distinct_once (f ∷ fs) h =
    let first : weigh true + times f fs ≤ 1 = subst (λ b. weigh b + times f fs ≤ 1) (same_itself f) (h f) in
    (nowhere f fs (omega (arith, first)), distinct_once fs (λ q. omega (arith, h q)))

any_is : (q : Found) (fs : List Found) → list_any (is_same q) fs ≡ ltb 0 (times q fs)
any_is q [] = refl
any_is q (f ∷ fs) = elim (is_same q f) as (λ b. (b || list_any (is_same q) fs) ≡ ltb 0 (weigh b + times q fs)) [
  | true ↦ sym (lt-ltb 0 (weigh true + times q fs) (omega arith))
  | false ↦ any_is q fs ∙ ap (ltb 0) (zero_plus (times q fs))
]

distinct_front : (xs ys : List Found) → IsDistinct is_same (xs ++ ys) → IsDistinct is_same xs
unfolding IsDistinct
distinct_front [] ys d = tt
distinct_front (x ∷ xs) ys d = (all_front (λ (f : Found). is_same x f ≡ false) xs ys d.0, distinct_front xs ys d.1)
  where
    all_front : (P : Found → Type 0) (xs ys : List Found) → AllByRecursion P (xs ++ ys) → AllByRecursion P xs
    all_front P [] ys a = tt
    all_front P (x ∷ xs) ys a = (a.0, all_front P xs ys a.1)

distinct_back : (xs ys : List Found) → IsDistinct is_same (xs ++ ys) → IsDistinct is_same ys
unfolding IsDistinct
distinct_back [] ys d = d
distinct_back (x ∷ xs) ys d = distinct_back xs ys d.1

-- positions of one row that differ as pairs differ
apart_positions : (row : Record) (ps : List ℕ) → IsDistinct is_same (map (λ i. pair i row) ps) → IsDistinct (eq_by_cmp nat_cmp) ps
unfolding IsDistinct
apart_positions row [] d = tt
apart_positions row (p ∷ ps) d = (others ps d.0, apart_positions row ps d.1)
  where
    differ : (k : ℕ) → is_same (pair p row) (pair k row) ≡ false → eq_by_cmp nat_cmp p k ≡ false
    differ k e = sym (unsigned_ties p k) ∙ sym (ap (λ b. b && p == k) (record_same row)) ∙ e

    others : (ks : List ℕ) → AllByRecursion (λ f. is_same (pair p row) f ≡ false) (map (λ i. pair i row) ks) → AllByRecursion (λ k. eq_by_cmp nat_cmp p k ≡ false) ks
    others [] a = tt
    others (k ∷ ks) a = (differ k a.0, others ks a.1)

over : (p k : ℕ) → p ≤ k → (p == k) ≡ false → p < k
over p k h e = grind (arith, nat_tests)

strict_all : (p : ℕ) (ks : List ℕ) → AllByRecursion (λ k. p ≤ k) ks → AllByRecursion (λ k. eq_by_cmp nat_cmp p k ≡ false) ks → AllByRecursion (λ k. nat_cmp p k ≡ Less) ks
strict_all p [] a b = tt
strict_all p (k ∷ ks) a b = (less_is p k (over p k a.0 (unsigned_ties p k ∙ b.0)), strict_all p ks a.1 b.1)

strict_climb : (ps : List ℕ) → Climbs ps → IsDistinct (eq_by_cmp nat_cmp) ps → IsStrictlySortedBy nat_cmp ps
strict_climb [] c d = sorted_nil nat_cmp
strict_climb (p ∷ ps) c d = sorted_cons nat_cmp p ps (strict_all p ps c.0 (IsDistinct-head (eq_by_cmp nat_cmp) p ps d)) (strict_climb ps c.1 (IsDistinct-tail (eq_by_cmp nat_cmp) p ps d))

strict_positions : (ms : List Marked) → IsDistinct is_same (spread ms) → AllByRecursion HasPositions ms → AllByRecursion (λ m. IsStrictlySortedBy nat_cmp m.positions) ms
strict_positions [] d a = tt
strict_positions (m ∷ ms) d a = (strict_climb m.positions a.0.up (apart_positions m.row m.positions (distinct_front (spread_one m) (spread ms) d)), strict_positions ms (distinct_back (spread_one m) (spread ms) d) a.1)

-- ---- rows in order that have the pairs of lists are the union of the lists

pub marked_pairs : (xss lists : List (List Record)) (ms : List Marked) → Alike xss lists → AllByRecursion (IsDistinct record_eq) xss → IsStrictlySortedBy row_cmp ms → AllByRecursion HasPositions ms → ((q : Found) → times q (spread ms) ≡ times q (pairs_from 0 xss)) → ms ≡ union_marked lists
marked_pairs xss lists ms alike distinct up each same =
    let rows = union_of lists in
    let eq : eq_by_cmp found_cmp ≡ is_same = λ i q f. same_is q f i in
    let pairs : IsDistinct is_same (pairs_from 0 xss) = subst (λ (e : Found → Found → Bool). IsDistinct e (pairs_from 0 xss)) eq (distinct_pairs 0 xss distinct) in
    let apart : IsDistinct is_same (spread ms) = distinct_once (spread ms) (λ q. subst (λ n. n ≤ 1) (sym (same q)) (once (pairs_from 0 xss) pairs q)) in
    let sorted : IsStrictlySortedBy found_cmp (spread ms) = sorted_spread ms up (strict_positions ms apart each) in
    let union : IsStrictlySortedBy row_cmp (map (marked_in lists) rows) = marked_sorted lists rows (sorted_union lists) in
    let here : (q : Found) → list_any (eq_by_cmp found_cmp q) (spread ms) ≡ list_any (eq_by_cmp found_cmp q) (pairs_from 0 xss) = λ q.
    subst (λ (e : Found → Found → Bool). list_any (e q) (spread ms) ≡ list_any (e q) (pairs_from 0 xss)) (sym eq) (any_is q (spread ms) ∙ ap (λ n. ltb 0 n) (same q) ∙ sym (any_is q (pairs_from 0 xss))) in
    let members : (q : Found) → list_any (eq_by_cmp found_cmp q) (spread ms) ≡ list_any (eq_by_cmp found_cmp q) (spread (map (marked_in lists) rows)) = λ q.
    (here q ∙ among_pairs 0 q.position q.row xss ∙ at_alike 0 q.position q.row xss lists alike
    ∙ at_anywhere 0 q.position q.row lists ∙ ap (λ b. b && at 0 q.position q.row lists) (sym (has_union q.row lists)) ∙ sym (among_spread q.position q.row lists rows)) in
    let is : spread ms ≡ spread (map (marked_in lists) rows) = same_sorted found_total found_exact (spread ms) (spread (map (marked_in lists) rows)) sorted
    (sorted_spread (map (marked_in lists) rows) union (all_map (λ (m : Marked). IsStrictlySortedBy nat_cmp m.positions) (marked_in lists) rows (all_of (λ (r : Record). IsStrictlySortedBy nat_cmp (positions_from 0 r lists)) (λ r. sorted_positions 0 r lists) rows))) members in
    let some : AllByRecursion (λ m. 0 < length m.positions) (map (marked_in lists) rows) = all_map (λ (m : Marked). 0 < length m.positions) (marked_in lists) rows
    (all_imply (λ (r : Record). anywhere r lists ≡ true) (λ (r : Record). 0 < length (positions_from 0 r lists)) (λ r e. some_position 0 r lists e) rows (each_member (λ row. anywhere row lists ≡ true) rows (λ q e. sym (has_union q lists) ∙ e))) in
    sym (gathered_spread ms up (all_imply HasPositions (λ (m : Marked). 0 < length m.positions) (λ m h. h.some) ms each)) ∙ ap gathered is ∙ gathered_spread (map (marked_in lists) rows) union some
