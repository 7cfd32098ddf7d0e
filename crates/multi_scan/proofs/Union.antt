-- The union of lists of rows: its members, and that it is in order.
use Rattle.std.proofs.Common.{◌≡◌, Bool, true, false, ◌||◌, List, [], ◌∷◌, ap, sym, ◌∙◌, refl, subst, Less, Equal, Greater}
use Rattle.std.specs.List.{AllByRecursion, list_any, flat_map}
use Rattle.std.specs.List.Sorted.{IsStrictlySortedBy}
use Rattle.std.specs.Ordering.{match_ordering, ordering_reverse}
use Rattle.std.proofs.lemmas.List.Folds.{list_any-append}
use Rattle.db_value.specs.Order.{record_eq, record_cmp}
use Rattle.db_value.proofs.OrderLemmas.{record_total, record_exact, record_same}
use Rattle.db_value.specs.declared.record.Record.{Record}
use Rattle.multi_scan.specs.Multi.{has, put_row, distinct, union_of}
use Rattle.multi_scan.proofs.Sorted.{sorted_nil}

or_swap : (a b c : Bool) → (a || (b || c)) ≡ (b || (a || c))
or_swap true true c = refl
or_swap true false c = refl
or_swap false b c = refl

or_twice : (a b : Bool) → (a || b) ≡ (a || (a || b))
or_twice true b = refl
or_twice false b = refl

or_assoc : (a b c : Bool) → (a || (b || c)) ≡ ((a || b) || c)
or_assoc true b c = refl
or_assoc false b c = refl

-- what a row that was put adds
has_put : (q row : Record) (rows : List Record) → has q (put_row row rows) ≡ (record_eq q row || has q rows)
has_put q row [] = refl
has_put q row (r ∷ rows) = elim (record_cmp row r) as (λ o. record_cmp row r ≡ o → has q (match_ordering o (row ∷ r ∷ rows) (r ∷ rows) (r ∷ put_row row rows)) ≡ (record_eq q row || has q (r ∷ rows))) [
  | Less ↦ λ e. refl
  | Equal ↦ λ e. subst (λ (x : Record). has q (r ∷ rows) ≡ (record_eq q x || has q (r ∷ rows))) (sym (record_exact row r e)) (or_twice (record_eq q r) (has q rows))
  | Greater ↦ λ e. ap (λ b. record_eq q r || b) (has_put q row rows) ∙ or_swap (record_eq q r) (record_eq q row) (has q rows)
] refl

has_distinct : (q : Record) (rows : List Record) → has q (distinct rows) ≡ has q rows
has_distinct q [] = refl
has_distinct q (row ∷ rows) = has_put q row (distinct rows) ∙ ap (λ b. record_eq q row || b) (has_distinct q rows)

-- a row is in one of the lists
abbrev pub anywhere : Record → List (List Record) → Bool
anywhere q lists = list_any (has q) lists

-- the union has what one of the lists has
pub has_union : (q : Record) (lists : List (List Record)) → has q (union_of lists) ≡ anywhere q lists
has_union q lists = has_distinct q (flat_map (λ rows. rows) lists) ∙ of_all lists
  where
    of_all : (lists : List (List Record)) → has q (flat_map (λ rows. rows) lists) ≡ anywhere q lists
    of_all [] = refl
    of_all (rows ∷ lists) = list_any-append (record_eq q) rows (flat_map (λ rows. rows) lists) ∙ ap (λ b. has q rows || b) (of_all lists)

all_put : (P : Record → Type 0) (row : Record) (rows : List Record) → P row → AllByRecursion P rows → AllByRecursion P (put_row row rows)
all_put P row [] p a = (p, tt)
all_put P row (r ∷ rows) p a = elim (record_cmp row r) as (λ o. AllByRecursion P (match_ordering o (row ∷ r ∷ rows) (r ∷ rows) (r ∷ put_row row rows))) [
  | Less ↦ (p, a)
  | Equal ↦ a
  | Greater ↦ (a.0, all_put P row rows p a.1)
]

all_less : (x y : Record) (rows : List Record) → record_cmp x y ≡ Less → AllByRecursion (λ z. record_cmp y z ≡ Less) rows → AllByRecursion (λ z. record_cmp x z ≡ Less) rows
all_less x y [] e a = tt
all_less x y (z ∷ rows) e a = (record_total.trans x y z e a.0, all_less x y rows e a.1)

sorted_put : (row : Record) (rows : List Record) → IsStrictlySortedBy record_cmp rows → IsStrictlySortedBy record_cmp (put_row row rows)
unfolding IsStrictlySortedBy
sorted_put row [] s = (tt, tt)
sorted_put row (r ∷ rows) s = elim (record_cmp row r) as (λ o. record_cmp row r ≡ o → IsStrictlySortedBy record_cmp (match_ordering o (row ∷ r ∷ rows) (r ∷ rows) (r ∷ put_row row rows))) [
  | Less ↦ λ e. ((e, all_less row r rows e s.0), s)
  | Equal ↦ λ e. s
  | Greater ↦ λ e. (all_put (λ z. record_cmp r z ≡ Less) row rows (record_total.antisymm r row ∙ ap ordering_reverse e) s.0, sorted_put row rows s.1)
] refl

sorted_distinct : (rows : List Record) → IsStrictlySortedBy record_cmp (distinct rows)
sorted_distinct [] = sorted_nil record_cmp
sorted_distinct (row ∷ rows) = sorted_put row (distinct rows) (sorted_distinct rows)

pub sorted_union : (lists : List (List Record)) → IsStrictlySortedBy record_cmp (union_of lists)
sorted_union lists = sorted_distinct (flat_map (λ rows. rows) lists)

true_or : (a b : Bool) → b ≡ true → (a || b) ≡ true
true_or true b e = refl
true_or false b e = e

-- what holds of each member by the test holds of each
pub each_member : (P : Record → Type 0) (rows : List Record) → ((q : Record) → has q rows ≡ true → P q) → AllByRecursion P rows
each_member P [] h = tt
each_member P (row ∷ rows) h = (h row (ap (λ b. b || has row rows) (record_same row)), each_member P rows (λ q e. h q (true_or (record_eq q row) (has q rows) e)))
