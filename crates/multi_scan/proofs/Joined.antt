-- What is joined: the same rows at the same positions, in order.
use Rattle.std.proofs.Common.{◌≡◌, ℕ, ◌+◌, true, false, cond, List, [], ◌∷◌, ◌++◌, ap, sym, ◌∙◌, refl, subst, append_assoc, rules, Ordering, Less, Equal, Greater}
use Rattle.std.specs.List.{AllByRecursion}
use Rattle.std.specs.List.Sorted.{IsStrictlySortedBy, IsPermutation, IsSorted}
use Rattle.std.specs.Ordering.{is_lt, is_eq, ordering_reverse}
use Rattle.std.proofs.lemmas.List.{map-append}
use Rattle.std.proofs.lemmas.List.Sorted.{IsPermutation-map, IsPermutation-refl, ranks_by}
use Rattle.db_value.specs.Order.{record_eq, record_cmp}
use Rattle.db_value.proofs.OrderLemmas.{record_is, record_total, record_ties}
use Rattle.db_value.specs.declared.record.Record.{Record}
use Rattle.db_value.specs.declared.record.Marked.{Marked}
use Rattle.multi_scan.specs.Found.{Found, joined, with_row, spread, spread_one, times, weigh, is_same, AreInOrder, HasPositions, row_cmp}
use Rattle.multi_scan.proofs.Totals.{total_append, total_moved, all_from}
use Rattle.multi_scan.proofs.Rising.{Rises, rises}

-- ---- the same at the same positions

both_spread : (row : Record) (ps qs : List ℕ) (rest : List Found) → spread_one (record { row = row; positions = ps ++ qs }) ++ rest ≡ spread_one (record { row = row; positions = ps }) ++ (spread_one (record { row = row; positions = qs }) ++ rest)
both_spread row ps qs rest = ap (λ (t : List Found). t ++ rest) (map-append (λ n. record { row = row; position = n }) ps qs) ∙ append_assoc _ _ rest

spread_with : (m : Marked) (ms : List Marked) → spread (with_row m ms) ≡ spread_one m ++ spread ms
spread_with m [] = refl
spread_with m (n ∷ ms) = elim (record_eq m.row n.row) as (λ b. record_eq m.row n.row ≡ b → spread (cond b (record { row = m.row; positions = m.positions ++ n.positions } ∷ ms) (m ∷ n ∷ ms)) ≡ spread_one m ++ (spread_one n ++ spread ms)) [
  | true ↦ λ e. both_spread m.row m.positions n.positions (spread ms) ∙ ap (λ (r : Record). spread_one m ++ (spread_one (record { row = r; positions = n.positions }) ++ spread ms)) (record_is m.row n.row e)
  | false ↦ λ e. refl
] refl

pub spread_joined : (ms : List Marked) → spread (joined ms) ≡ spread ms
spread_joined [] = refl
spread_joined (m ∷ ms) = spread_with m (joined ms) ∙ ap (λ (t : List Found). spread_one m ++ t) (spread_joined ms)

one_ordered : (q : Found) (m n : Marked) → n.row ≡ m.row → IsPermutation m.positions n.positions → times q (spread_one n) ≡ times q (spread_one m)
one_ordered q m n r p = ap (λ (row : Record). times q (spread_one (record { row = row; positions = n.positions }))) r ∙ total_moved (λ f. weigh (is_same q f)) (spread_one m) (spread_one (record { row = m.row; positions = n.positions })) (IsPermutation-map (λ k. record { row = m.row; position = k }) m.positions n.positions p)

pub times_ordered : (q : Found) (ms ns : List Marked) → AreInOrder ms ns → times q (spread ns) ≡ times q (spread ms)
times_ordered q [] [] a = refl
times_ordered q [] (n ∷ ns) a = absurd a
times_ordered q (m ∷ ms) [] a = absurd a
times_ordered q (m ∷ ms) (n ∷ ns) a =
    total_append (λ f. weigh (is_same q f)) (spread_one n) (spread ns) ∙ (λ i. one_ordered q m n a.0 a.1.same i + times_ordered q ms ns a.2 i) ∙ sym (total_append (λ f. weigh (is_same q f)) (spread_one m) (spread ms))

-- ---- rows in order

all_with : (P : Record → Type 0) (m : Marked) (ms : List Marked) → P m.row → AllByRecursion (λ n. P n.row) ms → AllByRecursion (λ n. P n.row) (with_row m ms)
all_with P m [] p a = (p, tt)
all_with P m (n ∷ ms) p a = elim (record_eq m.row n.row) as (λ b. AllByRecursion (λ (x : Marked). P x.row) (cond b (record { row = m.row; positions = m.positions ++ n.positions } ∷ ms) (m ∷ n ∷ ms))) [
  | true ↦ (p, a.1)
  | false ↦ (p, a)
]

all_joined : (P : Record → Type 0) (ms : List Marked) → AllByRecursion (λ m. P m.row) ms → AllByRecursion (λ m. P m.row) (joined ms)
all_joined P [] a = tt
all_joined P (m ∷ ms) a = all_with P m (joined ms) a.0 (all_joined P ms a.1)

-- not above, and another, so below
below : (a b : Record) → is_lt (record_cmp b a) ≡ false → record_eq a b ≡ false → record_cmp a b ≡ Less
below a b h e = by_case (record_cmp a b) (record_cmp b a) (record_total.antisymm b a) h (sym (record_ties a b) ∙ e)
  where
    by_case : (o p : Ordering) → p ≡ ordering_reverse o → is_lt p ≡ false → is_eq o ≡ false → o ≡ Less
    by_case Less p r l q = refl
    by_case Equal p r l q = absurd cc
    by_case Greater p r l q = absurd (search rules)

below_all : (a b : Record) (ms : List Marked) → record_cmp a b ≡ Less → AllByRecursion (λ n. record_cmp b n.row ≡ Less) ms → AllByRecursion (λ n. record_cmp a n.row ≡ Less) ms
below_all a b ms e s = all_from (λ (n : Marked). record_cmp b n.row ≡ Less) (λ (n : Marked). record_cmp a n.row ≡ Less) (λ n h. record_total.trans a b n.row e h) ms s

strict_with : (m : Marked) (ms : List Marked) → AllByRecursion (λ n. is_lt (record_cmp n.row m.row) ≡ false) ms → IsStrictlySortedBy row_cmp ms → IsStrictlySortedBy row_cmp (with_row m ms)
unfolding IsStrictlySortedBy
strict_with m [] a s = (tt, tt)
strict_with m (n ∷ ms) a s = elim (record_eq m.row n.row) as (λ b. record_eq m.row n.row ≡ b → IsStrictlySortedBy row_cmp (cond b (record { row = m.row; positions = m.positions ++ n.positions } ∷ ms) (m ∷ n ∷ ms))) [
  | true ↦ λ e. (subst (λ (r : Record). AllByRecursion (λ (x : Marked). record_cmp r x.row ≡ Less) ms) (sym (record_is m.row n.row e)) s.0, s.1)
  | false ↦ λ e. let l : record_cmp m.row n.row ≡ Less = below m.row n.row a.0 e in ((l, below_all m.row n.row ms l s.0), s)
] refl

strict_each : (ms : List Marked) → Rises (λ x y. is_lt (row_cmp x y)) ms → IsStrictlySortedBy row_cmp (joined ms)
unfolding IsStrictlySortedBy
strict_each [] a = tt
strict_each (m ∷ ms) a = strict_with m (joined ms) (all_joined (λ row. is_lt (record_cmp row m.row) ≡ false) ms a.0) (strict_each ms a.1)

pub strict_joined : (ms : List Marked) → IsSorted row_cmp ms → IsStrictlySortedBy row_cmp (joined ms)
strict_joined ms up = strict_each ms (rises (λ x y. is_lt (row_cmp x y)) (ranks_by record_total (λ (m : Marked). m.row)) ms up)

all_ordered : (P : Record → Type 0) (ms ns : List Marked) → AreInOrder ms ns → AllByRecursion (λ m. P m.row) ms → AllByRecursion (λ n. P n.row) ns
all_ordered P [] [] a h = tt
all_ordered P [] (n ∷ ns) a h = absurd a
all_ordered P (m ∷ ms) [] a h = absurd a
all_ordered P (m ∷ ms) (n ∷ ns) a h = (subst P (sym a.0) h.0, all_ordered P ms ns a.2 h.1)

pub strict_ordered : (ms ns : List Marked) → AreInOrder ms ns → IsStrictlySortedBy row_cmp ms → IsStrictlySortedBy row_cmp ns
unfolding IsStrictlySortedBy
strict_ordered [] [] a s = tt
strict_ordered [] (n ∷ ns) a s = absurd a
strict_ordered (m ∷ ms) [] a s = absurd a
strict_ordered (m ∷ ms) (n ∷ ns) a s = (subst (λ (r : Record). AllByRecursion (λ (x : Marked). record_cmp r x.row ≡ Less) ns) (sym a.0) (all_ordered (λ row. record_cmp m.row row ≡ Less) ms ns a.2 s.0), strict_ordered ms ns a.2 s.1)

pub positions_ordered : (ms ns : List Marked) → AreInOrder ms ns → AllByRecursion HasPositions ns
positions_ordered [] [] a = tt
positions_ordered [] (n ∷ ns) a = absurd a
positions_ordered (m ∷ ms) [] a = absurd a
positions_ordered (m ∷ ms) (n ∷ ns) a = (record { up = a.1.up; some = a.1.some }, positions_ordered ms ns a.2)

-- rows that have positions in order are in order
pub ordered : (ms : List Marked) → AllByRecursion HasPositions ms → AreInOrder ms ms
ordered [] a = tt
ordered (m ∷ ms) a = (refl, record { same = IsPermutation-refl m.positions; up = a.0.up; some = a.0.some }, ordered ms a.1)
