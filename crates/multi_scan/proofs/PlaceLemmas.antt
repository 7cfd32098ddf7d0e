-- The places of the parts of views, and runs of them with one id.
use Rattle.std.proofs.Common.{◌≡◌, ℕ, zero, suc, ◌+◌, ◌<◌, ◌≤◌, ◌==◌, Bool, true, false, cond, List, [], ◌∷◌, ◌++◌, length, map, take, drop, get_or, ap, sym, ◌∙◌, refl, subst, arith, nat_cmp, Ordering, Some, None}
use Rattle.std.specs.List.{AllByRecursion, flat_map}
use Rattle.std.specs.List.Sorted.{IsSorted}
use Rattle.std.specs.Ordering.{is_lt, ordering_then}
use Rattle.std.specs.Cmp.{IsTotalOrder, nat_cmp_total, on_total, then_total}
use Rattle.std.proofs.lemmas.Bool.{eqb-true}
use Rattle.std.proofs.lemmas.Bool.Decides.{nat_tests}
use Rattle.std.proofs.lemmas.List.{map-append}
use Rattle.std.proofs.lemmas.Grind.{flat_map-append}
use Rattle.std.proofs.lemmas.List.Sorted.{ranks_by}
use Rattle.db_value.specs.declared.record.Record.{Record}
use Rattle.db_store.specs.Parts.{Part, part_at, no_part}
use Rattle.db_store.proofs.RowLemmas.{all_append}
use Rattle.multi_scan.specs.declared.places.Place.{Place}
use Rattle.multi_scan.specs.Found.{found_in_part, found_in_parts, found_in_views}
use Rattle.multi_scan.specs.Places.{places_from, places_in, part_of, IsPlace, found_at_places, id_run, place_cmp, row_where, kept_at}
use Rattle.multi_scan.proofs.Totals.{all_from, all_both}
use Rattle.multi_scan.proofs.Rising.{Rises, rises}

-- ---- where parts stand

next : (i : ℕ) → suc (i + 1) ≡ suc i + 1
next i = omega arith

pub at_drop : {X : Type 0} (xs : List X) (i : ℕ) (x : X) (rest : List X) (d : X) → drop i xs ≡ x ∷ rest → (get_or xs i d ≡ x) × (drop (i + 1) xs ≡ rest) × (i < length xs)
at_drop xs zero x rest d e = (ap (λ t. get_or t 0 d) e, ap (drop 1) e, subst (λ t. 0 < length t) (sym e) (omega arith))
at_drop [] (suc i) x rest d e = absurd cc
at_drop (y ∷ ys) (suc i) x rest d e =
    let h : (get_or ys i d ≡ x) × (drop (i + 1) ys ≡ rest) × (i < length ys) = at_drop ys i x rest d e in
    (h.0, subst (λ n. drop n (y ∷ ys) ≡ rest) (next i) h.1, omega (arith, h.2))

-- places are where they say, what they show is these parts, and what is found there is what these have
abbrev AreAt : (Record → Bool) → List (List Part) → ℕ → List Place → List Part → Type 0
AreAt p views n ps parts = AllByRecursion (IsPlace views) ps × (map (part_of views) ps ≡ parts) × (found_at_places p views ps ≡ found_in_parts p n parts)

view_at : (p : Record → Bool) (views : List (List Part)) (n : ℕ) (parts : List Part) (i : ℕ) (rest : List Part) → n < length views → get_or views n [] ≡ parts → drop i parts ≡ rest → AreAt p views n (places_from n i rest) rest
view_at p views n parts i [] h g e = (tt, refl, refl)
view_at p views n parts i (part ∷ rest) h g e =
    let at : (part_at parts i ≡ part) × (drop (i + 1) parts ≡ rest) × (i < length parts) = at_drop parts i part rest no_part e in
    let is : part_at (get_or views n []) i ≡ part = ap (λ ps. part_at ps i) g ∙ at.0 in
    let place : IsPlace views (record { id = part.id; position = n; index = i }) = record { position = h; index = subst (λ (t : List Part). i < length t) (sym g) at.2; id = ap (λ (q : Part). q.id) is } in
    let more = view_at p views n parts (i + 1) rest h g at.1 in
    ((place, more.0), (λ j. is j ∷ more.1 j), (λ j. found_in_part p n (is j) ++ more.2 j))

abbrev AreIn : (Record → Bool) → List (List Part) → ℕ → List Place → List (List Part) → Type 0
AreIn p views n ps rest = AllByRecursion (IsPlace views) ps × (map (part_of views) ps ≡ flat_map (λ parts. parts) rest) × (found_at_places p views ps ≡ found_in_views p n rest)

pub places_at : (p : Record → Bool) (views : List (List Part)) (n : ℕ) (rest : List (List Part)) → drop n views ≡ rest → AreIn p views n (places_in n rest) rest
places_at p views n [] e = (tt, refl, refl)
places_at p views n (parts ∷ rest) e =
    let at : (get_or views n [] ≡ parts) × (drop (n + 1) views ≡ rest) × (n < length views) = at_drop views n parts rest [] e in
    let these = view_at p views n parts 0 parts at.2 at.0 refl in
    let more = places_at p views (n + 1) rest at.1 in
    (all_append (IsPlace views) (places_from n 0 parts) (places_in (n + 1) rest) these.0 more.0, map-append (part_of views) (places_from n 0 parts) (places_in (n + 1) rest) ∙ (λ j. these.1 j ++ more.1 j), flat_map-append (λ s. found_in_part p s.position (part_of views s)) (places_from n 0 parts) (places_in (n + 1) rest) ∙ (λ j. these.2 j ++ more.2 j))

-- ---- places in order

place_total : IsTotalOrder place_cmp
place_total = then_total (on_total (λ (p : Place). p.id) nat_cmp_total) (then_total (on_total (λ (p : Place). p.position) nat_cmp_total) (on_total (λ (p : Place). p.index) nat_cmp_total))

-- a place is after another one: with a greater id, or with this id and not with a lesser position
abbrev pub IsAfter : Place → Place → Type 0
IsAfter p q = (p.id ≤ q.id) × (p.id ≡ q.id → p.position ≤ q.position)

-- each is after those before it
abbrev pub ById : List Place → Type 0
ById [] = Unit {0}
ById (p ∷ ps) = AllByRecursion (IsAfter p) ps × ById ps

not_less : (a b : ℕ) (o : Ordering) → is_lt (ordering_then (nat_cmp b a) o) ≡ false → a ≤ b
not_less a b o e = grind (arith, nat_tests)

then_not_less : (a b : ℕ) (o : Ordering) → a ≡ b → is_lt (ordering_then (nat_cmp b a) o) ≡ false → is_lt o ≡ false
then_not_less a b o s e = grind (arith, nat_tests)

pub by_ids : (ps : List Place) → IsSorted place_cmp ps → ById ps
by_ids ps up = each ps (rises (λ x y. is_lt (place_cmp x y)) (ranks_by place_total (λ (p : Place). p)) ps up)
  where
    each : (ps : List Place) → Rises (λ x y. is_lt (place_cmp x y)) ps → ById ps
    each [] a = tt
    each (p ∷ ps) a = (all_from (λ (q : Place). is_lt (place_cmp q p) ≡ false) (IsAfter p) (λ q e. (not_less p.id q.id _ e, λ s. not_less p.position q.position _ (then_not_less p.id q.id _ s e))) ps a.0, each ps a.1)

-- the positions of places of one id don't fall
abbrev pub ByPosition : List Place → Type 0
ByPosition [] = Unit {0}
ByPosition (p ∷ ps) = AllByRecursion (λ q. p.position ≤ q.position) ps × ByPosition ps

pub by_positions : (id : ℕ) (ps : List Place) → ById ps → AllByRecursion (λ p. p.id ≡ id) ps → ByPosition ps
by_positions id [] s e = tt
by_positions id (p ∷ ps) s e = (all_from (λ (q : Place). IsAfter p q × (q.id ≡ id)) (λ (q : Place). p.position ≤ q.position) (λ q h. h.0.1 (e.0 ∙ sym h.1)) ps (all_both (IsAfter p) (λ (q : Place). q.id ≡ id) ps s.0 e.1), by_positions id ps s.1 e.1)

pub run_same : (id : ℕ) (ps : List Place) → AllByRecursion (λ p. p.id ≡ id) (take (id_run id ps) ps)
run_same id [] = tt
run_same id (p ∷ ps) = elim (p.id == id) as (λ b. (p.id == id) ≡ b → AllByRecursion (λ (q : Place). q.id ≡ id) (take (cond b (suc (id_run id ps)) 0) (p ∷ ps))) [
  | true ↦ λ e. (eqb-true p.id id e, run_same id ps)
  | false ↦ λ e. tt
] refl

above : (a b : ℕ) → a ≤ b → (b == a) ≡ false → a < b
above a b h e = grind (arith, nat_tests)

pub run_over : (id : ℕ) (ps : List Place) → AllByRecursion (λ p. id ≤ p.id) ps → ById ps → AllByRecursion (λ p. id < p.id) (drop (id_run id ps) ps)
run_over id [] a s = tt
run_over id (p ∷ ps) a s = elim (p.id == id) as (λ b. (p.id == id) ≡ b → AllByRecursion (λ (q : Place). id < q.id) (drop (cond b (suc (id_run id ps)) 0) (p ∷ ps))) [
  | true ↦ λ e. run_over id ps a.1 s.1
  | false ↦ λ e. (above id p.id a.0 e, all_from (IsAfter p) (λ (q : Place). id < q.id) (λ q h. omega (arith, above id p.id a.0 e, h.0)) ps s.0)
] refl

pub ids_drop : (n : ℕ) (ps : List Place) → ById ps → ById (drop n ps)
ids_drop zero ps s = s
ids_drop (suc n) [] s = tt
ids_drop (suc n) (p ∷ ps) s = ids_drop n ps s.1

pub all_drop : {K : Type 0} (P : K → Type 0) (n : ℕ) (xs : List K) → AllByRecursion P xs → AllByRecursion P (drop n xs)
all_drop P zero xs a = a
all_drop P (suc n) [] a = tt
all_drop P (suc n) (x ∷ xs) a = all_drop P n xs a.1

pub all_take : {K : Type 0} (P : K → Type 0) (n : ℕ) (xs : List K) → AllByRecursion P xs → AllByRecursion P (take n xs)
all_take P zero xs a = tt
all_take P (suc n) [] a = tt
all_take P (suc n) (x ∷ xs) a = (a.0, all_take P n xs a.1)

pub ids_take : (n : ℕ) (ps : List Place) → ById ps → ById (take n ps)
ids_take zero ps s = tt
ids_take (suc n) [] s = tt
ids_take (suc n) (p ∷ ps) s = (all_take (IsAfter p) n ps s.0, ids_take n ps s.1)

-- what is kept of a row for which the condition holds, and of another
pub kept_one : (p : Record → Bool) (row : Record) (live : List ℕ) → p row ≡ true → kept_at live (row_where p row) ≡ kept_at live (Some row)
kept_one p row live e = ap (λ (b : Bool). kept_at live (cond b (Some row) None)) e

pub kept_none : (p : Record → Bool) (row : Record) (live : List ℕ) → p row ≡ false → kept_at live (row_where p row) ≡ []
kept_none p row [] e = refl
kept_none p row (n ∷ ns) e = ap (λ (b : Bool). kept_at (n ∷ ns) (cond b (Some row) None)) e
