-- Rows that meet the widths of a relation take no more bytes than a frame has.
use Rattle.std.proofs.Common.{◌≡◌, ◌⊎◌, inl, inr, ℕ, zero, suc, ◌+◌, ◌<◌, ◌≤◌, Bool, true, false, cond, nat_lt, List, [], ◌∷◌, ◌++◌, length, drop, get_or, Option, Some, None, refl, ap, sym, ◌∙◌, subst, arith}
use Rattle.std.specs.List.{list_all, flat_map}
use Rattle.std.proofs.lemmas.Bool.{and_parts, and_from, ltb-true, lt-ltb, le-leb, leb-true, false≢true, cases_lt}
use Rattle.std.proofs.lemmas.List.{length-append, drop_more}
use Rattle.db_value.specs.Value.{Value}
use Rattle.db_value.specs.declared.value.Value.TheVariants.{Number, Text}
use Rattle.db_value.specs.Spelling.{value_bytes, fields_bytes, number_bytes}
use Rattle.db_value.specs.RowForm.{field_size, row_size}
use Rattle.db_value.specs.Widths.{fits_width, meets}
use Rattle.db_value.specs.Relations.{widths_at}
use Rattle.db_value.specs.declared.schema.Relation.{Relation}
use Rattle.db_value.specs.declared.entry.Change.{Change}
use Rattle.db_value.proofs.Spelled.{length_number}
use Rattle.db_store.specs.Fits.{has_fields}
use Rattle.db_store.specs.Overlay.{own_widths}
use Rattle.db_store.specs.RowWidths.{widths_or, widths_from, all_widths, most_of, most_from}
use Rattle.db_store.specs.Adopt.{change_meets, are_short, is_short}

-- ---- one row

value_short : (w : ℕ) (v : Value) → fits_width w v ≡ true → length (value_bytes v) ≤ 1 + field_size w
value_short zero (Number n) h = let l = length_number n in omega (arith, l)
value_short zero (Text t) h = absurd (false≢true h)
value_short (suc w) (Number n) h = absurd (false≢true h)
value_short (suc w) (Text t) h = let l = leb-true (length t) (suc w) h in omega (arith, l)

values_short : (ws : List ℕ) (vs : List Value) → meets ws vs ≡ true → length (flat_map value_bytes vs) ≤ length ws + row_size ws
values_short [] [] h = omega arith
values_short [] (v ∷ vs) h = absurd (false≢true h)
values_short (w ∷ ws) [] h = absurd (false≢true h)
values_short (w ∷ ws) (v ∷ vs) h =
    let two = and_parts (fits_width w v) (meets ws vs) h in
    let one = value_short w v two.0 in
    let rest = values_short ws vs two.1 in
    let l = length-append (value_bytes v) (flat_map value_bytes vs) in
    omega (arith, one, rest, l)

-- the fields of a row that meets widths
pub fields_short : (ws : List ℕ) (vs : List Value) → meets ws vs ≡ true → length (fields_bytes vs) ≤ most_of ws
fields_short ws vs h = let rest = values_short ws vs h in omega (arith, rest)

-- ---- any relation

pub most_more : (most : ℕ) (wss : List (List ℕ)) → most ≤ most_from most wss
most_more most [] = omega arith
most_more most (ws ∷ wss) = larger (nat_lt most (most_of ws)) refl (most_more (most_of ws) wss) (most_more most wss)
  where
    larger : (b : Bool) → nat_lt most (most_of ws) ≡ b → most_of ws ≤ most_from (most_of ws) wss → most ≤ most_from most wss → most ≤ most_from (cond b (most_of ws) most) wss
    larger true e m n = let l = ltb-true most (most_of ws) e in omega (arith, l, m)
    larger false e m n = n

most_first : (most : ℕ) (ws : List ℕ) (wss : List (List ℕ)) → most_of ws ≤ most_from most (ws ∷ wss)
most_first most ws wss = by (cases_lt most (most_of ws))
  where
    by : (most < most_of ws) ⊎ (most_of ws ≤ most) → most_of ws ≤ most_from most (ws ∷ wss)
    by (inl l) = subst (λ b. most_of ws ≤ most_from (cond b (most_of ws) most) wss) (sym (lt-ltb most (most_of ws) l)) (most_more (most_of ws) wss)
    by (inr l) = other (nat_lt most (most_of ws))
      where
        other : (b : Bool) → most_of ws ≤ most_from (cond b (most_of ws) most) wss
        other true = most_more (most_of ws) wss
        other false = let m = most_more most wss in omega (arith, l, m)

pub most_here : (most r : ℕ) (wss : List (List ℕ)) → r < length wss → most_of (own_widths wss r) ≤ most_from most wss
most_here most r [] h = absurd (omega (arith, h))
most_here most zero (ws ∷ wss) h = most_first most ws wss
most_here most (suc r) (ws ∷ wss) h = most_here (cond (nat_lt most (most_of ws)) (most_of ws) most) r wss (omega (arith, h))

-- the next relation
pub most_next : (most own i : ℕ) (wss : List (List ℕ)) (ws : List ℕ) → i < length wss → ws ≡ get_or wss i ws → own ≡ most_of ws → most_from (cond (nat_lt most own) own most) (drop (i + 1) wss) ≡ most_from most (drop i wss)
most_next most own i wss ws h is e =
    ap (λ o. most_from (cond (nat_lt most o) o most) (drop (i + 1) wss)) e
    ∙ sym (ap (most_from most) (drop_more wss i ws h ∙ ap (λ (x : List ℕ). x ∷ drop (i + 1) wss) (sym is)))

-- a row of one of so many relations
pub row_short : (most n r : ℕ) (wss : List (List ℕ)) (vs : List Value) → length wss ≡ n → r < n → meets (own_widths wss r) vs ≡ true → length (fields_bytes vs) ≤ most_from most wss
row_short most n r wss vs k h m =
    let a = fields_short (own_widths wss r) vs m in
    let b = most_here most r wss (omega (arith, k, h)) in
    omega (arith, a, b)

state_short : (most n r : ℕ) (wss : List (List ℕ)) (state : Option (List Value)) → length wss ≡ n → r < n → has_fields (own_widths wss r) state ≡ true → are_short (most_from most wss) state ≡ true
state_short most n r wss None k h m = refl
state_short most n r wss (Some vs) k h m = le-leb (length (fields_bytes vs)) (most_from most wss) (row_short most n r wss vs k h m)

-- and changes of them
pub changes_short : (most n : ℕ) (wss : List (List ℕ)) (cs : List Change) → length wss ≡ n → list_all (λ c. nat_lt c.relation n) cs ≡ true → list_all (change_meets wss) cs ≡ true → list_all (is_short (most_from most wss)) cs ≡ true
changes_short most n wss [] k w m = refl
changes_short most n wss (c ∷ cs) k w m =
    let within = and_parts (nat_lt c.relation n) (list_all (λ c. nat_lt c.relation n) cs) w in
    let meet = and_parts (change_meets wss c) (list_all (change_meets wss) cs) m in
    and_from (is_short (most_from most wss) c) (list_all (is_short (most_from most wss)) cs)
    (state_short most n c.relation wss c.fields k (ltb-true c.relation n within.0) meet.0) (changes_short most n wss cs k within.1 meet.1)

-- ---- the widths of a schema

from_at : (schema : List Relation) (n k r : ℕ) → r < k → own_widths (widths_from schema n k) r ≡ widths_or schema (n + r)
from_at schema n zero r h = absurd (omega arith)
from_at schema n (suc k) zero h = let same : n ≡ n + 0 = omega arith in ap (widths_or schema) same
from_at schema n (suc k) (suc r) h = let same : n + 1 + r ≡ n + suc r = omega arith in from_at schema (n + 1) k r (omega arith) ∙ ap (widths_or schema) same

pub length_from : (schema : List Relation) (n k : ℕ) → length (widths_from schema n k) ≡ k
length_from schema n zero = refl
length_from schema n (suc k) = ap suc (length_from schema (n + 1) k)

pub eight_widths : (schema : List Relation) → length (all_widths schema) ≡ 8
unfolding all_widths
eight_widths schema = length_from schema 0 8

-- those of a relation of the schema
pub widths_here : (schema : List Relation) (r : ℕ) → r < length schema → r < 8 → own_widths (all_widths schema) r ≡ widths_at schema r
unfolding all_widths
widths_here schema r h few =
    from_at schema 0 8 r few
    ∙ (let same : 0 + r ≡ r = omega arith in ap (widths_or schema) same)
    ∙ ap (λ (b : Bool). cond b (widths_at schema r) (0 ∷ [])) (lt-ltb r (length schema) h)

-- the widths of the next relation
pub widths_next : (schema : List Relation) (all : List (List ℕ)) (n k : ℕ) → (all ++ widths_or schema n ∷ []) ++ widths_from schema (n + 1) k ≡ all ++ widths_from schema n (suc k)
widths_next schema all n k = append_one all (widths_or schema n) (widths_from schema (n + 1) k)
  where
    append_one : (xs : List (List ℕ)) (x : List ℕ) (ys : List (List ℕ)) → (xs ++ x ∷ []) ++ ys ≡ xs ++ x ∷ ys
    append_one [] x ys = refl
    append_one (z ∷ zs) x ys = ap (λ (t : List (List ℕ)). z ∷ t) (append_one zs x ys)
