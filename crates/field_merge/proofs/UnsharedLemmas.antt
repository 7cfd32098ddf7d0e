-- What all three versions have makes no change and no conflict.
use Rattle.std.proofs.Common.{◌≡◌, ℕ, zero, suc, ◌==◌, ◌+◌, ◌<◌, ◌≤◌, Bool, true, false, cond, ◌||◌, ◌&&◌, List, [], ◌∷◌, ◌++◌, length, Option, Some, None, Ok, refl, ap, sym, ◌∙◌, subst, arith, Ordering, Less, Equal, Greater, ◌⊎◌, inl, inr}
use Rattle.std.specs.List.{AllByRecursion, IsDistinct, flat_map}
use Rattle.std.specs.List.Sorted.{IsPermutation, IsSorted, IsStrictlySortedBy}
use Rattle.std.specs.FinMap as finite
use Rattle.std.specs.Ordering.{nat_cmp, ordering_then}
use Rattle.std.specs.Cmp.{ranked}
use Rattle.std.proofs.lemmas.Bool.{eqb-true, eqb-false, ne_eqb, cases_lt, false≢true}
use Rattle.std.proofs.lemmas.Option.{none-some}
use Rattle.db_value.specs.Value.{Value, fields_eq, fields_cmp}
use Rattle.db_value.specs.Relations.{columns_at, widths_at}
use Rattle.db_value.proofs.RowForms.{meets_long}
use Rattle.field_merge.proofs.ClashLemmas.{as_many}
use Rattle.db_value.specs.Order.{record_eq, record_cmp}
use Rattle.db_value.proofs.OrderLemmas.{record_total, record_same}
use Rattle.db_value.specs.declared.record.Record.{Record}
use Rattle.db_value.specs.declared.entry.Change.{Change}
use Rattle.db_value.specs.declared.schema.Relation.{Relation}
use Rattle.db_value.specs.declared.condition.Prefer.{Prefer}
use Rattle.db_store.specs.Table.{Contents, Table, relation_at, rows_of}
use Rattle.db_store.specs.Counted.{IsTable}
use Rattle.db_store.specs.Rising.{Above, Rises, rises_rows}
use Rattle.db_store.specs.SameRows.{fields_in, Apart, or_else, fields_append, fields_rows, apart_rows, apart_moved, fields_moved}
use Rattle.db_store.proofs.RowLemmas.{strictly_sorted, eq_is}
use Rattle.field_merge.specs.declared.sides.Sides.{Sides}
use Rattle.field_merge.specs.Merge.{Clash, merge_at, same_state, change_where, clash_where, keys_of, union_keys, keys_in, all_keys, relation_changes, relation_clashes}
use Rattle.field_merge.specs.Walk.{record_changes, record_clashes, HaveFields, AreSides}
use Rattle.field_merge.specs.Shared.{AreUnshared}
use Rattle.field_merge.proofs.KeyLemmas.{Over, Climbs, over_less, climbs_union}
use Rattle.field_merge.proofs.OrderLemmas.{climbs_rows}
use Rattle.field_merge.proofs.MadeLemmas.{among, among_keys, union_left, union_right}
use Rattle.field_merge.proofs.TableLemmas.{have_fields}

-- ---- lists of which no key stands twice

none_first : (o p : Option (List Value)) → or_else o p ≡ None → o ≡ None
none_first None p e = refl
none_first (Some x) p e = e

apart_front : (xs cs : List Record) → Apart (xs ++ cs) → Apart xs
apart_front [] cs a = tt
apart_front (x ∷ xs) cs a = (none_first (fields_in x.key xs) (fields_in x.key cs) (sym (fields_append xs cs x.key) ∙ a.0), apart_front xs cs a.1)

-- what stands in the back isn't in front
apart_off : (xs cs : List Record) (q : ℕ) (f : List Value) → Apart (xs ++ cs) → fields_in q cs ≡ Some f → fields_in q xs ≡ None
apart_off [] cs q f a e = refl
apart_off (x ∷ xs) cs q f a e = at (apart_off xs cs q f a.1 e) (x.key == q) refl
  where
    at : fields_in q xs ≡ None → (b : Bool) → (x.key == q) ≡ b → cond b (Some x.fields) (fields_in q xs) ≡ None
    at none true k = absurd (none-some f (sym (sym e ∙ ap (λ (o : Option (List Value)). or_else o (fields_in q cs)) (sym none) ∙ sym (fields_append xs cs q) ∙ ap (λ n. fields_in n (xs ++ cs)) (sym (eqb-true x.key q k)) ∙ a.0)))
    at none false k = none

-- ---- one side

else_none : (o : Option (List Value)) → or_else o None ≡ o
else_none None = refl
else_none (Some x) = refl

module _ (m : Contents) (xs cs : List Record) (p : IsPermutation (rows_of m) (xs ++ cs)) where
  pub side_apart : Apart (xs ++ cs)
  side_apart = apart_moved (rows_of m) (xs ++ cs) p (apart_rows m)

  side_get : (q : ℕ) → finite.get m q ≡ or_else (fields_in q xs) (fields_in q cs)
  side_get q = sym (fields_rows m q) ∙ sym (fields_moved (rows_of m) (xs ++ cs) q p (apart_rows m)) ∙ fields_append xs cs q

  -- at a key of what is common
  common_get : (q : ℕ) (f : List Value) → fields_in q cs ≡ Some f → (finite.get m q ≡ Some f) × (fields_in q xs ≡ None)
  common_get q f e =
      let none = apart_off xs cs q f side_apart e in
      (side_get q ∙ (λ i. or_else (none i) (e i)), none)

  -- at any other key
  other_get : (q : ℕ) → fields_in q cs ≡ None → finite.get m q ≡ fields_in q xs
  other_get q e = side_get q ∙ ap (or_else (fields_in q xs)) e ∙ else_none (fields_in q xs)

  front_get : (q : ℕ) (f : List Value) → fields_in q xs ≡ Some f → finite.get m q ≡ Some f
  front_get q f e = side_get q ∙ ap (λ (o : Option (List Value)). or_else o (fields_in q cs)) e

-- ---- they rise

other_key : (x : Record) (xs : List Record) → fields_in x.key xs ≡ None → AllByRecursion (λ y. record_eq x y ≡ false) xs
other_key x [] e = tt
other_key x (y ∷ ys) e = at (other_key x ys) (y.key == x.key) refl e
  where
    at : (fields_in x.key ys ≡ None → AllByRecursion (λ z. record_eq x z ≡ false) ys) → (b : Bool) → (y.key == x.key) ≡ b → cond b (Some y.fields) (fields_in x.key ys) ≡ None → (record_eq x y ≡ false) × AllByRecursion (λ z. record_eq x z ≡ false) ys
    at later true k h = absurd (none-some y.fields (sym h))
    at later false k h = (ap (λ (b : Bool). b && fields_eq x.fields y.fields) (ne_eqb x.key y.key (λ e. eqb-false y.key x.key k (sym e))), later h)

distinct_from : (xs : List Record) → Apart xs → IsDistinct record_eq xs
unfolding IsDistinct
distinct_from [] a = tt
distinct_from (x ∷ xs) a = (other_key x xs a.0, distinct_from xs a.1)

key_less : (a b : Record) → record_cmp a b ≡ Less → (b.key ≡ a.key → ⊥) → a.key < b.key
key_less a b e n = at (nat_cmp a.key b.key) refl e
  where
    at : (o : Ordering) → nat_cmp a.key b.key ≡ o → ordering_then o (fields_cmp a.fields b.fields) ≡ Less → a.key < b.key
    at Less k h = ranked a.key b.key Less (sym k)
    at Equal k h = absurd (n (sym (ranked a.key b.key Equal (sym k))))
    at Greater k h = absurd cc

above_from : (x : Record) (xs : List Record) → AllByRecursion (λ y. record_cmp x y ≡ Less) xs → fields_in x.key xs ≡ None → Above x.key xs
above_from x [] s e = tt
above_from x (y ∷ ys) s e = at (above_from x ys s.1) (y.key == x.key) refl e
  where
    at : (fields_in x.key ys ≡ None → Above x.key ys) → (b : Bool) → (y.key == x.key) ≡ b → cond b (Some y.fields) (fields_in x.key ys) ≡ None → (x.key < y.key) × Above x.key ys
    at later true k h = absurd (none-some y.fields (sym h))
    at later false k h = (key_less x y s.0 (eqb-false y.key x.key k), later h)

rises_from : (xs : List Record) → IsStrictlySortedBy record_cmp xs → Apart xs → Rises xs
unfolding IsStrictlySortedBy
rises_from [] s a = tt
rises_from (x ∷ xs) s a = (above_from x xs s.0 a.0, rises_from xs s.1 a.1)

rises_sorted : (xs : List Record) → IsSorted record_cmp xs → Apart xs → Rises xs
rises_sorted xs up a =
    let blank : Record = record { key = 0; fields = [] } in
    rises_from xs (strictly_sorted record_total xs blank up (subst (λ (e : Record → Record → Bool). IsDistinct e xs) eq_is (distinct_from xs a))) a

-- ---- sums over ascending keys

-- none is less
abbrev AtLeast : ℕ → List ℕ → Type 0
AtLeast low [] = Unit {0}
AtLeast low (k ∷ ks) = (low ≤ k) × AtLeast low ks

from_over : (x : ℕ) (ks : List ℕ) → Over x ks → AtLeast (suc x) ks
from_over x [] o = tt
from_over x (k ∷ ks) o = (omega (arith, o.0), from_over x ks o.1)

over_out : (x : ℕ) (ks : List ℕ) → Over x ks → among x ks ≡ false
over_out x [] o = refl
over_out x (k ∷ ks) o = (λ i. ne_eqb x k (λ e. omega (arith, e, o.0)) i || over_out x ks o.1 i)

module _ {A : Type 0} (f : ℕ → List A) where
  -- from a number on, nothing is at a key that isn't among these
  abbrev Off : ℕ → List ℕ → Type 0
  Off low ks = (q : ℕ) → low ≤ q → among q ks ≡ false → f q ≡ []

  off_later : (low x : ℕ) (ks : List ℕ) → low ≤ x → Off low (x ∷ ks) → Off (suc x) ks
  off_later low x ks h off q l e = off q (omega (arith, h, l)) (λ i. ne_eqb q x (λ s. omega (arith, s, l)) i || e i)

  off_same : (low high : ℕ) (ks : List ℕ) → low ≤ high → Off low ks → Off high ks
  off_same low high ks h off q l e = off q (omega (arith, h, l)) e

  none_of_all : (low : ℕ) (ks : List ℕ) → AtLeast low ks → Climbs ks → Off low [] → flat_map f ks ≡ []
  none_of_all low [] a c off = refl
  none_of_all low (k ∷ ks) a c off = (λ i. off k a.0 refl i ++ none_of_all low ks a.1 c.1 off i)

  -- two lists that leave nothing out
  abbrev SameUpTo : ℕ → Type 0
  SameUpTo n = (low : ℕ) (xs ys : List ℕ) → length xs + length ys ≤ n → AtLeast low xs → AtLeast low ys → Climbs xs → Climbs ys → Off low xs → Off low ys → flat_map f xs ≡ flat_map f ys

  same_step : (n low x y : ℕ) (xs ys : List ℕ) → SameUpTo n → length (x ∷ xs) + length (y ∷ ys) ≤ suc n → low ≤ x → low ≤ y → Climbs (x ∷ xs) → Climbs (y ∷ ys) → Off low (x ∷ xs) → Off low (y ∷ ys) → (x < y) ⊎ (y ≤ x) → (y < x) ⊎ (x ≤ y) → flat_map f (x ∷ xs) ≡ flat_map f (y ∷ ys)
  same_step n low x y xs ys again h a b c d off out (inl l) more =
      let over : Over x (y ∷ ys) = (l, over_less x y ys l d.0) in
      ap (λ (t : List A). t ++ flat_map f xs) (out x a (over_out x (y ∷ ys) over))
      ∙ again (suc x) xs (y ∷ ys) (omega (arith, h)) (from_over x xs c.0) (from_over x (y ∷ ys) over) c.1 d (off_later low x xs a off) (off_same low (suc x) (y ∷ ys) (omega (arith, a)) out)
  same_step n low x y xs ys again h a b c d off out (inr g) (inl l) =
      let over : Over y (x ∷ xs) = (l, over_less y x xs l c.0) in
      again (suc y) (x ∷ xs) ys (omega (arith, h)) (from_over y (x ∷ xs) over) (from_over y ys d.0) c d.1 (off_same low (suc y) (x ∷ xs) (omega (arith, b)) off) (off_later low y ys b out)
      ∙ ap (λ (t : List A). t ++ flat_map f ys) (sym (off y b (over_out y (x ∷ xs) over)))
  same_step n low x y xs ys again h a b c d off out (inr g) (inr l) =
      let e : x ≡ y = omega (arith, g, l) in
      let rest : flat_map f xs ≡ flat_map f ys = again (suc x) xs ys (omega (arith, h)) (from_over x xs c.0) (subst (λ k. AtLeast (suc k) ys) (sym e) (from_over y ys d.0)) c.1 d.1 (off_later low x xs a off) (subst (λ k. Off (suc k) ys) (sym e) (off_later low y ys b out)) in
      (λ i. f (e i) ++ rest i)

  same_sum : (n : ℕ) → SameUpTo n
  same_sum n low [] ys h a b c d off out = sym (none_of_all low ys b d off)
  same_sum n low (x ∷ xs) [] h a b c d off out = none_of_all low (x ∷ xs) a c out
  same_sum zero low (x ∷ xs) (y ∷ ys) h a b c d off out = absurd (omega (arith, h))
  same_sum (suc n) low (x ∷ xs) (y ∷ ys) h a b c d off out = same_step n low x y xs ys (same_sum n) h a.0 b.0 c d off out (cases_lt x y) (cases_lt y x)

least_zero : (ks : List ℕ) → AtLeast 0 ks
least_zero [] = tt
least_zero (k ∷ ks) = (omega arith, least_zero ks)

-- ---- three sides

none_in : (rows : List Record) (key : ℕ) (ks : List ℕ) → (among key (keys_of rows) ≡ true → among key ks ≡ true) → among key ks ≡ false → fields_in key rows ≡ None
none_in rows key ks into out = at (fields_in key rows) refl
  where
    at : (o : Option (List Value)) → fields_in key rows ≡ o → o ≡ None
    at None e = refl
    at (Some fields) e = absurd (false≢true (sym out ∙ into (among_keys key rows fields e)))

climbs_in : (xs ys zs : List Record) → Rises zs → Climbs (keys_in xs ys zs)
climbs_in xs ys zs up = climbs_union (keys_of xs) (union_keys (keys_of ys) (keys_of zs)) (climbs_union (keys_of ys) (keys_of zs) (climbs_rows zs up))

module _ {A : Type 0} (h : ℕ → Option (List Value) → Option (List Value) → Option (List Value) → List A) (nothing : (q : ℕ) → h q None None None ≡ []) (same : (q : ℕ) (f : List Value) → h q (Some f) (Some f) (Some f) ≡ []) where
  none_at_key : (xs ys zs : List Record) (q : ℕ) → among q (keys_in xs ys zs) ≡ false → h q (fields_in q xs) (fields_in q ys) (fields_in q zs) ≡ []
  none_at_key xs ys zs q out =
      let a = keys_of xs in
      let b = keys_of ys in
      let c = keys_of zs in
      let ks : List ℕ = keys_in xs ys zs in
      let x = none_in xs q ks (λ m. union_left q a (union_keys b c) m) out in
      let y = none_in ys q ks (λ m. union_right q a (union_keys b c) (union_left q b c m)) out in
      let z = none_in zs q ks (λ m. union_right q a (union_keys b c) (union_right q b c m)) out in
      (λ i. h q (x i) (y i) (z i)) ∙ nothing q

  module _ (base left right : Contents) (xs ys zs cs : List Record) (p : IsPermutation (rows_of base) (xs ++ cs)) (q : IsPermutation (rows_of left) (ys ++ cs)) (r : IsPermutation (rows_of right) (zs ++ cs)) where
    -- at each key
    each_key : (k : ℕ) → h k (finite.get base k) (finite.get left k) (finite.get right k) ≡ h k (fields_in k xs) (fields_in k ys) (fields_in k zs)
    each_key k = at (fields_in k cs) refl
      where
        at : (o : Option (List Value)) → fields_in k cs ≡ o → h k (finite.get base k) (finite.get left k) (finite.get right k) ≡ h k (fields_in k xs) (fields_in k ys) (fields_in k zs)
        at None e = (λ i. h k (other_get base xs cs p k e i) (other_get left ys cs q k e i) (other_get right zs cs r k e i))
        at (Some f) e =
            let b = common_get base xs cs p k f e in
            let l = common_get left ys cs q k f e in
            let m = common_get right zs cs r k f e in
            (λ i. h k (b.0 i) (l.0 i) (m.0 i)) ∙ same k f ∙ sym (nothing k) ∙ (λ i. h k (sym b.1 i) (sym l.1 i) (sym m.1 i))

    -- all keys
    pub all_same : Rises zs → flat_map (λ k. h k (fields_in k xs) (fields_in k ys) (fields_in k zs)) (keys_in xs ys zs) ≡ flat_map (λ k. h k (finite.get base k) (finite.get left k) (finite.get right k)) (all_keys base left right)
    all_same up =
        let few : List ℕ = keys_in xs ys zs in
        let all : List ℕ = all_keys base left right in
        let of : ℕ → List A = λ k. h k (finite.get base k) (finite.get left k) (finite.get right k) in
        let off : Off of 0 few = λ k l e. each_key k ∙ none_at_key xs ys zs k e in
        let out : Off of 0 all = λ k l e. (λ i. h k (sym (fields_rows base k) i) (sym (fields_rows left k) i) (sym (fields_rows right k) i)) ∙ none_at_key (rows_of base) (rows_of left) (rows_of right) k e in
        (λ i. flat_map (λ k. sym (each_key k) i) few)
        ∙ same_sum of (length few + length all) 0 few all (omega arith) (least_zero few) (least_zero all) (climbs_in xs ys zs up) (climbs_in (rows_of base) (rows_of left) (rows_of right) (rises_rows right)) off out

-- ---- the merge

fields_same : (f : List Value) → same_state (Some f) (Some f) ≡ true
fields_same f = record_same (record { key = 0; fields = f })

module _ (ws : List ℕ) (prefer : Prefer) (r : ℕ) (base left right : Contents) (sides : Sides) (are : AreUnshared base left right sides) where
  abbrev change_of : ℕ → Option (List Value) → Option (List Value) → Option (List Value) → List Change
  change_of key b l m = change_where ws r key l (merge_at prefer b l m)

  abbrev clash_of : ℕ → Option (List Value) → Option (List Value) → Option (List Value) → List Clash
  clash_of key b l m = clash_where r key (merge_at prefer b l m)

  -- all three have the same
  same_merge : (f : List Value) → merge_at prefer (Some f) (Some f) (Some f) ≡ Ok (Some f)
  same_merge f = let e = fields_same f in rw e refl

  same_change : (key : ℕ) (f : List Value) → change_of key (Some f) (Some f) (Some f) ≡ []
  same_change key f = ap (change_where ws r key (Some f)) (same_merge f) ∙ ap (λ (b : Bool). cond b [] (record { relation = r; key = key; fields = Some f; widths = Some ws } ∷ [])) (fields_same f)

  same_clash : (key : ℕ) (f : List Value) → clash_of key (Some f) (Some f) (Some f) ≡ []
  same_clash key f = ap (clash_where r key) (same_merge f)

  pub rises_right : Rises sides.right
  rises_right = rises_sorted sides.right are.right_up (apart_front sides.right are.split.common (side_apart right sides.right are.split.common are.split.of_right))

  pub changes_same : record_changes ws prefer r sides.base sides.left sides.right ≡ relation_changes ws prefer r base left right
  changes_same = all_same change_of (λ key. refl) same_change base left right sides.base sides.left sides.right are.split.common are.split.of_base are.split.of_left are.split.of_right rises_right

  pub clashes_same : record_clashes prefer r sides.base sides.left sides.right ≡ relation_clashes prefer r base left right
  clashes_same = all_same clash_of (λ key. refl) same_clash base left right sides.base sides.left sides.right are.split.common are.split.of_base are.split.of_left are.split.of_right rises_right

-- ---- they can be walked

side_rises : (m : Contents) (xs cs : List Record) → IsPermutation (rows_of m) (xs ++ cs) → IsSorted record_cmp xs → Rises xs
side_rises m xs cs p up = rises_sorted xs up (apart_front xs cs (side_apart m xs cs p))

side_fields : (schema : List Relation) (t : Table) (r : ℕ) (xs cs : List Record) → IsTable schema t → r < length schema → IsPermutation (rows_of (relation_at t r)) (xs ++ cs) → HaveFields (length (columns_at schema r)) xs
side_fields schema t r xs cs is h p = have_fields (length (columns_at schema r)) xs (apart_front xs cs (side_apart (relation_at t r) xs cs p))
    (λ q fields e. meets_long (widths_at schema r) fields (is.counted r q fields (subst (λ n. r < n) (sym is.wide) h) (front_get (relation_at t r) xs cs p q fields e)) ∙ as_many schema r)

pub unshared_sides : (schema : List Relation) (r : ℕ) (base left right : Table) (sides : Sides) → r < length schema → IsTable schema base → IsTable schema left → IsTable schema right → AreUnshared (relation_at base r) (relation_at left r) (relation_at right r) sides → AreSides sides.base sides.left sides.right
unshared_sides schema r base left right sides h b l m are =
    let cs : List Record = are.split.common in
    record {
      base_rises = side_rises (relation_at base r) sides.base cs are.split.of_base are.base_up;
      left_rises = side_rises (relation_at left r) sides.left cs are.split.of_left are.left_up;
      right_rises = side_rises (relation_at right r) sides.right cs are.split.of_right are.right_up;
      fields = (length (columns_at schema r), side_fields schema base r sides.base cs b h are.split.of_base, side_fields schema left r sides.left cs l h are.split.of_left, side_fields schema right r sides.right cs m h are.split.of_right);
    }
