-- One key of three lists of records by ascending key.
use Rattle.std.proofs.Common.{◌≡◌, ℕ, ◌==◌, ◌+◌, ◌<◌, ◌≤◌, Bool, true, false, cond, ◌||◌, min, List, [], ◌∷◌, ◌++◌, length, Option, Some, None, Result, refl, ap, sym, ◌∙◌, subst, arith, ◌⊎◌, inl, inr}
use Rattle.std.specs.List.{flat_map}
use Rattle.std.proofs.lemmas.List.{append_assoc}
use Rattle.std.proofs.lemmas.Bool.{eqb-true, eqb-false, eq-eqb, ne_eqb, cases_lt, or_left, or_right, or_cases}
use Rattle.db_value.specs.Value.{Value}
use Rattle.db_value.specs.declared.record.Record.{Record}
use Rattle.db_value.specs.declared.entry.Change.{Change}
use Rattle.db_value.specs.declared.condition.Prefer.{Prefer}
use Rattle.db_store.specs.Rising.{Above, Rises}
use Rattle.db_store.specs.SameRows.{fields_in}
use Rattle.field_merge.specs.Merge.{merge_at, keys_of, keys_in, union_keys, change_where, clash_where, Clash, least_clash}
use Rattle.field_merge.specs.Rows.{fields_if, IsOf, AreAlike, AreVersions}
use Rattle.field_merge.specs.Walk.{record_changes, record_clashes, first_at, behind, first_key, lesser, least_key, HaveFields, AreSides}
use Rattle.field_merge.proofs.KeyLemmas.{Over, Taken, union_taken}

-- no key is less, where keys ascend
abbrev pub StartsFrom : ℕ → List Record → Type 0
StartsFrom key [] = Unit {0}
StartsFrom key (r ∷ rs) = key ≤ r.key

-- the first record has this key
abbrev pub starts_with : ℕ → List Record → Bool
starts_with key [] = false
starts_with key (r ∷ rs) = r.key == key

over_keys : (key : ℕ) (rows : List Record) → Above key rows → Over key (keys_of rows)
over_keys key [] a = tt
over_keys key (r ∷ rs) a = (a.0, over_keys key rs a.1)

above_less : (a b : ℕ) (rows : List Record) → a ≤ b → Above b rows → Above a rows
above_less a b [] h o = tt
above_less a b (r ∷ rs) h o = (omega (arith, h, o.0), above_less a b rs h o.1)

-- a list's keys, without its first record if that has the least key
taken : (key : ℕ) (rows : List Record) → Rises rows → StartsFrom key rows → Taken key (starts_with key rows) (keys_of rows) (keys_of (behind key rows))
taken key [] up from = (tt, refl)
taken key (r ∷ rs) up from = elim (r.key == key) as (λ b. (r.key == key) ≡ b → Taken key b (r.key ∷ keys_of rs) (keys_of (cond b rs (r ∷ rs)))) [
  | true ↦ λ e. let same : r.key ≡ key = eqb-true r.key key e in (over_keys key rs (above_less key r.key rs from up.0), ap (λ k. k ∷ keys_of rs) same)
  | false ↦ λ e. let more : key < r.key = further (eqb-false r.key key e) in ((more, over_keys key rs (above_less key r.key rs from up.0)), refl)
] refl
  where
    further : (r.key ≡ key → ⊥) → key < r.key
    further n = omega (arith, from, n)

-- the keys of all three begin with the least one
pub keys_more : (key : ℕ) (base left right : List Record) → Rises base → Rises left → Rises right → StartsFrom key base → StartsFrom key left → StartsFrom key right → (starts_with key base || (starts_with key left || starts_with key right)) ≡ true
    → Over key (keys_in (behind key base) (behind key left) (behind key right)) × (keys_in base left right ≡ key ∷ keys_in (behind key base) (behind key left) (behind key right))
keys_more key base left right ub ul ur fb fl fr some =
    let all = union_taken key (starts_with key base) (starts_with key left || starts_with key right) (keys_of base) (keys_of (behind key base)) (union_keys (keys_of left) (keys_of right)) (union_keys (keys_of (behind key left)) (keys_of (behind key right)))
    (taken key base ub fb)
    (union_taken key (starts_with key left) (starts_with key right) (keys_of left) (keys_of (behind key left)) (keys_of right) (keys_of (behind key right)) (taken key left ul fl) (taken key right ur fr)) in
    subst (λ (b : Bool). Taken key b (keys_in base left right) (keys_in (behind key base) (behind key left) (behind key right))) some all

-- ---- what is found at a key

none_above : (k key : ℕ) (rows : List Record) → k ≤ key → Above key rows → fields_in k rows ≡ None
none_above k key [] h a = refl
none_above k key (r ∷ rs) h a =
    ap (λ (b : Bool). cond b (Some r.fields) (fields_in k rs)) (ne_eqb r.key k (λ e. omega (arith, e, h, a.0)))
    ∙ none_above k key rs h a.1

-- at the least key the first record, if it has that key
pub found_first : (key : ℕ) (rows : List Record) → Rises rows → StartsFrom key rows → fields_in key rows ≡ fields_if (first_at key rows)
found_first key [] up from = refl
found_first key (r ∷ rs) up from = elim (r.key == key) as (λ b. cond b (Some r.fields) (fields_in key rs) ≡ fields_if (cond b (Some r) None)) [
  | true ↦ refl
  | false ↦ none_above key r.key rs from up.0
]

-- at a greater key what is found behind it
found_behind : (key q : ℕ) (rows : List Record) → key < q → fields_in q rows ≡ fields_in q (behind key rows)
found_behind key q [] h = refl
found_behind key q (r ∷ rs) h = elim (r.key == key) as (λ b. (r.key == key) ≡ b → fields_in q (r ∷ rs) ≡ fields_in q (cond b rs (r ∷ rs))) [
  | true ↦ λ e. ap (λ (b : Bool). cond b (Some r.fields) (fields_in q rs)) (ne_eqb r.key q (λ s. omega (arith, s, h, eqb-true r.key key e)))
  | false ↦ λ e. refl
] refl

same_over : {A : Type 0} (f g : ℕ → List A) (key : ℕ) (ks : List ℕ) → Over key ks → ((q : ℕ) → key < q → f q ≡ g q) → flat_map f ks ≡ flat_map g ks
same_over f g key [] o h = refl
same_over f g key (k ∷ ks) o h = λ i. h k o.0 i ++ same_over f g key ks o.1 h i

-- ---- the least key first, and then the others

module _ (ws : List ℕ) (prefer : Prefer) (relation : ℕ) (key : ℕ) (base left right : List Record) where
  -- what the merge has at the least key
  abbrev pub merged_first : Result (Option (List Value)) (Option ℕ)
  merged_first = merge_at prefer (fields_if (first_at key base)) (fields_if (first_at key left)) (fields_if (first_at key right))

  pub changes_more : Rises base → Rises left → Rises right → StartsFrom key base → StartsFrom key left → StartsFrom key right → (starts_with key base || (starts_with key left || starts_with key right)) ≡ true
      → record_changes ws prefer relation base left right ≡ change_where ws relation key (fields_if (first_at key left)) merged_first ++ record_changes ws prefer relation (behind key base) (behind key left) (behind key right)
  changes_more ub ul ur fb fl fr some =
      let keys = keys_more key base left right ub ul ur fb fl fr some in
      ap (flat_map (λ k. change_where ws relation k (fields_in k left) (merge_at prefer (fields_in k base) (fields_in k left) (fields_in k right)))) keys.1
      ∙ (λ i. change_where ws relation key (found_first key left ul fl i) (merge_at prefer (found_first key base ub fb i) (found_first key left ul fl i) (found_first key right ur fr i))
      ++ same_over (λ k. change_where ws relation k (fields_in k left) (merge_at prefer (fields_in k base) (fields_in k left) (fields_in k right)))
      (λ k. change_where ws relation k (fields_in k (behind key left)) (merge_at prefer (fields_in k (behind key base)) (fields_in k (behind key left)) (fields_in k (behind key right)))) key _ keys.0
      (λ q h. λ j. change_where ws relation q (found_behind key q left h j) (merge_at prefer (found_behind key q base h j) (found_behind key q left h j) (found_behind key q right h j))) i)

  pub clashes_more : Rises base → Rises left → Rises right → StartsFrom key base → StartsFrom key left → StartsFrom key right → (starts_with key base || (starts_with key left || starts_with key right)) ≡ true
      → record_clashes prefer relation base left right ≡ clash_where relation key merged_first ++ record_clashes prefer relation (behind key base) (behind key left) (behind key right)
  clashes_more ub ul ur fb fl fr some =
      let keys = keys_more key base left right ub ul ur fb fl fr some in
      ap (flat_map (λ k. clash_where relation k (merge_at prefer (fields_in k base) (fields_in k left) (fields_in k right)))) keys.1
      ∙ (λ i. clash_where relation key (merge_at prefer (found_first key base ub fb i) (found_first key left ul fl i) (found_first key right ur fr i))
      ++ same_over (λ k. clash_where relation k (merge_at prefer (fields_in k base) (fields_in k left) (fields_in k right)))
      (λ k. clash_where relation k (merge_at prefer (fields_in k (behind key base)) (fields_in k (behind key left)) (fields_in k (behind key right)))) key _ keys.0
      (λ q h. λ j. clash_where relation q (merge_at prefer (found_behind key q base h j) (found_behind key q left h j) (found_behind key q right h j))) i)

-- ---- the least key of three lists

-- a key is among those that are there, and is not greater than any
abbrev NotLess : ℕ → Option ℕ → Type 0
NotLess key None = Unit {0}
NotLess key (Some k) = key ≤ k

abbrev is_key : ℕ → Option ℕ → Bool
is_key key None = false
is_key key (Some k) = k == key

not_less : (key : ℕ) (a b : Option ℕ) → NotLess key (lesser a b) → NotLess key a × NotLess key b
not_less key None b h = (tt, h)
not_less key (Some x) None h = (h, tt)
not_less key (Some x) (Some y) h = (omega (arith, h), omega (arith, h))

some_is : (x y : ℕ) → Some x ≡ Some y → x ≡ y
some_is x y e = cc

is_one : (key : ℕ) (a b : Option ℕ) → lesser a b ≡ Some key → (is_key key a || is_key key b) ≡ true
is_one key None None e = absurd cc
is_one key None (Some y) e = eq-eqb y key (some_is y key e)
is_one key (Some x) None e = or_left (x == key) false (eq-eqb x key (some_is x key e))
is_one key (Some x) (Some y) e = at (some_is (min x y) key e) (cases_lt x y)
  where
    at : min x y ≡ key → (x < y) ⊎ (y ≤ x) → ((x == key) || (y == key)) ≡ true
    at m (inl l) = or_left (x == key) (y == key) (eq-eqb x key (omega (arith, m, l)))
    at m (inr l) = or_right (x == key) (y == key) (eq-eqb y key (omega (arith, m, l)))

key_is : (key : ℕ) (a : Option ℕ) → is_key key a ≡ true → a ≡ Some key
key_is key None e = absurd cc
key_is key (Some x) e = ap Some (eqb-true x key e)

among_three : (key : ℕ) (a b c : Option ℕ) → lesser a (lesser b c) ≡ Some key → (is_key key a || (is_key key b || is_key key c)) ≡ true
among_three key a b c e = at (or_cases (is_key key a) (is_key key (lesser b c)) (is_one key a (lesser b c) e))
  where
    at : (is_key key a ≡ true) ⊎ (is_key key (lesser b c) ≡ true) → (is_key key a || (is_key key b || is_key key c)) ≡ true
    at (inl h) = or_left (is_key key a) (is_key key b || is_key key c) h
    at (inr h) = or_right (is_key key a) (is_key key b || is_key key c) (is_one key b c (key_is key (lesser b c) h))

starts_is : (key : ℕ) (rows : List Record) → is_key key (first_key rows) ≡ starts_with key rows
starts_is key [] = refl
starts_is key (r ∷ rs) = refl

from_is : (key : ℕ) (rows : List Record) → NotLess key (first_key rows) → StartsFrom key rows
from_is key [] h = tt
from_is key (r ∷ rs) h = h

-- no key of three lists is less, and one of them begins with it
pub record IsLeast (key : ℕ) (base left right : List Record) : Type 0 where
  pub from_base : StartsFrom key base
  pub from_left : StartsFrom key left
  pub from_right : StartsFrom key right
  pub some : (starts_with key base || (starts_with key left || starts_with key right)) ≡ true

pub least_is : (key : ℕ) (base left right : List Record) → least_key base left right ≡ Some key → IsLeast key base left right
least_is key base left right e =
    let all = not_less key (first_key base) (lesser (first_key left) (first_key right)) (subst (NotLess key) (sym e) (omega arith)) in
    let sides = not_less key (first_key left) (first_key right) all.1 in
    record {
      from_base = from_is key base all.0;
      from_left = from_is key left sides.0;
      from_right = from_is key right sides.1;
      some = sym (λ i. starts_is key base i || (starts_is key left i || starts_is key right i)) ∙ among_three key (first_key base) (first_key left) (first_key right) e;
    }

-- without a key nothing is left
pub nothing_left : (base left right : List Record) → least_key base left right ≡ None → (base ≡ []) × (left ≡ []) × (right ≡ [])
nothing_left [] [] [] e = (refl, refl, refl)
nothing_left [] [] (z ∷ zs) e = absurd cc
nothing_left [] (y ∷ ys) [] e = absurd cc
nothing_left [] (y ∷ ys) (z ∷ zs) e = absurd cc
nothing_left (x ∷ xs) [] [] e = absurd cc
nothing_left (x ∷ xs) [] (z ∷ zs) e = absurd cc
nothing_left (x ∷ xs) (y ∷ ys) [] e = absurd cc
nothing_left (x ∷ xs) (y ∷ ys) (z ∷ zs) e = absurd cc

-- ---- what is left behind a key

rises_behind : (key : ℕ) (rows : List Record) → Rises rows → Rises (behind key rows)
rises_behind key [] up = tt
rises_behind key (r ∷ rs) up = elim (r.key == key) as (λ b. Rises (cond b rs (r ∷ rs))) [ true ↦ up.1 | false ↦ up ]

fields_behind : (n key : ℕ) (rows : List Record) → HaveFields n rows → HaveFields n (behind key rows)
fields_behind n key [] h = tt
fields_behind n key (r ∷ rs) h = elim (r.key == key) as (λ b. HaveFields n (cond b rs (r ∷ rs))) [ true ↦ h.1 | false ↦ h ]

pub sides_behind : (key : ℕ) (base left right : List Record) → AreSides base left right → AreSides (behind key base) (behind key left) (behind key right)
sides_behind key base left right s = record {
  base_rises = rises_behind key base s.base_rises;
  left_rises = rises_behind key left s.left_rises;
  right_rises = rises_behind key right s.right_rises;
  fields = (s.fields.0, fields_behind s.fields.0 key base s.fields.1, fields_behind s.fields.0 key left s.fields.2, fields_behind s.fields.0 key right s.fields.3);
}

first_of : (n key : ℕ) (rows : List Record) → HaveFields n rows → IsOf key n (first_at key rows)
first_of n key [] h = tt
first_of n key (r ∷ rs) h = elim (r.key == key) as (λ b. (r.key == key) ≡ b → IsOf key n (cond b (Some r) None)) [
  | true ↦ λ e. (eqb-true r.key key e, h.0)
  | false ↦ λ e. tt
] refl

alike : (n key : ℕ) (a b : Option Record) → IsOf key n a → IsOf key n b → AreAlike a b
alike n key None b h k = tt
alike n key (Some x) None h k = tt
alike n key (Some x) (Some y) h k = (h.0 ∙ sym k.0, h.1 ∙ sym k.1)

-- records of one key with as many fields
pub versions_of : (n key : ℕ) (base left right : Option Record) → IsOf key n base → IsOf key n left → IsOf key n right → AreVersions base left right
versions_of n key base left right b l m = record { base_left = alike n key base left b l; base_right = alike n key base right b m; left_right = alike n key left right l m }

pub versions_first : (key : ℕ) (base left right : List Record) → AreSides base left right → AreVersions (first_at key base) (first_at key left) (first_at key right)
versions_first key base left right s =
    versions_of s.fields.0 key (first_at key base) (first_at key left) (first_at key right) (first_of s.fields.0 key base s.fields.1) (first_of s.fields.0 key left s.fields.2) (first_of s.fields.0 key right s.fields.3)

shorter : (key : ℕ) (rows : List Record) → starts_with key rows ≡ true → length (behind key rows) < length rows
shorter key [] e = absurd cc
shorter key (r ∷ rs) e = subst (λ (b : Bool). length (cond b rs (r ∷ rs)) < length (r ∷ rs)) (sym e) (omega arith)

no_longer : (key : ℕ) (rows : List Record) → length (behind key rows) ≤ length rows
no_longer key [] = omega arith
no_longer key (r ∷ rs) = elim (r.key == key) as (λ b. length (cond b rs (r ∷ rs)) ≤ length (r ∷ rs)) [ true ↦ omega arith | false ↦ omega arith ]

pub fewer : (key : ℕ) (base left right : List Record) → IsLeast key base left right → length (behind key base) + length (behind key left) + length (behind key right) < length base + length left + length right
fewer key base left right l = at (or_cases (starts_with key base) (starts_with key left || starts_with key right) l.some)
  where
    of_sides : (starts_with key left ≡ true) ⊎ (starts_with key right ≡ true) → length (behind key base) + length (behind key left) + length (behind key right) < length base + length left + length right
    of_sides (inl h) = omega (arith, shorter key left h, no_longer key base, no_longer key right)
    of_sides (inr h) = omega (arith, shorter key right h, no_longer key base, no_longer key left)

    at : (starts_with key base ≡ true) ⊎ ((starts_with key left || starts_with key right) ≡ true) → length (behind key base) + length (behind key left) + length (behind key right) < length base + length left + length right
    at (inl h) = omega (arith, shorter key base h, no_longer key left, no_longer key right)
    at (inr h) = of_sides (or_cases (starts_with key left) (starts_with key right) h)

-- ---- one turn of the walk

-- the call that merges one key is handed these
pub record AreFirst (key : ℕ) (base left right : List Record) (b l m : Option Record) : Type 0 where
  pub base_is : b ≡ first_at key base
  pub left_is : l ≡ first_at key left
  pub right_is : m ≡ first_at key right

-- and these are left
pub record AreBehind (key : ℕ) (base left right bs ls ms : List Record) : Type 0 where
  pub base_is : bs ≡ behind key base
  pub left_is : ls ≡ behind key left
  pub right_is : ms ≡ behind key right

module _ (ws : List ℕ) (prefer : Prefer) (relation : ℕ) (key : ℕ) (base left right : List Record) (b l m : Option Record) (sides : AreSides base left right) (least : least_key base left right ≡ Some key) (first : AreFirst key base left right b l m) where
  abbrev told : Result (Option (List Value)) (Option ℕ)
  told = merge_at prefer (fields_if b) (fields_if l) (fields_if m)

  clashes_are : record_clashes prefer relation base left right ≡ clash_where relation key told ++ record_clashes prefer relation (behind key base) (behind key left) (behind key right)
  clashes_are =
      let is = least_is key base left right least in
      clashes_more ws prefer relation key base left right sides.base_rises sides.left_rises sides.right_rises is.from_base is.from_left is.from_right is.some
      ∙ sym (λ i. clash_where relation key (merge_at prefer (fields_if (first.base_is i)) (fields_if (first.left_is i)) (fields_if (first.right_is i))) ++ record_clashes prefer relation (behind key base) (behind key left) (behind key right))

  changes_are : record_changes ws prefer relation base left right ≡ change_where ws relation key (fields_if l) told ++ record_changes ws prefer relation (behind key base) (behind key left) (behind key right)
  changes_are =
      let is = least_is key base left right least in
      changes_more ws prefer relation key base left right sides.base_rises sides.left_rises sides.right_rises is.from_base is.from_left is.from_right is.some
      ∙ sym (λ i. change_where ws relation key (fields_if (first.left_is i)) (merge_at prefer (fields_if (first.base_is i)) (fields_if (first.left_is i)) (fields_if (first.right_is i))) ++ record_changes ws prefer relation (behind key base) (behind key left) (behind key right))

  -- a conflict is the least one
  pub clash_first : (c : Clash) → clash_where relation key told ≡ c ∷ [] → least_clash (record_clashes prefer relation base left right) ≡ Some c
  clash_first c e = ap least_clash (clashes_are ∙ ap (λ (cs : List Clash). cs ++ record_clashes prefer relation (behind key base) (behind key left) (behind key right)) e)

  module _ (bs ls ms : List Record) (rest : AreBehind key base left right bs ls ms) where
    pub clashes_walked : clash_where relation key told ≡ [] → record_clashes prefer relation bs ls ms ≡ record_clashes prefer relation base left right
    clashes_walked e =
        (λ i. record_clashes prefer relation (rest.base_is i) (rest.left_is i) (rest.right_is i))
        ∙ sym (clashes_are ∙ ap (λ (cs : List Clash). cs ++ record_clashes prefer relation (behind key base) (behind key left) (behind key right)) e)

    pub changes_walked : (old new : List Change) → new ≡ old ++ change_where ws relation key (fields_if l) told → new ++ record_changes ws prefer relation bs ls ms ≡ old ++ record_changes ws prefer relation base left right
    changes_walked old new e =
        (λ i. e i ++ record_changes ws prefer relation (rest.base_is i) (rest.left_is i) (rest.right_is i))
        ∙ append_assoc old (change_where ws relation key (fields_if l) told) (record_changes ws prefer relation (behind key base) (behind key left) (behind key right))
        ∙ ap (λ (cs : List Change). old ++ cs) (sym changes_are)

    pub sides_walked : AreSides bs ls ms
    sides_walked =
        subst (λ (xs : List Record). AreSides xs ls ms) (sym rest.base_is)
        (subst (λ (xs : List Record). AreSides (behind key base) xs ms) (sym rest.left_is)
        (subst (λ (xs : List Record). AreSides (behind key base) (behind key left) xs) (sym rest.right_is) (sides_behind key base left right sides)))
