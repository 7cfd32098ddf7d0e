-- The changes of a merge ascend by relation and key, and have fields that meet the widths.
use Rattle.std.proofs.Common.{◌≡◌, ℕ, zero, suc, ◌==◌, ◌+◌, ◌<◌, ◌≤◌, Bool, true, false, cond, ◌&&◌, nat_lt, List, [], ◌∷◌, ◌++◌, length, Option, Some, None, Result, Ok, Err, refl, ap, sym, ◌∙◌, subst, arith, ◌⊎◌, inl, inr}
use Rattle.std.specs.List.{flat_map, range_with_len, list_all}
use Rattle.std.specs.FinMap as finite
use Rattle.std.proofs.lemmas.Bool.{lt-ltb, eq-eqb, or_left, or_right, and_from, and_parts}
use Rattle.std.proofs.lemmas.List.{append_assoc}
use Rattle.std.proofs.lemmas.List.Folds.{list_all-append}
use Rattle.db_value.specs.Value.{Value, value_eq}
use Rattle.db_value.specs.Relations.{widths_at}
use Rattle.db_value.specs.Widths.{fits_width, meets}
use Rattle.db_value.proofs.Same.{bytes_same}
use Rattle.db_value.specs.declared.record.Record.{Record}
use Rattle.db_value.specs.declared.entry.Change.{Change}
use Rattle.db_value.specs.declared.schema.Relation.{Relation}
use Rattle.db_value.specs.declared.condition.Prefer.{Prefer}
use Rattle.db_value.specs.declared.condition.Prefer.TheVariants.{Neither, Left, Right}
use Rattle.db_store.specs.Table.{Contents, Table, relation_at, rows_of}
use Rattle.db_store.specs.Counted.{IsTable}
use Rattle.db_store.specs.Fits.{is_before, first_is_before, ascends, has_fields, has_widths, change_fits}
use Rattle.db_store.specs.Overlay.{own_widths, widths_if, change_of}
use Rattle.db_store.specs.RowWidths.{all_widths}
use Rattle.db_store.proofs.WidthLemmas.{widths_here}
use Rattle.db_store.specs.Rising.{Above, Rises, rises_rows}
use Rattle.field_merge.specs.Merge.{preferred, is_base, merge_field, first_field, other_fields, field_then, merge_fields, same_state, of_fields, of_records, merge_changed, merge_at, merge_key, keys_of, union_keys, all_keys, change_where, relation_changes, table_changes}
use Rattle.field_merge.proofs.KeyLemmas.{Over, Climbs, climbs_union}

-- ---- the keys of a relation ascend

over_rows : (key : ℕ) (rows : List Record) → Above key rows → Over key (keys_of rows)
over_rows key [] a = tt
over_rows key (r ∷ rs) a = (a.0, over_rows key rs a.1)

pub climbs_rows : (rows : List Record) → Rises rows → Climbs (keys_of rows)
climbs_rows [] up = tt
climbs_rows (r ∷ rs) up = (over_rows r.key rs up.0, climbs_rows rs up.1)

climbs_keys : (base left right : Contents) → Climbs (all_keys base left right)
climbs_keys base left right = climbs_union (keys_of (rows_of base)) (union_keys (keys_of (rows_of left)) (keys_of (rows_of right))) (climbs_union (keys_of (rows_of left)) (keys_of (rows_of right)) (climbs_rows (rows_of right) (rises_rows right)))

-- ---- and so do the changes

-- no change, or one of this key
abbrev IsOne : ℕ → ℕ → List Change → Type 0
IsOne relation key cs = (cs ≡ []) ⊎ ((ws : List ℕ) × (state : Option (List Value)) × (cs ≡ change_of ws relation (key, state) ∷ []))

one_where : (ws : List ℕ) (relation key : ℕ) (left : Option (List Value)) (r : Result (Option (List Value)) (Option ℕ)) → IsOne relation key (change_where ws relation key left r)
one_where ws relation key left (Err field) = inl refl
one_where ws relation key left (Ok state) = elim (same_state state left) as (λ b. IsOne relation key (cond b [] (change_of ws relation (key, state) ∷ []))) [ true ↦ inl refl | false ↦ inr (ws, state, refl) ]

-- the first change is of a later key of this relation, or of a later relation
abbrev IsLater : ℕ → ℕ → List Change → Type 0
IsLater relation key [] = Unit {0}
IsLater relation key (c ∷ cs) = is_before (record { relation = relation; key = key; fields = None; widths = None }) c ≡ true

-- the first change is of this relation or a later one
abbrev IsFrom : ℕ → List Change → Type 0
IsFrom relation [] = Unit {0}
IsFrom relation (c ∷ cs) = relation ≤ c.relation

later_key : (ws : List ℕ) (relation key k : ℕ) (state : Option (List Value)) (cs : List Change) → key < k → IsLater relation key (change_of ws relation (k, state) ∷ cs)
later_key ws relation key k state cs h = or_right (nat_lt relation relation) (relation == relation && nat_lt key k) (and_from (relation == relation) (nat_lt key k) (eq-eqb relation relation refl) (lt-ltb key k h))

later_relation : (relation key : ℕ) (cs : List Change) → IsFrom (relation + 1) cs → IsLater relation key cs
later_relation relation key [] f = tt
later_relation relation key (c ∷ cs) f = or_left (nat_lt relation c.relation) (relation == c.relation && nat_lt key c.key) (lt-ltb relation c.relation (omega (arith, f)))

ascends_then : (ws : List ℕ) (relation key : ℕ) (state : Option (List Value)) (cs : List Change) → IsLater relation key cs → ascends cs ≡ true → ascends (change_of ws relation (key, state) ∷ cs) ≡ true
ascends_then ws relation key state [] l a = refl
ascends_then ws relation key state (c ∷ cs) l a = and_from (first_is_before (change_of ws relation (key, state) ∷ c ∷ cs)) (ascends (c ∷ cs)) l a

from_less : (a b : ℕ) (cs : List Change) → a ≤ b → IsFrom b cs → IsFrom a cs
from_less a b [] h f = tt
from_less a b (c ∷ cs) h f = omega (arith, h, f)

-- changes of ascending keys before those of later relations
record AreInOrder (relation : ℕ) (ks : List ℕ) (cs : List Change) : Type 0 where
  pub up : ascends cs ≡ true
  pub from : IsFrom relation cs
  pub later : (key : ℕ) → Over key ks → IsLater relation key cs

in_order_one : (relation k : ℕ) (ks : List ℕ) (one cs : List Change) → Over k ks → IsOne relation k one → AreInOrder relation ks cs → AreInOrder relation (k ∷ ks) (one ++ cs)
in_order_one relation k ks one cs o (inl e) i =
    subst (λ (xs : List Change). AreInOrder relation (k ∷ ks) (xs ++ cs)) (sym e) (record { up = i.up; from = i.from; later = λ key h. i.later key h.1 })
in_order_one relation k ks one cs o (inr e) i =
    subst (λ (xs : List Change). AreInOrder relation (k ∷ ks) (xs ++ cs)) (sym e.2) (record {
      up = ascends_then e.0 relation k e.1 cs (i.later k o) i.up;
      from = omega arith;
      later = λ key h. later_key e.0 relation key k e.1 cs h.0;
    })

in_order : (relation : ℕ) (of : ℕ → List Change) (ks : List ℕ) (rest : List Change) → ((key : ℕ) → IsOne relation key (of key)) → Climbs ks → IsFrom (relation + 1) rest → ascends rest ≡ true → AreInOrder relation ks (flat_map of ks ++ rest)
in_order relation of [] rest each c f a = record { up = a; from = from_less relation (relation + 1) rest (omega arith) f; later = λ key h. later_relation relation key rest f }
in_order relation of (k ∷ ks) rest each c f a =
    subst (λ (cs : List Change). AreInOrder relation (k ∷ ks) cs) (sym (append_assoc (of k) (flat_map of ks) rest))
    (in_order_one relation k ks (of k) (flat_map of ks ++ rest) c.0 (each k) (in_order relation of ks rest each c.1 f a))

module _ (wss : List (List ℕ)) (prefer : Prefer) (base left right : Table) where
  abbrev changes_at : ℕ → List Change
  changes_at r = relation_changes (own_widths wss r) prefer r (relation_at base r) (relation_at left r) (relation_at right r)

  all_in_order : (n count : ℕ) → IsFrom n (flat_map changes_at (range_with_len n count)) × (ascends (flat_map changes_at (range_with_len n count)) ≡ true)
  all_in_order n zero = (tt, refl)
  all_in_order n (suc count) =
      let rest = all_in_order (n + 1) count in
      let i = in_order n (λ key. change_where (own_widths wss n) n key (finite.get (relation_at left n) key) (merge_key prefer (relation_at base n) (relation_at left n) (relation_at right n) key)) (all_keys (relation_at base n) (relation_at left n) (relation_at right n)) (flat_map changes_at (range_with_len (n + 1) count))
      (λ key. one_where (own_widths wss n) n key (finite.get (relation_at left n) key) (merge_key prefer (relation_at base n) (relation_at left n) (relation_at right n) key)) (climbs_keys (relation_at base n) (relation_at left n) (relation_at right n)) rest.0 rest.1 in
      (i.from, i.up)

  pub merged_ascends : ascends (table_changes wss prefer base left right) ≡ true
  merged_ascends = (all_in_order 0 (length left)).1

-- ---- what each change passes

module _ (p : Change → Bool) where
  all_flat : (of : ℕ → List Change) (ks : List ℕ) → ((k : ℕ) → list_all p (of k) ≡ true) → list_all p (flat_map of ks) ≡ true
  all_flat of [] each = refl
  all_flat of (k ∷ ks) each = list_all-append p (of k) (flat_map of ks) ∙ and_from (list_all p (of k)) (list_all p (flat_map of ks)) (each k) (all_flat of ks each)

  all_from : (of : ℕ → List Change) (n count most : ℕ) → n + count ≤ most → ((r : ℕ) → r < most → list_all p (of r) ≡ true) → list_all p (flat_map of (range_with_len n count)) ≡ true
  all_from of n zero most h each = refl
  all_from of n (suc count) most h each = list_all-append p (of n) (flat_map of (range_with_len (n + 1) count))
      ∙ and_from (list_all p (of n)) (list_all p (flat_map of (range_with_len (n + 1) count))) (each n (omega arith)) (all_from of (n + 1) count most (omega arith) each)

-- ---- they are of relations of the table

within_where : (ws : List ℕ) (n relation key : ℕ) (left : Option (List Value)) (r : Result (Option (List Value)) (Option ℕ)) → relation < n → list_all (λ (c : Change). nat_lt c.relation n) (change_where ws relation key left r) ≡ true
within_where ws n relation key left (Err field) h = refl
within_where ws n relation key left (Ok state) h = elim (same_state state left) as (λ b. list_all (λ (c : Change). nat_lt c.relation n) (cond b [] (change_of ws relation (key, state) ∷ [])) ≡ true) [
  | true ↦ refl
  | false ↦ and_from (nat_lt relation n) true (lt-ltb relation n h) refl
]

pub merged_within : (wss : List (List ℕ)) (prefer : Prefer) (base left right : Table) → list_all (λ (c : Change). nat_lt c.relation (length left)) (table_changes wss prefer base left right) ≡ true
merged_within wss prefer base left right = all_from (λ (c : Change). nat_lt c.relation (length left)) (λ r. relation_changes (own_widths wss r) prefer r (relation_at base r) (relation_at left r) (relation_at right r)) 0 (length left) (length left) (omega arith)
    (λ r h. all_flat (λ (c : Change). nat_lt c.relation (length left)) (λ key. change_where (own_widths wss r) r key (finite.get (relation_at left r) key) (merge_key prefer (relation_at base r) (relation_at left r) (relation_at right r) key)) (all_keys (relation_at base r) (relation_at left r) (relation_at right r))
    (λ key. within_where (own_widths wss r) (length left) r key (finite.get (relation_at left r) key) (merge_key prefer (relation_at base r) (relation_at left r) (relation_at right r) key) h))

-- ---- they have fields that meet the widths

abbrev FieldsMeet : List ℕ → Result (List Value) ℕ → Type 0
FieldsMeet ws (Ok fields) = meets ws fields ≡ true
FieldsMeet ws (Err column) = Unit {0}

abbrev StateMeets : List ℕ → Result (Option (List Value)) (Option ℕ) → Type 0
StateMeets ws (Ok state) = has_fields ws state ≡ true
StateMeets ws (Err field) = Unit {0}

abbrev IfFits : ℕ → Option Value → Type 0
IfFits w None = Unit {0}
IfFits w (Some v) = fits_width w v ≡ true

then_meets : (w : ℕ) (ws : List ℕ) (column : ℕ) (o : Option Value) (others : Result (List Value) ℕ) → IfFits w o → FieldsMeet ws others → FieldsMeet (w ∷ ws) (field_then column o others)
then_meets w ws column None others f h = tt
then_meets w ws column (Some v) (Ok vs) f h = and_from (fits_width w v) (meets ws vs) f h
then_meets w ws column (Some v) (Err later) f h = tt

one_fits : (w : ℕ) (b : Bool) (v : Value) (o : Option Value) → fits_width w v ≡ true → IfFits w o → IfFits w (cond b (Some v) o)
one_fits w true v o f h = f
one_fits w false v o f h = h

preferred_fits : (w : ℕ) (prefer : Prefer) (l r : Value) → fits_width w l ≡ true → fits_width w r ≡ true → IfFits w (preferred prefer l r)
preferred_fits w Neither l r f g = tt
preferred_fits w Left l r f g = f
preferred_fits w Right l r f g = g

field_fits : (w : ℕ) (prefer : Prefer) (base : Option Value) (l r : Value) → fits_width w l ≡ true → fits_width w r ≡ true → IfFits w (merge_field prefer base l r)
field_fits w prefer base l r f g = one_fits w (value_eq l r) l _ f (one_fits w (is_base base l) r _ g (one_fits w (is_base base r) l _ f (preferred_fits w prefer l r f g)))

fields_meet : (ws : List ℕ) (prefer : Prefer) (column : ℕ) (base : Option (List Value)) (left right : List Value) → meets ws left ≡ true → meets ws right ≡ true → FieldsMeet ws (merge_fields prefer column base left right)
fields_meet [] prefer column base [] right l r = refl
fields_meet [] prefer column base (x ∷ left) right l r = absurd (cc l)
fields_meet (w ∷ ws) prefer column base [] right l r = absurd (cc l)
fields_meet (w ∷ ws) prefer column base (x ∷ left) [] l r = absurd (cc r)
fields_meet (w ∷ ws) prefer column base (x ∷ left) (y ∷ right) l r =
    let a = and_parts (fits_width w x) (meets ws left) l in
    let b = and_parts (fits_width w y) (meets ws right) r in
    then_meets w ws column (merge_field prefer (first_field base) x y) (merge_fields prefer (column + 1) (other_fields base) left right) (field_fits w prefer (first_field base) x y a.0 b.0) (fields_meet ws prefer (column + 1) (other_fields base) left right a.1 b.1)

of_fields_meet : (ws : List ℕ) (r : Result (List Value) ℕ) → FieldsMeet ws r → StateMeets ws (of_fields r)
of_fields_meet ws (Ok vs) h = h
of_fields_meet ws (Err column) h = tt

of_records_meet : (ws : List ℕ) (prefer : Prefer) (left right : Option (List Value)) → has_fields ws left ≡ true → has_fields ws right ≡ true → StateMeets ws (of_records (preferred prefer left right))
of_records_meet ws Neither left right l r = tt
of_records_meet ws Left left right l r = l
of_records_meet ws Right left right l r = r

if_meets : (ws : List ℕ) (b : Bool) (state : Option (List Value)) (r : Result (Option (List Value)) (Option ℕ)) → has_fields ws state ≡ true → StateMeets ws r → StateMeets ws (cond b (Ok state) r)
if_meets ws true state r h k = h
if_meets ws false state r h k = k

changed_meets : (ws : List ℕ) (prefer : Prefer) (base left right : Option (List Value)) → has_fields ws left ≡ true → has_fields ws right ≡ true → StateMeets ws (merge_changed prefer base left right)
changed_meets ws prefer base None right l r = of_records_meet ws prefer None right l r
changed_meets ws prefer base (Some x) None l r = of_records_meet ws prefer (Some x) None l r
changed_meets ws prefer base (Some x) (Some y) l r = of_fields_meet ws (merge_fields prefer 0 base x y) (fields_meet ws prefer 0 base x y l r)

at_meets : (ws : List ℕ) (prefer : Prefer) (base left right : Option (List Value)) → has_fields ws left ≡ true → has_fields ws right ≡ true → StateMeets ws (merge_at prefer base left right)
at_meets ws prefer base left right l r =
    if_meets ws (same_state left right) left _ l (if_meets ws (same_state left base) right _ r (if_meets ws (same_state right base) left _ l (changed_meets ws prefer base left right l r)))

-- widths beside a state are those that a change tells
pub own_told : (ws : List ℕ) (state : Option (List Value)) → has_widths ws state (widths_if ws state) ≡ true
own_told ws None = refl
own_told ws (Some fields) = bytes_same ws

module _ (schema : List Relation) where
  change_meets : (ws : List ℕ) (relation key : ℕ) (left : Option (List Value)) (r : Result (Option (List Value)) (Option ℕ)) → relation < length schema → ws ≡ widths_at schema relation → StateMeets (widths_at schema relation) r → list_all (change_fits schema) (change_where ws relation key left r) ≡ true
  change_meets ws relation key left (Err field) h e k = refl
  change_meets ws relation key left (Ok state) h e k = elim (same_state state left) as (λ b. list_all (change_fits schema) (cond b [] (change_of ws relation (key, state) ∷ [])) ≡ true) [
    | true ↦ refl
    | false ↦
        let own = widths_at schema relation in
        let told : has_widths own state (widths_if ws state) ≡ true = ap (λ (l : List ℕ). has_widths own state (widths_if l state)) e ∙ own_told own state in
        and_from (change_fits schema (change_of ws relation (key, state))) true (and_from (nat_lt relation (length schema)) (has_fields own state && has_widths own state (widths_if ws state)) (lt-ltb relation (length schema) h) (and_from (has_fields own state) (has_widths own state (widths_if ws state)) k told)) refl
  ]

  pub table_meets : (t : Table) (r key : ℕ) → IsTable schema t → r < length schema → has_fields (widths_at schema r) (finite.get (relation_at t r) key) ≡ true
  table_meets t r key is h = at (finite.get (relation_at t r) key) refl
    where
      at : (o : Option (List Value)) → finite.get (relation_at t r) key ≡ o → has_fields (widths_at schema r) o ≡ true
      at None e = refl
      at (Some fields) e = is.counted r key fields (subst (λ n. r < n) (sym is.wide) h) e

  pub merged_fits : (prefer : Prefer) (base left right : Table) → length schema ≤ 8 → IsTable schema left → IsTable schema right → list_all (change_fits schema) (table_changes (all_widths schema) prefer base left right) ≡ true
  merged_fits prefer base left right few l m = all_from (change_fits schema) (λ r. relation_changes (own_widths (all_widths schema) r) prefer r (relation_at base r) (relation_at left r) (relation_at right r)) 0 (length left) (length schema) (omega (arith, l.wide))
      (λ r h. all_flat (change_fits schema) (λ key. change_where (own_widths (all_widths schema) r) r key (finite.get (relation_at left r) key) (merge_key prefer (relation_at base r) (relation_at left r) (relation_at right r) key)) (all_keys (relation_at base r) (relation_at left r) (relation_at right r))
      (λ key. change_meets (own_widths (all_widths schema) r) r key (finite.get (relation_at left r) key) (merge_key prefer (relation_at base r) (relation_at left r) (relation_at right r) key) h (widths_here schema r h (omega (arith, h, few)))
      (at_meets (widths_at schema r) prefer (finite.get (relation_at base r) key) (finite.get (relation_at left r) key) (finite.get (relation_at right r) key) (table_meets left r key l h) (table_meets right r key m h))))
