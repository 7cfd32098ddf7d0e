-- The table after the changes of a merge has what the merge has at each key.
use Rattle.std.proofs.Common.{◌≡◌, ℕ, zero, suc, ◌==◌, ◌+◌, ◌<◌, ◌≤◌, Bool, true, false, cond, ◌&&◌, ◌||◌, List, [], ◌∷◌, ◌++◌, length, get_or, Option, Some, None, Result, Ok, Err, refl, ap, sym, ◌∙◌, subst, arith, ◌⊎◌, inl, inr}
use Rattle.std.specs.List.{flat_map, range_with_len, list_any, AllByRecursion}
use Rattle.std.specs.FinMap as finite
use Rattle.std.proofs.lemmas.Bool.{eq-eqb, eqb-true, ne_eqb, false≢true, or_left, or_right, or_parts, cases_eq, and_parts}
use Rattle.std.proofs.lemmas.List.{get_or-set_same, get_or-set_other, length-set}
use Rattle.std.proofs.lemmas.List.Folds.{list_any-append}
use Rattle.std.proofs.lemmas.Option.{none-some}
use Rattle.db_value.specs.Value.{Value}
use Rattle.db_value.specs.declared.record.Record.{Record}
use Rattle.db_value.specs.declared.entry.Change.{Change}
use Rattle.db_value.specs.declared.condition.Prefer.{Prefer}
use Rattle.db_value.proofs.OrderLemmas.{record_is}
use Rattle.db_store.specs.Table.{Contents, Table, relation_at, rows_of, changed, with_change, with_changes}
use Rattle.db_store.specs.TouchRules.{same_key}
use Rattle.db_store.specs.OverlayRules.{get_change}
use Rattle.db_store.specs.SameRows.{fields_in, fields_rows}
use Rattle.db_store.proofs.RowLemmas.{all_append}
use Rattle.db_store.specs.Overlay.{own_widths, change_of}
use Rattle.field_merge.specs.Merge.{merge_at, merge_key, same_state, keys_of, put_key, union_keys, all_keys, change_where, clash_where, relation_changes, relation_clashes, table_changes, table_clashes}
use Rattle.field_merge.proofs.KeyLemmas.{put_cases}

-- ---- one change

-- a change of this key
abbrev is_at : ℕ → ℕ → Change → Bool
is_at r key c = r == c.relation && key == c.key

get_with : (t : Table) (c : Change) (r key : ℕ) → r < length t → finite.get (relation_at (with_change t c) r) key ≡ cond (is_at r key c) c.fields (finite.get (relation_at t r) key)
get_with t c r key h = at (cases_eq r c.relation)
  where
    at : (r ≡ c.relation) ⊎ (r ≡ c.relation → ⊥) → finite.get (relation_at (with_change t c) r) key ≡ cond (is_at r key c) c.fields (finite.get (relation_at t r) key)
    at (inl e) =
        ap (λ (m : Contents). finite.get m key) (ap (λ n. get_or (with_change t c) n finite.empty) e ∙ get_or-set_same t c.relation (changed (relation_at t c.relation) c.key c.fields) finite.empty (subst (λ n. n < length t) e h))
        ∙ get_change (relation_at t c.relation) c.key c.fields key
        ∙ ap (λ (b : Bool). cond b c.fields (finite.get (relation_at t c.relation) key)) (same_key key c.key)
        ∙ ap (λ n. cond (key == c.key) c.fields (finite.get (relation_at t n) key)) (sym e)
        ∙ ap (λ (b : Bool). cond (b && key == c.key) c.fields (finite.get (relation_at t r) key)) (sym (eq-eqb r c.relation e))
    at (inr n) =
        ap (λ (m : Contents). finite.get m key) (get_or-set_other t c.relation r (changed (relation_at t c.relation) c.key c.fields) finite.empty n)
        ∙ ap (λ (b : Bool). cond (b && key == c.key) c.fields (finite.get (relation_at t r) key)) (sym (ne_eqb r c.relation n))

-- changes that give each key what it is to have, where every other key has it
made_by : (to : ℕ → ℕ → Option (List Value)) (cs : List Change) (t : Table) → AllByRecursion (λ c. c.fields ≡ to c.relation c.key) cs
    → ((r key : ℕ) → r < length t → list_any (is_at r key) cs ≡ false → finite.get (relation_at t r) key ≡ to r key)
    → (r key : ℕ) → r < length t → finite.get (relation_at (with_changes t cs) r) key ≡ to r key
made_by to [] t all others r key h = others r key h refl
made_by to (c ∷ cs) t all others r key h =
    made_by to cs (with_change t c) all.1 (λ q k l n. let wide : q < length t = subst (λ w. q < w) (length-set t c.relation (changed (relation_at t c.relation) c.key c.fields)) l in get_with t c q k wide ∙ one q k wide (is_at q k c) refl n)
    r key (subst (λ w. r < w) (sym (length-set t c.relation (changed (relation_at t c.relation) c.key c.fields))) h)
  where
    one : (q k : ℕ) → q < length t → (b : Bool) → is_at q k c ≡ b → list_any (is_at q k) cs ≡ false → cond b c.fields (finite.get (relation_at t q) k) ≡ to q k
    one q k wide true e n = let two = and_parts (q == c.relation) (k == c.key) e in all.0 ∙ sym (λ i. to (eqb-true q c.relation two.0 i) (eqb-true k c.key two.1 i))
    one q k wide false e n = others q k wide (ap (λ (b : Bool). b || list_any (is_at q k) cs) e ∙ n)

-- ---- members

-- whether a number is one of these
abbrev pub among : ℕ → List ℕ → Bool
among k ks = list_any (λ x. k == x) ks

append_nil : {A : Type 0} (xs ys : List A) → xs ++ ys ≡ [] → (xs ≡ []) × (ys ≡ [])
append_nil [] ys e = (refl, e)
append_nil (x ∷ xs) ys e = absurd cc

module _ {A : Type 0} (of : ℕ → List A) where
  none_of : (k : ℕ) (ks : List ℕ) → among k ks ≡ true → flat_map of ks ≡ [] → of k ≡ []
  none_of k [] m e = absurd (false≢true m)
  none_of k (x ∷ xs) m e = at (k == x) refl m (λ h. none_of k xs h (append_nil (of x) (flat_map of xs) e).1)
    where
      at : (b : Bool) → (k == x) ≡ b → (b || among k xs) ≡ true → (among k xs ≡ true → of k ≡ []) → of k ≡ []
      at true q m later = ap of (eqb-true k x q) ∙ (append_nil (of x) (flat_map of xs) e).0
      at false q m later = later m

  unmentioned : (test : A → Bool) (k : ℕ) (ks : List ℕ) → among k ks ≡ true → list_any test (flat_map of ks) ≡ false → list_any test (of k) ≡ false
  unmentioned test k [] m e = absurd (false≢true m)
  unmentioned test k (x ∷ xs) m e = at (k == x) refl m (λ h. unmentioned test k xs h (or_parts (list_any test (of x)) (list_any test (flat_map of xs)) (sym (list_any-append test (of x) (flat_map of xs)) ∙ e)).1)
    where
      at : (b : Bool) → (k == x) ≡ b → (b || among k xs) ≡ true → (among k xs ≡ true → list_any test (of k) ≡ false) → list_any test (of k) ≡ false
      at true q m later = ap (λ n. list_any test (of n)) (eqb-true k x q) ∙ (or_parts (list_any test (of x)) (list_any test (flat_map of xs)) (sym (list_any-append test (of x) (flat_map of xs)) ∙ e)).0
      at false q m later = later m

  all_of : (P : A → Type 0) (ks : List ℕ) → ((k : ℕ) → AllByRecursion P (of k)) → AllByRecursion P (flat_map of ks)
  all_of P [] each = tt
  all_of P (k ∷ ks) each = all_append P (of k) (flat_map of ks) (each k) (all_of P ks each)

among_range : (r n count : ℕ) → n ≤ r → r < n + count → among r (range_with_len n count) ≡ true
among_range r n zero h l = absurd (omega (arith, h, l))
among_range r n (suc count) h l = at (cases_eq r n) (λ e. among_range r (n + 1) count (omega (arith, h, e)) (omega (arith, l)))
  where
    at : (r ≡ n) ⊎ (r ≡ n → ⊥) → ((r ≡ n → ⊥) → among r (range_with_len (n + 1) count) ≡ true) → ((r == n) || among r (range_with_len (n + 1) count)) ≡ true
    at (inl e) later = or_left (r == n) (among r (range_with_len (n + 1) count)) (eq-eqb r n e)
    at (inr e) later = or_right (r == n) (among r (range_with_len (n + 1) count)) (later e)

among_later : (k x : ℕ) (xs : List ℕ) → among k xs ≡ true → among k (x ∷ xs) ≡ true
among_later k x xs m = or_right (k == x) (list_any (λ y. k == y) xs) m

among_first : (k x : ℕ) (xs : List ℕ) → k ≡ x → among k (x ∷ xs) ≡ true
among_first k x xs e = or_left (k == x) (list_any (λ y. k == y) xs) (eq-eqb k x e)

among_put : (k key : ℕ) (ks : List ℕ) → among k ks ≡ true → among k (put_key key ks) ≡ true
among_put k key [] m = absurd (false≢true m)
among_put k key (x ∷ xs) m = put_cases (λ (r : List ℕ). among k r ≡ true) key x xs (λ l. among_later k key (x ∷ xs) m) (λ e. m) (λ g. at (k == x) refl m (among_put k key xs))
  where
    at : (b : Bool) → (k == x) ≡ b → (b || among k xs) ≡ true → (among k xs ≡ true → among k (put_key key xs) ≡ true) → among k (x ∷ put_key key xs) ≡ true
    at true q m later = among_first k x (put_key key xs) (eqb-true k x q)
    at false q m later = among_later k x (put_key key xs) (later m)

put_among : (key : ℕ) (ks : List ℕ) → among key (put_key key ks) ≡ true
put_among key [] = among_first key key [] refl
put_among key (x ∷ xs) = put_cases (λ (r : List ℕ). among key r ≡ true) key x xs (λ l. among_first key key (x ∷ xs) refl) (λ e. among_first key x xs e) (λ g. among_later key x (put_key key xs) (put_among key xs))

pub union_right : (k : ℕ) (xs ys : List ℕ) → among k ys ≡ true → among k (union_keys xs ys) ≡ true
union_right k [] ys m = m
union_right k (x ∷ xs) ys m = among_put k x (union_keys xs ys) (union_right k xs ys m)

pub union_left : (k : ℕ) (xs ys : List ℕ) → among k xs ≡ true → among k (union_keys xs ys) ≡ true
union_left k [] ys m = absurd (false≢true m)
union_left k (x ∷ xs) ys m = at (k == x) refl m (union_left k xs ys)
  where
    at : (b : Bool) → (k == x) ≡ b → (b || among k xs) ≡ true → (among k xs ≡ true → among k (union_keys xs ys) ≡ true) → among k (put_key x (union_keys xs ys)) ≡ true
    at true q m later = subst (λ n. among n (put_key x (union_keys xs ys)) ≡ true) (sym (eqb-true k x q)) (put_among x (union_keys xs ys))
    at false q m later = among_put k x (union_keys xs ys) (later m)

pub among_keys : (key : ℕ) (rows : List Record) (fields : List Value) → fields_in key rows ≡ Some fields → among key (keys_of rows) ≡ true
among_keys key [] fields e = absurd (none-some fields e)
among_keys key (r ∷ rs) fields e = at (r.key == key) refl e (among_keys key rs fields)
  where
    at : (b : Bool) → (r.key == key) ≡ b → cond b (Some r.fields) (fields_in key rs) ≡ Some fields → (fields_in key rs ≡ Some fields → among key (keys_of rs) ≡ true) → among key (r.key ∷ keys_of rs) ≡ true
    at true q f later = among_first key r.key (keys_of rs) (sym (eqb-true r.key key q))
    at false q f later = among_later key r.key (keys_of rs) (later f)

-- at a key that isn't among those of a relation nothing is
none_at : (m : Contents) (key : ℕ) (ks : List ℕ) → (among key (keys_of (rows_of m)) ≡ true → among key ks ≡ true) → among key ks ≡ false → finite.get m key ≡ None
none_at m key ks into out = at (finite.get m key) refl
  where
    at : (o : Option (List Value)) → finite.get m key ≡ o → o ≡ None
    at None e = refl
    at (Some fields) e = absurd (false≢true (sym out ∙ into (among_keys key (rows_of m) fields (fields_rows m key ∙ e))))

-- ---- what the merge has

abbrev kept : Result (Option (List Value)) (Option ℕ) → Option (List Value)
kept (Ok state) = state
kept (Err field) = None

same_is : (a b : Option (List Value)) → same_state a b ≡ true → a ≡ b
same_is None None e = refl
same_is None (Some y) e = absurd (false≢true e)
same_is (Some x) None e = absurd (false≢true e)
same_is (Some x) (Some y) e = ap (λ (r : Record). Some r.fields) (record_is (record { key = 0; fields = x }) (record { key = 0; fields = y }) e)

free_is : (r key : ℕ) (res : Result (Option (List Value)) (Option ℕ)) → clash_where r key res ≡ [] → res ≡ Ok (kept res)
free_is r key (Ok state) e = refl
free_is r key (Err field) e = absurd cc

right_fields : (ws : List ℕ) (to : ℕ → ℕ → Option (List Value)) (r key : ℕ) (left : Option (List Value)) (res : Result (Option (List Value)) (Option ℕ)) → to r key ≡ kept res → AllByRecursion (λ c. c.fields ≡ to c.relation c.key) (change_where ws r key left res)
right_fields ws to r key left (Err field) e = tt
right_fields ws to r key left (Ok state) e = elim (same_state state left) as (λ b. AllByRecursion (λ (c : Change). c.fields ≡ to c.relation c.key) (cond b [] (change_of ws r (key, state) ∷ []))) [ true ↦ tt | false ↦ (sym e, tt) ]

-- a key that isn't listed is as left has it
unlisted : (ws : List ℕ) (r key : ℕ) (left : Option (List Value)) (res : Result (Option (List Value)) (Option ℕ)) → res ≡ Ok (kept res) → list_any (is_at r key) (change_where ws r key left res) ≡ false → left ≡ kept res
unlisted ws r key left (Err field) k e = absurd cc
unlisted ws r key left (Ok state) k e = at (same_state state left) refl e
  where
    at : (b : Bool) → same_state state left ≡ b → list_any (is_at r key) (cond b [] (change_of ws r (key, state) ∷ [])) ≡ false → left ≡ state
    at true q f = sym (same_is state left q)
    at false q f = absurd (false≢true (sym f ∙ ap (λ (b : Bool). (b && key == key) || false) (eq-eqb r r refl) ∙ ap (λ (b : Bool). b || false) (eq-eqb key key refl)))

module _ (wss : List (List ℕ)) (prefer : Prefer) (base left right : Table) (free : table_clashes prefer base left right ≡ []) where
  abbrev keys_at : ℕ → List ℕ
  keys_at r = all_keys (relation_at base r) (relation_at left r) (relation_at right r)

  abbrev res_at : ℕ → ℕ → Result (Option (List Value)) (Option ℕ)
  res_at r key = merge_key prefer (relation_at base r) (relation_at left r) (relation_at right r) key

  nothing_at : (r key : ℕ) → among key (keys_at r) ≡ false → (res_at r key ≡ Ok None) × (finite.get (relation_at left r) key ≡ None)
  nothing_at r key out =
      let b = keys_of (rows_of (relation_at base r)) in
      let l = keys_of (rows_of (relation_at left r)) in
      let m = keys_of (rows_of (relation_at right r)) in
      let none_base : finite.get (relation_at base r) key ≡ None = none_at (relation_at base r) key (keys_at r) (λ h. union_left key b (union_keys l m) h) out in
      let none_left : finite.get (relation_at left r) key ≡ None = none_at (relation_at left r) key (keys_at r) (λ h. union_right key b (union_keys l m) (union_left key l m h)) out in
      let none_right : finite.get (relation_at right r) key ≡ None = none_at (relation_at right r) key (keys_at r) (λ h. union_right key b (union_keys l m) (union_right key l m h)) out in
      ((λ i. merge_at prefer (none_base i) (none_left i) (none_right i)), none_left)

  kept_at : (r key : ℕ) → r < length left → res_at r key ≡ Ok (kept (res_at r key))
  kept_at r key h = at (among key (keys_at r)) refl
    where
      at : (b : Bool) → among key (keys_at r) ≡ b → res_at r key ≡ Ok (kept (res_at r key))
      at true q = free_is r key (res_at r key) (none_of (λ k. clash_where r k (res_at r k)) key (keys_at r) q
          (none_of (λ n. relation_clashes prefer n (relation_at base n) (relation_at left n) (relation_at right n)) r (range_with_len 0 (length left)) (among_range r 0 (length left) (omega arith) (omega (arith, h))) free))
      at false q = let none = (nothing_at r key q).0 in none ∙ ap (λ (o : Result (Option (List Value)) (Option ℕ)). Ok (kept o)) (sym none)

  unlisted_at : (r key : ℕ) → r < length left → list_any (is_at r key) (table_changes wss prefer base left right) ≡ false → finite.get (relation_at left r) key ≡ kept (res_at r key)
  unlisted_at r key h e = at (among key (keys_at r)) refl
    where
      at : (b : Bool) → among key (keys_at r) ≡ b → finite.get (relation_at left r) key ≡ kept (res_at r key)
      at true q = unlisted (own_widths wss r) r key (finite.get (relation_at left r) key) (res_at r key) (kept_at r key h)
          (unmentioned (λ k. change_where (own_widths wss r) r k (finite.get (relation_at left r) k) (res_at r k)) (is_at r key) key (keys_at r) q
          (unmentioned (λ n. relation_changes (own_widths wss n) prefer n (relation_at base n) (relation_at left n) (relation_at right n)) (is_at r key) r (range_with_len 0 (length left)) (among_range r 0 (length left) (omega arith) (omega (arith, h))) e))
      at false q = let none = nothing_at r key q in none.1 ∙ ap kept (sym none.0)

  -- the changes of left make the merge
  pub merged_table : (r key : ℕ) → r < length left → res_at r key ≡ Ok (finite.get (relation_at (with_changes left (table_changes wss prefer base left right)) r) key)
  merged_table r key h = kept_at r key h ∙ ap Ok (sym (made_by (λ n k. kept (res_at n k)) (table_changes wss prefer base left right) left
      (all_of (λ n. relation_changes (own_widths wss n) prefer n (relation_at base n) (relation_at left n) (relation_at right n)) (λ (c : Change). c.fields ≡ kept (res_at c.relation c.key)) (range_with_len 0 (length left))
      (λ n. all_of (λ k. change_where (own_widths wss n) n k (finite.get (relation_at left n) k) (res_at n k)) (λ (c : Change). c.fields ≡ kept (res_at c.relation c.key)) (keys_at n) (λ k. right_fields (own_widths wss n) (λ x y. kept (res_at x y)) n k (finite.get (relation_at left n) k) (res_at n k) refl)))
      unlisted_at r key h))
