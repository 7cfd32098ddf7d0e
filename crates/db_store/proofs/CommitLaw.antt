-- What a commit makes of the rows of its branch.
use Rattle.std.proofs.Common.{◌≡◌, ◌≢◌, ◌⊎◌, inl, inr, ℕ, suc, ◌+◌, ◌-◌, ◌<◌, ◌≤◌, ◌==◌, ◌&&◌, ◌||◌, Bool, true, false, cond, not, List, [], ◌∷◌, ◌++◌, length, map, get_or, refl, arith, ap, sym, ◌∙◌, subst, Option, Some, None, zero-add}
use Rattle.std.specs.List.{list_any}
use Rattle.std.specs.FinMap as finite
use Rattle.std.proofs.lemmas.Bool.{cases_eq, cases_lt, cases_Bool, eq-eqb, ne_eqb, lt-ltb, le-ltb, eqb-true, not-true, and_parts}
use Rattle.std.specs.Cmp.{unsigned_tied}
use Rattle.std.proofs.lemmas.Cmp.{nat_cmp_total}
use Rattle.db_store.proofs.CountLemmas.{other_key}
use Rattle.db_store.proofs.CountedLemmas.{get_changed}
use Rattle.std.proofs.lemmas.List.{append-nil, length_push, take-append-le, take_all, get_or-map}
use Rattle.db_value.specs.Value.{Value}
use Rattle.db_value.specs.declared.record.Record.{Record}
use Rattle.db_value.specs.declared.entry.Change.{Change}
use Rattle.db_store.specs.Table.{Contents, changed}
use Rattle.db_store.specs.Counts.{after}
use Rattle.db_store.specs.Adopt.{is_of_key, keys_differ}
use Rattle.db_store.specs.Layout.{Segment, Row, no_record, no_segment, differ, has, combined, bit, slots_where, records_at, live_from, live_of, live_in, contents_of}
use Rattle.db_store.specs.LayoutGrowth.{is_head_of, put_before, puts, touches, segment_after, bit_after, row_after}
use Rattle.db_store.specs.LaidOut.{IsRow, AreRows, head_at, has_head}
use Rattle.db_store.specs.SameRows.{fields_in}
use Rattle.db_store.proofs.BitLemmas.{has_where, has_past, differ_back, combined_push, live_append, live_same, live_none, live_all, or_else, fields_append, get_contents, flip_eqb}
use Rattle.db_store.proofs.SegmentLemmas.{Extended}

-- ---- older positions

-- a row keeps its records at a position where its segments are longer
pub live_keeps : (old new : List Segment) (count n : ℕ) (row : Row) → Extended old new → IsRow old count row → live_of new n row ≡ live_of old n row
live_keeps old new count n row e is =
    let more = e.records row.segment is.there in
    let rest : live_from (0 + length (records_at old row.segment)) more.0 (bit row n) ≡ [] =
    live_none (0 + length (records_at old row.segment)) more.0 (bit row n) (λ s h. past s h (cases_Bool (bit row n s))) in
    ap (λ xs. live_from 0 xs (bit row n)) more.1
    ∙ live_append 0 (records_at old row.segment) more.0 (bit row n)
    ∙ ap (λ xs. live_from 0 (records_at old row.segment) (bit row n) ++ xs) rest
    ∙ append-nil (live_from 0 (records_at old row.segment) (bit row n))
  where
    past : (s : ℕ) → 0 + length (records_at old row.segment) ≤ s → (bit row n s ≡ true) ⊎ (bit row n s ≡ false) → bit row n s ≡ false
    past s h (inl t) = let l = is.within n s t in absurd (omega (arith, h, l))
    past s h (inr f) = f

-- all but the first of the rows are rows too
pub rest_are : (ss : List Segment) (count : ℕ) (row : Row) (rows : List Row) → AreRows ss count (row ∷ rows) → AreRows ss count rows
rest_are ss count row rows all i h = all (suc i) (omega (arith, h))

pub first_is : (ss : List Segment) (count : ℕ) (row : Row) (rows : List Row) → AreRows ss count (row ∷ rows) → IsRow ss count row
first_is ss count row rows all = all 0 (omega arith)

pub rows_keep : (old new : List Segment) (count n : ℕ) (rows : List Row) → Extended old new → AreRows old count rows → live_in new n rows ≡ live_in old n rows
rows_keep old new count n [] e all = refl
rows_keep old new count n (row ∷ rows) e all =
    ap (λ (xs : List Record). xs ++ live_in new n rows) (live_keeps old new count n row e (first_is old count row rows all))
    ∙ ap (λ (xs : List Record). live_of old n row ++ xs) (rows_keep old new count n rows e (rest_are old count row rows all))

-- ---- a row with one delta more

-- at an older position it has what it had
pub bit_older : (old new : List Segment) (touched : ℕ → Bool) (count m n : ℕ) (row : Row) → IsRow old count row → n < count → (slot : ℕ) → bit (row_after old new touched m row) n slot ≡ bit row n slot
bit_older old new touched count m n row is h slot =
    let f = is.full in let b = is.begun in
    ap (λ ds. combined ds slot) (take-append-le (suc n - row.from) row.deltas _ (omega (arith, f, h, b)))

-- at the next one it has the bits after the changes
pub bit_next : (old new : List Segment) (touched : ℕ → Bool) (count n : ℕ) (row : Row) → IsRow old count row → suc n ≡ count → (slot : ℕ)
    → slot < length (records_at new row.segment) → bit (row_after old new touched n row) count slot ≡ bit_after (records_at old row.segment) touched (bit row n) slot
bit_next old new touched count n row is e slot h =
    let f = is.full in let b = is.begun in
    let p : ℕ → Bool = λ s. differ (bit row n s) (bit_after (records_at old row.segment) touched (bit row n) s) in
    let d : List ℕ = slots_where p (length (records_at new row.segment)) in
    let push = length_push row.deltas d in
    let before : combined row.deltas slot ≡ bit row n slot = sym (ap (λ ds. combined ds slot) (take_all (suc n - row.from) row.deltas (omega (arith, f, e)))) in
    ap (λ ds. combined ds slot) (take_all (suc count - row.from) (row.deltas ++ d ∷ []) (omega (arith, f, push, b)))
    ∙ combined_push row.deltas d slot
    ∙ ap (λ x. differ x (has d slot)) before
    ∙ ap (differ (bit row n slot)) (has_where p (length (records_at new row.segment)) slot h)
    ∙ differ_back (bit row n slot) (bit_after (records_at old row.segment) touched (bit row n) slot)

-- and past the records there is none
pub bit_past : (old new : List Segment) (touched : ℕ → Bool) (count n : ℕ) (row : Row) → IsRow old count row → suc n ≡ count → (slot m : ℕ)
    → length (records_at old row.segment) ≤ length (records_at new row.segment) → length (records_at new row.segment) ≤ slot → bit (row_after old new touched n row) m slot ≡ false
bit_past old new touched count n row is e slot m more h = by (cases_lt m count)
  where
    none : (k : ℕ) → (bit row k slot ≡ true) ⊎ (bit row k slot ≡ false) → bit row k slot ≡ false
    none k (inl t) = let l = is.within k slot t in absurd (omega (arith, h, l, more))
    none k (inr f) = f

    by : (m < count) ⊎ (count ≤ m) → bit (row_after old new touched n row) m slot ≡ false
    by (inl l) = bit_older old new touched count n m row is l slot ∙ none m (cases_Bool (bit row m slot))
    by (inr l) =
        let f = is.full in let b = is.begun in
        let p : ℕ → Bool = λ s. differ (bit row n s) (bit_after (records_at old row.segment) touched (bit row n) s) in
        let d : List ℕ = slots_where p (length (records_at new row.segment)) in
        let push = length_push row.deltas d in
        let before : combined row.deltas slot ≡ bit row n slot = sym (ap (λ ds. combined ds slot) (take_all (suc n - row.from) row.deltas (omega (arith, f, e)))) in
        ap (λ ds. combined ds slot) (take_all (suc m - row.from) (row.deltas ++ d ∷ []) (omega (arith, f, push, b, l)))
        ∙ combined_push row.deltas d slot
        ∙ ap (λ x. differ x (has d slot)) (before ∙ none n (cases_Bool (bit row n slot)))
        ∙ has_past p (length (records_at new row.segment)) slot h

-- ---- the records after the changes

after_more : (b : Bool) (xs new : List Record) → cond b (xs ++ new) xs ≡ xs ++ cond b new []
after_more true xs new = refl
after_more false xs new = sym (append-nil xs)

pub after_records : (b : ℕ) (new : List Record) (ss : List Segment) (s : ℕ) → s < length ss → records_at (map (segment_after b new) ss) s ≡ records_at ss s ++ cond (is_head_of b (head_at ss s)) new []
after_records b new ss s h = ap (λ (x : Segment). x.records) (get_or-map (segment_after b new) ss s no_segment no_segment h) ∙ after_more (is_head_of b (head_at ss s)) (records_at ss s) new

-- the old records whose keys aren't touched, and the new ones
pub live_next : (old new : List Segment) (touched : ℕ → Bool) (count n : ℕ) (row : Row) (more : List Record) → IsRow old count row → suc n ≡ count → records_at new row.segment ≡ records_at old row.segment ++ more
    → live_of new count (row_after old new touched n row)
    ≡ live_from 0 (records_at old row.segment) (bit_after (records_at old row.segment) touched (bit row n)) ++ more
live_next old new touched count n row more is e r =
    let xs : List Record = records_at old row.segment in
    let p : ℕ → Bool = bit_after xs touched (bit row n) in
    live_same 0 (records_at new row.segment) (bit (row_after old new touched n row) count) p (λ s h l. bit_next old new touched count n row is e s (omega (arith, l)))
    ∙ ap (λ ys. live_from 0 ys p) r
    ∙ live_append 0 xs more p
    ∙ ap (λ ys. live_from 0 xs p ++ ys) (live_all (0 + length xs) more p (λ s h. ap (λ q. cond q (bit row n s && not (touched (get_or xs s no_record).key)) true) (le-ltb s (length xs) (omega (arith, h)))))

-- ---- the fields at a key

skip : (b : Bool) (x : Record) (xs : List Record) (key : ℕ) → (x.key == key) ≡ false → fields_in key (cond b (x ∷ xs) xs) ≡ fields_in key xs
skip true x xs key e = ap (λ q. cond q (Some x.fields) (fields_in key xs)) e
skip false x xs key e = refl

-- tests that are as before but for touched keys
abbrev pub Spares : (ℕ → Bool) → ℕ → List Record → (ℕ → Bool) → (ℕ → Bool) → Type 0
Spares touched slot xs before p = (i : ℕ) → i < length xs → p (slot + i) ≡ (before (slot + i) && not (touched (get_or xs i no_record).key))

pub spares_rest : (touched : ℕ → Bool) (slot : ℕ) (x : Record) (xs : List Record) (before p : ℕ → Bool) → Spares touched slot (x ∷ xs) before p → Spares touched (suc slot) xs before p
spares_rest touched slot x xs before p f i h =
    let e : slot + suc i ≡ suc slot + i = omega arith in
    subst (λ n. p n ≡ (before n && not (touched (get_or xs i no_record).key))) e (f (suc i) (omega (arith, h)))

pub spares_first : (touched : ℕ → Bool) (slot : ℕ) (x : Record) (xs : List Record) (before p : ℕ → Bool) → Spares touched slot (x ∷ xs) before p → p slot ≡ (before slot && not (touched x.key))
spares_first touched slot x xs before p f =
    let e : slot + 0 ≡ slot = omega arith in
    subst (λ n. p n ≡ (before n && not (touched x.key))) e (f 0 (omega arith))

pub and_true : (a b : Bool) → b ≡ false → (a && not b) ≡ a
and_true true b e = ap not e
and_true false b e = refl

pub and_false : (a b : Bool) → b ≡ true → (a && not b) ≡ false
and_false true b e = ap not e
and_false false b e = refl

untouched_live : (touched : ℕ → Bool) (key : ℕ) → touched key ≡ false → (slot : ℕ) (xs : List Record) (before p : ℕ → Bool) → Spares touched slot xs before p
    → fields_in key (live_from slot xs p) ≡ fields_in key (live_from slot xs before)
untouched_live touched key t slot [] before p f = refl
untouched_live touched key t slot (x ∷ xs) before p f =
    by (cases_eq x.key key) (untouched_live touched key t (suc slot) xs before p (spares_rest touched slot x xs before p f))
  where
    A : List Record
    A = live_from (suc slot) xs p

    B : List Record
    B = live_from (suc slot) xs before

    by : (x.key ≡ key) ⊎ (x.key ≢ key) → fields_in key A ≡ fields_in key B → fields_in key (cond (p slot) (x ∷ A) A) ≡ fields_in key (cond (before slot) (x ∷ B) B)
    by (inl e) i =
        ap (λ b. fields_in key (cond b (x ∷ A) A)) (spares_first touched slot x xs before p f ∙ and_true (before slot) (touched x.key) (ap touched e ∙ t))
        ∙ both (before slot) i
      where
        both : (b : Bool) → fields_in key A ≡ fields_in key B → fields_in key (cond b (x ∷ A) A) ≡ fields_in key (cond b (x ∷ B) B)
        both true i = ap (cond (x.key == key) (Some x.fields)) i
        both false i = i
    by (inr n) i = skip (p slot) x A key (ne_eqb x.key key n) ∙ i ∙ sym (skip (before slot) x B key (ne_eqb x.key key n))

touched_live : (touched : ℕ → Bool) (key : ℕ) → touched key ≡ true → (slot : ℕ) (xs : List Record) (before p : ℕ → Bool) → Spares touched slot xs before p
    → fields_in key (live_from slot xs p) ≡ None
touched_live touched key t slot [] before p f = refl
touched_live touched key t slot (x ∷ xs) before p f =
    by (cases_eq x.key key) (touched_live touched key t (suc slot) xs before p (spares_rest touched slot x xs before p f))
  where
    A : List Record
    A = live_from (suc slot) xs p

    by : (x.key ≡ key) ⊎ (x.key ≢ key) → fields_in key A ≡ None → fields_in key (cond (p slot) (x ∷ A) A) ≡ None
    by (inl e) i = ap (λ b. fields_in key (cond b (x ∷ A) A)) (spares_first touched slot x xs before p f ∙ and_false (before slot) (touched x.key) (ap touched e ∙ t)) ∙ i
    by (inr n) i = skip (p slot) x A key (ne_eqb x.key key n) ∙ i

pub after_spares : (touched : ℕ → Bool) (xs : List Record) (before : ℕ → Bool) → Spares touched 0 xs before (bit_after xs touched before)
after_spares touched xs before i h =
    let e : i ≡ 0 + i = sym (zero-add i) in
    subst (λ n. bit_after xs touched before n ≡ (before n && not (touched (get_or xs i no_record).key))) e
    (ap (λ q. cond q (before i && not (touched (get_or xs i no_record).key)) true) (lt-ltb i (length xs) h))

-- ---- what changes put

put_fields : (q : Bool) (key : ℕ) (state : Option (List Value)) (rest : List Record) (other : ℕ) → (q && key == other) ≡ false → fields_in other (put_before q key state rest) ≡ fields_in other rest
put_fields true key None rest other e = refl
put_fields true key (Some fields) rest other e = ap (λ b. cond b (Some fields) (fields_in other rest)) e
put_fields false key state rest other e = refl

pub or_none : (a b : Bool) → (a || b) ≡ false → (a ≡ false) × (b ≡ false)
or_none true b e = absurd cc
or_none false b e = (refl, e)

pub untouched_puts : (cs : List Change) (r key : ℕ) → touches cs r key ≡ false → fields_in key (puts cs r) ≡ None
untouched_puts [] r key t = refl
untouched_puts (c ∷ cs) r key t =
    let two = or_none (c.relation == r && c.key == key) (touches cs r key) t in
    put_fields (c.relation == r) c.key c.fields (puts cs r) key two.0 ∙ untouched_puts cs r key two.1

-- ---- the rows after a commit, in one relation

module _ (b : ℕ) (cs : List Change) (r : ℕ) (ss : List Segment) (count n : ℕ) (last : suc n ≡ count) (key : ℕ) where
  abbrev news : List Segment
  news = map (segment_after b (puts cs r)) ss

  one : (row : Row) → IsRow ss count row
      → fields_in key (live_of news count (row_after ss news (touches cs r) n row))
      ≡ or_else (fields_in key (live_from 0 (records_at ss row.segment) (bit_after (records_at ss row.segment) (touches cs r) (bit row n))))
      (fields_in key (cond (is_head_of b (head_at ss row.segment)) (puts cs r) []))
  one row is =
      let more : List Record = cond (is_head_of b (head_at ss row.segment)) (puts cs r) [] in
      ap (fields_in key) (live_next ss news (touches cs r) count n row more is last (after_records b (puts cs r) ss row.segment is.there))
      ∙ fields_append key (live_from 0 (records_at ss row.segment) (bit_after (records_at ss row.segment) (touches cs r) (bit row n))) more

  or_nothing : (o : Option (List Value)) → or_else o None ≡ o
  or_nothing None = refl
  or_nothing (Some fields) = refl

  more_none : (q : Bool) → touches cs r key ≡ false → fields_in key (cond q (puts cs r) []) ≡ None
  more_none true t = untouched_puts cs r key t
  more_none false t = refl

  pub untouched_rows : touches cs r key ≡ false → (rows : List Row) → AreRows ss count rows
      → fields_in key (live_in news count (map (row_after ss news (touches cs r) n) rows)) ≡ fields_in key (live_in ss n rows)
  untouched_rows t [] all = refl
  untouched_rows t (row ∷ rows) all =
      let xs : List Record = records_at ss row.segment in
      fields_append key (live_of news count (row_after ss news (touches cs r) n row)) (live_in news count (map (row_after ss news (touches cs r) n) rows))
      ∙ ap (λ o. or_else o (fields_in key (live_in news count (map (row_after ss news (touches cs r) n) rows))))
      (one row (first_is ss count row rows all)
      ∙ ap (or_else (fields_in key (live_from 0 xs (bit_after xs (touches cs r) (bit row n))))) (more_none (is_head_of b (head_at ss row.segment)) t)
      ∙ or_nothing (fields_in key (live_from 0 xs (bit_after xs (touches cs r) (bit row n))))
      ∙ untouched_live (touches cs r) key t 0 xs (bit row n) (bit_after xs (touches cs r) (bit row n)) (after_spares (touches cs r) xs (bit row n)))
      ∙ ap (or_else (fields_in key (live_of ss n row))) (untouched_rows t rows (rest_are ss count row rows all))
      ∙ sym (fields_append key (live_of ss n row) (live_in ss n rows))

  nothing : Option (List Value)
  nothing = None

  none_either : (p : Bool) → cond p nothing nothing ≡ nothing
  unfolding nothing
  none_either true = refl
  none_either false = refl

  or_twice : (q p : Bool) (o : Option (List Value)) (xs : List Record) → o ≡ fields_in key xs → or_else (fields_in key (cond q xs [])) (cond p o None) ≡ cond (q || p) o None
  unfolding nothing
  or_twice true p None xs e = ap (λ x. or_else x (cond p None None)) (sym e) ∙ none_either p
  or_twice true p (Some fields) xs e = ap (λ x. or_else x (cond p (Some fields) None)) (sym e)
  or_twice false p o xs e = refl

  pub touched_rows : touches cs r key ≡ true → (rows : List Row) → AreRows ss count rows
      → fields_in key (live_in news count (map (row_after ss news (touches cs r) n) rows)) ≡ cond (has_head b ss rows) (fields_in key (puts cs r)) None
  touched_rows t [] all = refl
  touched_rows t (row ∷ rows) all =
      let xs : List Record = records_at ss row.segment in
      let q : Bool = is_head_of b (head_at ss row.segment) in
      fields_append key (live_of news count (row_after ss news (touches cs r) n row)) (live_in news count (map (row_after ss news (touches cs r) n) rows))
      ∙ ap (λ o. or_else o (fields_in key (live_in news count (map (row_after ss news (touches cs r) n) rows))))
      (one row (first_is ss count row rows all)
      ∙ ap (λ o. or_else o (fields_in key (cond q (puts cs r) [])))
      (touched_live (touches cs r) key t 0 xs (bit row n) (bit_after xs (touches cs r) (bit row n)) (after_spares (touches cs r) xs (bit row n))))
      ∙ ap (or_else (fields_in key (cond q (puts cs r) []))) (touched_rows t rows (rest_are ss count row rows all))
      ∙ or_twice q (has_head b ss rows) (fields_in key (puts cs r)) (puts cs r) refl

-- ---- contents after changes of different keys

get_one : (q : Bool) (m : Contents) (key : ℕ) (state : Option (List Value)) (other : ℕ) → (q && key == other) ≡ false → finite.get (cond q (changed m key state) m) other ≡ finite.get m other
get_one true m key state other e = other_key m key other state (λ s. true_false (sym (eq-eqb key other (sym s)) ∙ e))
  where
    true_false : true ≡ false → ⊥
    true_false f = absurd cc
get_one false m key state other e = refl

get_here : (m : Contents) (key : ℕ) (state : Option (List Value)) → finite.get (changed m key state) key ≡ state
get_here m key state = get_changed m key state key ∙ ap (λ b. cond b state (finite.get m key)) (unsigned_tied key key ∙ eq-eqb key key refl)

put_here : (key : ℕ) (state : Option (List Value)) (rest : List Record) → fields_in key rest ≡ None → fields_in key (put_before true key state rest) ≡ state
put_here key None rest e = e
put_here key (Some fields) rest e = ap (λ b. cond b (Some fields) (fields_in key rest)) (eq-eqb key key refl)

pub same_of_key : (c : Change) (cs : List Change) (r key : ℕ) → c.relation ≡ r → c.key ≡ key → list_any (is_of_key c) cs ≡ touches cs r key
same_of_key c [] r key e k = refl
same_of_key c (d ∷ ds) r key e k = ap (λ b. b || list_any (is_of_key c) ds) (λ i. flip_eqb (e i) d.relation i && flip_eqb (k i) d.key i) ∙ ap (λ b. (d.relation == r && d.key == key) || b) (same_of_key c ds r key e k)

pub get_after : (cs : List Change) (r : ℕ) (m : Contents) (key : ℕ) → keys_differ cs ≡ true → finite.get (after r m cs) key ≡ cond (touches cs r key) (fields_in key (puts cs r)) (finite.get m key)
get_after [] r m key d = refl
get_after (c ∷ cs) r m key d =
    get_after cs r (cond (c.relation == r) (changed m c.key c.fields) m) key two.1 ∙ by (cases_Bool (c.relation == r && c.key == key))
  where
    two : (not (list_any (is_of_key c) cs) ≡ true) × (keys_differ cs ≡ true)
    two = and_parts _ _ d

    new : Contents
    new = cond (c.relation == r) (changed m c.key c.fields) m

    hit : Bool
    hit = c.relation == r && c.key == key

    by : ((c.relation == r && c.key == key) ≡ true) ⊎ ((c.relation == r && c.key == key) ≡ false)
        → cond (touches cs r key) (fields_in key (puts cs r)) (finite.get (cond (c.relation == r) (changed m c.key c.fields) m) key)
        ≡ cond ((c.relation == r && c.key == key) || touches cs r key) (fields_in key (put_before (c.relation == r) c.key c.fields (puts cs r))) (finite.get m key)
    by (inr f) =
        ap (cond (touches cs r key) (fields_in key (puts cs r))) (get_one (c.relation == r) m c.key c.fields key f)
        ∙ ap (λ o. cond (touches cs r key) o (finite.get m key)) (sym (put_fields (c.relation == r) c.key c.fields (puts cs r) key f))
        ∙ ap (λ q. cond (q || touches cs r key) (fields_in key (put_before (c.relation == r) c.key c.fields (puts cs r))) (finite.get m key)) (sym f)
    by (inl t) =
        let both = and_parts (c.relation == r) (c.key == key) t in
        let e : c.relation ≡ r = eqb-true _ _ both.0 in
        let k : c.key ≡ key = eqb-true _ _ both.1 in
        let none : touches cs r key ≡ false = sym (same_of_key c cs r key e k) ∙ not-true _ two.0 in
        let got : finite.get (cond (c.relation == r) (changed m c.key c.fields) m) key ≡ c.fields =
        ap (λ q. finite.get (cond q (changed m c.key c.fields) m) key) both.0 ∙ ap (finite.get (changed m c.key c.fields)) (sym k) ∙ get_here m c.key c.fields in
        let put : fields_in key (put_before (c.relation == r) c.key c.fields (puts cs r)) ≡ c.fields =
        ap (λ q. fields_in key (put_before q c.key c.fields (puts cs r))) both.0
        ∙ ap (λ x. fields_in x (put_before true c.key c.fields (puts cs r))) (sym k)
        ∙ put_here c.key c.fields (puts cs r) (ap (λ x. fields_in x (puts cs r)) k ∙ untouched_puts cs r key none) in
        ap (λ q. cond q (fields_in key (puts cs r)) (finite.get (cond (c.relation == r) (changed m c.key c.fields) m) key)) none
        ∙ got
        ∙ sym put
        ∙ ap (λ q. cond (q || touches cs r key) (fields_in key (put_before (c.relation == r) c.key c.fields (puts cs r))) (finite.get m key)) (sym t)

-- ---- the contents of a relation after a commit

pub contents_next : (b : ℕ) (cs : List Change) (r : ℕ) (ss : List Segment) (count n : ℕ) (rows : List Row) → suc n ≡ count → keys_differ cs ≡ true → AreRows ss count rows
    → has_head b ss rows ≡ true
    → contents_of (live_in (map (segment_after b (puts cs r)) ss) count (map (row_after ss (map (segment_after b (puts cs r)) ss) (touches cs r) n) rows))
    ≡ after r (contents_of (live_in ss n rows)) cs
contents_next b cs r ss count n rows last differ all is = finite.same_map nat_cmp_total finite.nat_cmp-IsAntisymmetric _ _ (λ key. at key (cases_Bool (touches cs r key)))
  where
    new : List Record
    new = live_in (map (segment_after b (puts cs r)) ss) count (map (row_after ss (map (segment_after b (puts cs r)) ss) (touches cs r) n) rows)

    at : (key : ℕ) → (touches cs r key ≡ true) ⊎ (touches cs r key ≡ false)
        → finite.get (contents_of (live_in (map (segment_after b (puts cs r)) ss) count (map (row_after ss (map (segment_after b (puts cs r)) ss) (touches cs r) n) rows))) key
        ≡ finite.get (after r (contents_of (live_in ss n rows)) cs) key
    at key (inl t) =
        get_contents new key
        ∙ touched_rows b cs r ss count n last key t rows all
        ∙ ap (λ q. cond q (fields_in key (puts cs r)) None) is
        ∙ ap (λ q. cond q (fields_in key (puts cs r)) (finite.get (contents_of (live_in ss n rows)) key)) (sym t)
        ∙ sym (get_after cs r (contents_of (live_in ss n rows)) key differ)
    at key (inr f) =
        get_contents new key
        ∙ untouched_rows b cs r ss count n last key f rows all
        ∙ sym (get_contents (live_in ss n rows) key)
        ∙ ap (λ q. cond q (fields_in key (puts cs r)) (finite.get (contents_of (live_in ss n rows)) key)) (sym f)
        ∙ sym (get_after cs r (contents_of (live_in ss n rows)) key differ)
