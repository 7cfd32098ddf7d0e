-- An entry keeps what holds of every layout.
use Rattle.std.proofs.Common.{◌≡◌, ◌≢◌, ◌⊎◌, inl, inr, ℕ, zero, suc, ◌+◌, ◌-◌, ◌<◌, ◌≤◌, ◌==◌, ◌&&◌, ◌||◌, Bool, true, false, cond, not, List, [], ◌∷◌, ◌++◌, length, map, set, take, get_or, refl, arith, ap, sym, ◌∙◌, subst, Option, Some, None, nat_le, zero-add}
use Rattle.std.specs.List.{flat_map, list_any}
use Rattle.std.proofs.lemmas.Bool.{cases_eq, cases_lt, cases_Bool, and_parts, and_from, eqb-true, eq-eqb, ne_eqb, leb-true, le-leb, false≢true, not-true}
use Rattle.std.proofs.lemmas.List.{length-append, length-map, length-set, length_push, get_or-map, get_or_push, get_or_append_left, get_or-append_right, get_or-set_same, get_or-set_other, take_all}
use Rattle.db_value.specs.Value.{Value}
use Rattle.db_value.specs.declared.record.Record.{Record}
use Rattle.db_value.specs.declared.schema.Relation.{Relation}
use Rattle.db_value.specs.declared.version.VersionPlace.{VersionPlace}
use Rattle.db_value.specs.declared.entry.Change.{Change}
use Rattle.db_value.specs.declared.entry.Entry.{Entry}
use Rattle.db_value.specs.declared.entry.Entry.TheVariants.{Commit, Branch as NewBranch}
use Rattle.db_store.specs.Fits.{fits}
use Rattle.db_store.specs.Growth.{commit_parts, made_from}
use Rattle.db_store.specs.Adopt.{is_of_key, keys_differ}
use Rattle.db_store.specs.Layout.{Segment, Row, Lane, Layout, no_lane, no_segment, lane_at, differ, has, combined, bit, slots_where, records_at, live_from, live_of, live_in, by_relation, segments_at, rows_at, dataset_in, head_segment, head_row, new_layout}
use Rattle.db_store.specs.LayoutGrowth.{is_head_of, put_before, puts, touches, segment_after, bit_after, row_after, segments_after, last_in, lane_after, after_commit, internal_if, row_of, carried, without_head, segments_with, rows_with, new_head, rows_begun, lane_with, lane_begun, with_branch, is_last, grow_layout}
use Rattle.db_store.specs.LaidOut.{IsRow, AreRows, AreRowsOf, IsLane, IsLaid, row_at, no_row, rises, head_at, has_head, times}
use Rattle.db_store.proofs.CountLemmas.{ascending_differ}
use Rattle.db_store.proofs.BitLemmas.{has_past}
use Rattle.db_store.proofs.SegmentLemmas.{Extended, extended_after, extended_with, at_relation}
use Rattle.db_store.proofs.CommitLaw.{rows_keep, first_is, rest_are, bit_past, live_next, after_records, Spares, spares_rest, spares_first, and_true, and_false, after_spares, or_none, same_of_key}
use Rattle.db_store.proofs.LayoutLaw.{behind, older_row, rows_now, rows_with_keep, rows_begun_keep, lanes_there, made_there}

-- ---- how many records have a key

pub times_append : (key : ℕ) (xs ys : List Record) → times key (xs ++ ys) ≡ times key xs + times key ys
times_append key [] ys = sym (zero-add (times key ys))
times_append key (x ∷ xs) ys = let i = times_append key xs ys in omega (arith, i)

skipped : (b : Bool) (x : Record) (xs : List Record) (key : ℕ) → x.key ≢ key → times key (cond b (x ∷ xs) xs) ≡ times key xs
skipped true x xs key n = ap (λ q. cond q 1 0 + times key xs) (ne_eqb x.key key n) ∙ zero-add (times key xs)
skipped false x xs key n = refl

untouched_times : (touched : ℕ → Bool) (key : ℕ) → touched key ≡ false → (slot : ℕ) (xs : List Record) (before p : ℕ → Bool) → Spares touched slot xs before p
    → times key (live_from slot xs p) ≡ times key (live_from slot xs before)
untouched_times touched key t slot [] before p f = refl
untouched_times touched key t slot (x ∷ xs) before p f =
    by (cases_eq x.key key) (untouched_times touched key t (suc slot) xs before p (spares_rest touched slot x xs before p f))
  where
    A : List Record
    A = live_from (suc slot) xs p

    B : List Record
    B = live_from (suc slot) xs before

    both : (b : Bool) → times key A ≡ times key B → times key (cond b (x ∷ A) A) ≡ times key (cond b (x ∷ B) B)
    both true i = ap (λ n. cond (x.key == key) 1 0 + n) i
    both false i = i

    by : (x.key ≡ key) ⊎ (x.key ≢ key) → times key A ≡ times key B → times key (cond (p slot) (x ∷ A) A) ≡ times key (cond (before slot) (x ∷ B) B)
    by (inl e) i =
        ap (λ b. times key (cond b (x ∷ A) A)) (spares_first touched slot x xs before p f ∙ and_true (before slot) (touched x.key) (ap touched e ∙ t))
        ∙ both (before slot) i
    by (inr n) i = skipped (p slot) x A key n ∙ i ∙ sym (skipped (before slot) x B key n)

touched_times : (touched : ℕ → Bool) (key : ℕ) → touched key ≡ true → (slot : ℕ) (xs : List Record) (before p : ℕ → Bool) → Spares touched slot xs before p
    → times key (live_from slot xs p) ≡ 0
touched_times touched key t slot [] before p f = refl
touched_times touched key t slot (x ∷ xs) before p f =
    by (cases_eq x.key key) (touched_times touched key t (suc slot) xs before p (spares_rest touched slot x xs before p f))
  where
    A : List Record
    A = live_from (suc slot) xs p

    by : (x.key ≡ key) ⊎ (x.key ≢ key) → times key A ≡ 0 → times key (cond (p slot) (x ∷ A) A) ≡ 0
    by (inl e) i = ap (λ b. times key (cond b (x ∷ A) A)) (spares_first touched slot x xs before p f ∙ and_false (before slot) (touched x.key) (ap touched e ∙ t)) ∙ i
    by (inr n) i = skipped (p slot) x A key n ∙ i

-- what changes of different keys put has each key once at most, and no key that isn't touched
put_times : (q : Bool) (key : ℕ) (state : Option (List Value)) (rest : List Record) (other : ℕ) → (q && key == other) ≡ false → times other (put_before q key state rest) ≡ times other rest
put_times true key None rest other e = refl
put_times true key (Some fields) rest other e = ap (λ b. cond b 1 0 + times other rest) e ∙ zero-add (times other rest)
put_times false key state rest other e = refl

put_once : (q : Bool) (key : ℕ) (state : Option (List Value)) (rest : List Record) (other : ℕ) → times other rest ≡ 0 → times other (put_before q key state rest) ≤ 1
put_once true key None rest other e = omega (arith, e)
put_once true key (Some fields) rest other e = one (key == other)
  where
    one : (b : Bool) → cond b 1 0 + times other rest ≤ 1
    one true = omega (arith, e)
    one false = omega (arith, e)
put_once false key state rest other e = omega (arith, e)

untouched_once : (cs : List Change) (r key : ℕ) → touches cs r key ≡ false → times key (puts cs r) ≡ 0
untouched_once [] r key t = refl
untouched_once (c ∷ cs) r key t =
    let two = or_none (c.relation == r && c.key == key) (touches cs r key) t in
    put_times (c.relation == r) c.key c.fields (puts cs r) key two.0 ∙ untouched_once cs r key two.1

puts_once : (cs : List Change) (r key : ℕ) → keys_differ cs ≡ true → times key (puts cs r) ≤ 1
puts_once [] r key d = omega arith
puts_once (c ∷ cs) r key d = by (cases_Bool (c.relation == r && c.key == key)) (puts_once cs r key two.1)
  where
    two : (not (list_any (is_of_key c) cs) ≡ true) × (keys_differ cs ≡ true)
    two = and_parts _ _ d

    by : ((c.relation == r && c.key == key) ≡ true) ⊎ ((c.relation == r && c.key == key) ≡ false) → times key (puts cs r) ≤ 1 → times key (put_before (c.relation == r) c.key c.fields (puts cs r)) ≤ 1
    by (inr f) i = let e = put_times (c.relation == r) c.key c.fields (puts cs r) key f in omega (arith, e, i)
    by (inl t) i =
        let both = and_parts (c.relation == r) (c.key == key) t in
        put_once (c.relation == r) c.key c.fields (puts cs r) key (untouched_once cs r key (sym (same_of_key c cs r key (eqb-true _ _ both.0) (eqb-true _ _ both.1)) ∙ not-true _ two.0))

-- ---- the head among rows

-- at most one segment is the head
abbrev pub OneHead : ℕ → List Segment → Type 0
OneHead b ss = (s t : ℕ) → s < length ss → t < length ss → is_head_of b (head_at ss s) ≡ true → is_head_of b (head_at ss t) ≡ true → s ≡ t

or_false : (a b : Bool) → a ≡ false → b ≡ false → (a || b) ≡ false
or_false a b e f = ap (λ x. x || b) e ∙ f

none_above : (b count low s : ℕ) (ss : List Segment) (rows : List Row) → OneHead b ss → AreRows ss count rows → s < length ss → s < low → is_head_of b (head_at ss s) ≡ true → rises low rows ≡ true → has_head b ss rows ≡ false
none_above b count low s ss [] only all h l is up = refl
none_above b count low s ss (row ∷ rows) only all h l is up =
    let two = and_parts (nat_le low row.segment) (rises (suc row.segment) rows) up in
    let low_is : low ≤ row.segment = leb-true _ _ two.0 in
    or_false (is_head_of b (head_at ss row.segment)) (has_head b ss rows)
    (here low_is (cases_Bool (is_head_of b (head_at ss row.segment))))
    (none_above b count (suc row.segment) s ss rows only (rest_are ss count row rows all) h (omega (arith, l, low_is)) is two.1)
  where
    here : low ≤ row.segment → (is_head_of b (head_at ss row.segment) ≡ true) ⊎ (is_head_of b (head_at ss row.segment) ≡ false) → is_head_of b (head_at ss row.segment) ≡ false
    here g (inl t) = let e = only s row.segment h (first_is ss count row rows all).there is t in absurd (omega (arith, e, l, g))
    here g (inr f) = f

-- ---- the rows of a branch after a commit on it

module _ (b : ℕ) (cs : List Change) (r : ℕ) (ss : List Segment) (count n : ℕ) (last : suc n ≡ count) (key : ℕ) where
  abbrev longer : List Segment
  longer = map (segment_after b (puts cs r)) ss

  abbrev next_rows : List Row → List Record
  next_rows rows = live_in longer count (map (row_after ss longer (touches cs r) n) rows)

  one_more : (row : Row) → IsRow ss count row
      → times key (live_of longer count (row_after ss longer (touches cs r) n row))
      ≡ times key (live_from 0 (records_at ss row.segment) (bit_after (records_at ss row.segment) (touches cs r) (bit row n))) + times key (cond (is_head_of b (head_at ss row.segment)) (puts cs r) [])
  one_more row is =
      let more : List Record = cond (is_head_of b (head_at ss row.segment)) (puts cs r) [] in
      ap (times key) (live_next ss longer (touches cs r) count n row more is last (after_records b (puts cs r) ss row.segment is.there))
      ∙ times_append key (live_from 0 (records_at ss row.segment) (bit_after (records_at ss row.segment) (touches cs r) (bit row n))) more

  none_put : (q : Bool) → touches cs r key ≡ false → times key (cond q (puts cs r) []) ≡ 0
  none_put true t = untouched_once cs r key t
  none_put false t = refl

  untouched_next : touches cs r key ≡ false → (rows : List Row) → AreRows ss count rows → times key (next_rows rows) ≡ times key (live_in ss n rows)
  untouched_next t [] all = refl
  untouched_next t (row ∷ rows) all =
      let xs : List Record = records_at ss row.segment in
      let first = one_more row (first_is ss count row rows all) in
      let kept = untouched_times (touches cs r) key t 0 xs (bit row n) (bit_after xs (touches cs r) (bit row n)) (after_spares (touches cs r) xs (bit row n)) in
      let put = none_put (is_head_of b (head_at ss row.segment)) t in
      let rest = untouched_next t rows (rest_are ss count row rows all) in
      let left = times_append key (live_of longer count (row_after ss longer (touches cs r) n row)) (next_rows rows) in
      let right = times_append key (live_of ss n row) (live_in ss n rows) in
      omega (arith, first, kept, put, rest, left, right)

  -- of a touched key there is what was put into the head
  touched_first : touches cs r key ≡ true → (row : Row) → IsRow ss count row → times key (live_of longer count (row_after ss longer (touches cs r) n row)) ≡ times key (cond (is_head_of b (head_at ss row.segment)) (puts cs r) [])
  touched_first t row is =
      let xs : List Record = records_at ss row.segment in
      let kept = touched_times (touches cs r) key t 0 xs (bit row n) (bit_after xs (touches cs r) (bit row n)) (after_spares (touches cs r) xs (bit row n)) in
      let first = one_more row is in
      omega (arith, first, kept)

  touched_none : touches cs r key ≡ true → (rows : List Row) → AreRows ss count rows → has_head b ss rows ≡ false → times key (next_rows rows) ≡ 0
  touched_none t [] all f = refl
  touched_none t (row ∷ rows) all f =
      let two = or_none (is_head_of b (head_at ss row.segment)) (has_head b ss rows) f in
      let first = touched_first t row (first_is ss count row rows all) ∙ ap (λ q. times key (cond q (puts cs r) [])) two.0 in
      let rest = touched_none t rows (rest_are ss count row rows all) two.1 in
      let left = times_append key (live_of longer count (row_after ss longer (touches cs r) n row)) (next_rows rows) in
      omega (arith, first, rest, left)

  touched_next : keys_differ cs ≡ true → OneHead b ss → touches cs r key ≡ true → (low : ℕ) (rows : List Row) → AreRows ss count rows → rises low rows ≡ true → times key (next_rows rows) ≤ 1
  touched_next d only t low [] all up = omega arith
  touched_next d only t low (row ∷ rows) all up =
      by (cases_Bool (is_head_of b (head_at ss row.segment))) (touched_next d only t (suc row.segment) rows (rest_are ss count row rows all) two.1)
    where
      two : (nat_le low row.segment ≡ true) × (rises (suc row.segment) rows ≡ true)
      two = and_parts (nat_le low row.segment) (rises (suc row.segment) rows) up

      is : IsRow ss count row
      is = first_is ss count row rows all

      left : times key (next_rows (row ∷ rows)) ≡ times key (live_of longer count (row_after ss longer (touches cs r) n row)) + times key (next_rows rows)
      left = times_append key (live_of longer count (row_after ss longer (touches cs r) n row)) (next_rows rows)

      by : (is_head_of b (head_at ss row.segment) ≡ true) ⊎ (is_head_of b (head_at ss row.segment) ≡ false) → times key (next_rows rows) ≤ 1 → times key (next_rows (row ∷ rows)) ≤ 1
      by (inl h) i =
          let first = touched_first t row is ∙ ap (λ q. times key (cond q (puts cs r) [])) h in
          let once = puts_once cs r key d in
          let rest = touched_none t rows (rest_are ss count row rows all) (none_above b count (suc row.segment) row.segment ss rows only (rest_are ss count row rows all) is.there (omega arith) h two.1) in
          let sum = left in
          omega (arith, first, once, rest, sum)
      by (inr f) i =
          let first = touched_first t row is ∙ ap (λ q. times key (cond q (puts cs r) [])) f in
          let sum = left in
          omega (arith, first, i, sum)

rows_rise : (old new : List Segment) (touched : ℕ → Bool) (n low : ℕ) (rows : List Row) → rises low (map (row_after old new touched n) rows) ≡ rises low rows
rows_rise old new touched n low [] = refl
rows_rise old new touched n low (row ∷ rows) = ap (λ b. nat_le low row.segment && b) (rows_rise old new touched n (suc row.segment) rows)

-- a commit leaves which segments are heads
head_after : (b : ℕ) (new : List Record) (ss : List Segment) (s : ℕ) → s < length ss → head_at (map (segment_after b new) ss) s ≡ head_at ss s
head_after b new ss s h = ap (λ (x : Segment). x.head) (get_or-map (segment_after b new) ss s no_segment no_segment h)

heads_same : (b count : ℕ) (old new : List Segment) (rows : List Row) → AreRows old count rows → ((s : ℕ) → s < length old → head_at new s ≡ head_at old s) → has_head b new rows ≡ has_head b old rows
heads_same b count old new [] all same = refl
heads_same b count old new (row ∷ rows) all same =
    ap (λ h. is_head_of b h || has_head b new rows) (same row.segment (first_is old count row rows all).there)
    ∙ ap (λ q. is_head_of b (head_at old row.segment) || q) (heads_same b count old new rows (rest_are old count row rows all) same)

heads_moved : (b : ℕ) (old new : List Segment) (touched : ℕ → Bool) (n : ℕ) (ss : List Segment) (rows : List Row) → has_head b ss (map (row_after old new touched n) rows) ≡ has_head b ss rows
heads_moved b old new touched n ss [] = refl
heads_moved b old new touched n ss (row ∷ rows) = ap (λ q. is_head_of b (head_at ss row.segment) || q) (heads_moved b old new touched n ss rows)

one_head : (b : ℕ) (old new : List Segment) → length new ≡ length old → ((s : ℕ) → s < length old → head_at new s ≡ head_at old s) → OneHead b old → OneHead b new
one_head b old new e same only s t h k i j =
    let l : s < length old = omega (arith, e, h) in
    let m : t < length old = omega (arith, e, k) in
    only s t l m (ap (is_head_of b) (sym (same s l)) ∙ i) (ap (is_head_of b) (sym (same t m)) ∙ j)

-- a row is one under longer segments
row_keeps : (old new : List Segment) (count : ℕ) (row : Row) → Extended old new → IsRow old count row → IsRow new count row
row_keeps old new count row e is = record {
  there = let n = e.count in let t = is.there in omega (arith, n, t);
  begun = is.begun;
  full = is.full;
  within = λ n slot h.
      let more = e.records row.segment is.there in
      let k = ap length more.1 ∙ length-append (records_at old row.segment) more.0 in
      let w = is.within n slot h in
      omega (arith, k, w);
}

-- rows of another branch after a commit
others_after : (x b count : ℕ) (new : List Record) (ss : List Segment) (rows : List Row) → AreRowsOf ss x count rows → AreRowsOf (map (segment_after b new) ss) x count rows
others_after x b count new ss rows is = record {
  are = λ i h. row_keeps ss (map (segment_after b new) ss) count (row_at rows i) (extended_after b new ss) (is.are i h);
  ascend = is.ascend;
  headed = heads_same x count ss (map (segment_after b new) ss) rows is.are (head_after b new ss) ∙ is.headed;
  only = one_head x ss (map (segment_after b new) ss) (length-map ss (segment_after b new)) (head_after b new ss) is.only;
  apart = λ n key h. subst (λ xs. times key xs ≤ 1) (sym (rows_keep ss (map (segment_after b new) ss) count n rows (extended_after b new ss) is.are)) (is.apart n key h);
}

-- the row with one delta more
row_more : (b count n : ℕ) (cs : List Change) (r : ℕ) (ss : List Segment) (row : Row) → suc n ≡ count → IsRow ss count row
    → IsRow (map (segment_after b (puts cs r)) ss) (suc count) (row_after ss (map (segment_after b (puts cs r)) ss) (touches cs r) n row)
row_more b count n cs r ss row last is = record {
  there = let k = length-map ss (segment_after b (puts cs r)) in let t = is.there in omega (arith, k, t);
  begun = let g = is.begun in omega (arith, g);
  full = let f = is.full in let k = length_push row.deltas delta in omega (arith, f, k);
  within = λ m slot h. by m slot h (cases_lt slot (length (records_at new row.segment)));
}
  where
    new : List Segment
    new = map (segment_after b (puts cs r)) ss

    delta : List ℕ
    delta = slots_where (λ slot. differ (bit row n slot) (bit_after (records_at ss row.segment) (touches cs r) (bit row n) slot)) (length (records_at (map (segment_after b (puts cs r)) ss) row.segment))

    by : (m slot : ℕ) → bit (row_after ss (map (segment_after b (puts cs r)) ss) (touches cs r) n row) m slot ≡ true
        → (slot < length (records_at (map (segment_after b (puts cs r)) ss) row.segment)) ⊎ (length (records_at (map (segment_after b (puts cs r)) ss) row.segment) ≤ slot)
        → slot < length (records_at (map (segment_after b (puts cs r)) ss) row.segment)
    by m slot h (inl l) = l
    by m slot h (inr l) =
        let more = (extended_after b (puts cs r) ss).records row.segment is.there in
        let k = ap length more.1 ∙ length-append (records_at ss row.segment) more.0 in
        absurd (false≢true (sym (bit_past ss (map (segment_after b (puts cs r)) ss) (touches cs r) count n row is last slot m (omega (arith, k)) l) ∙ h))

rows_more : (b count n : ℕ) (cs : List Change) (r : ℕ) (ss : List Segment) (rows : List Row) → suc n ≡ count → AreRows ss count rows
    → AreRows (map (segment_after b (puts cs r)) ss) (suc count) (map (row_after ss (map (segment_after b (puts cs r)) ss) (touches cs r) n) rows)
rows_more b count n cs r ss rows last all i h =
    let k : i < length rows = let m = length-map rows (row_after ss (map (segment_after b (puts cs r)) ss) (touches cs r) n) in omega (arith, m, h) in
    subst (IsRow (map (segment_after b (puts cs r)) ss) (suc count)) (sym (get_or-map (row_after ss (map (segment_after b (puts cs r)) ss) (touches cs r) n) rows i no_row no_row k))
    (row_more b count n cs r ss (row_at rows i) last (all i k))

-- the rows of the branch itself
own_after : (b count n : ℕ) (cs : List Change) (r : ℕ) (ss : List Segment) (rows : List Row) → suc n ≡ count → keys_differ cs ≡ true → AreRowsOf ss b count rows
    → ((k : ℕ) → k < count → live_in (map (segment_after b (puts cs r)) ss) k (map (row_after ss (map (segment_after b (puts cs r)) ss) (touches cs r) n) rows) ≡ live_in ss k rows)
    → AreRowsOf (map (segment_after b (puts cs r)) ss) b (suc count) (map (row_after ss (map (segment_after b (puts cs r)) ss) (touches cs r) n) rows)
own_after b count n cs r ss rows last d is older = record {
  are = rows_more b count n cs r ss rows last is.are;
  ascend = rows_rise ss (map (segment_after b (puts cs r)) ss) (touches cs r) n 0 rows ∙ is.ascend;
  headed =
      heads_moved b ss (map (segment_after b (puts cs r)) ss) (touches cs r) n (map (segment_after b (puts cs r)) ss) rows
      ∙ heads_same b count ss (map (segment_after b (puts cs r)) ss) rows is.are (head_after b (puts cs r) ss)
      ∙ is.headed;
  only = one_head b ss (map (segment_after b (puts cs r)) ss) (length-map ss (segment_after b (puts cs r))) (head_after b (puts cs r) ss) is.only;
  apart = λ k key h. by k key h (cases_eq k count);
}
  where
    next : List Record
    next = live_in (map (segment_after b (puts cs r)) ss) count (map (row_after ss (map (segment_after b (puts cs r)) ss) (touches cs r) n) rows)

    now : (key : ℕ) → (touches cs r key ≡ true) ⊎ (touches cs r key ≡ false) → times key (live_in (map (segment_after b (puts cs r)) ss) count (map (row_after ss (map (segment_after b (puts cs r)) ss) (touches cs r) n) rows)) ≤ 1
    now key (inl t) = touched_next b cs r ss count n last key d is.only t 0 rows is.are is.ascend
    now key (inr f) = let e = untouched_next b cs r ss count n last key f rows is.are in let i = is.apart n key (omega (arith, last)) in omega (arith, e, i)

    by : (k key : ℕ) → k < suc count → (k ≡ count) ⊎ (k ≢ count)
        → times key (live_in (map (segment_after b (puts cs r)) ss) k (map (row_after ss (map (segment_after b (puts cs r)) ss) (touches cs r) n) rows)) ≤ 1
    by k key h (inl e) = subst (λ m. times key (live_in (map (segment_after b (puts cs r)) ss) m (map (row_after ss (map (segment_after b (puts cs r)) ss) (touches cs r) n) rows)) ≤ 1) (sym e) (now key (cases_Bool (touches cs r key)))
    by k key h (inr m) = let l : k < count = omega (arith, h, m) in subst (λ xs. times key xs ≤ 1) (sym (older k l)) (is.apart k key l)

module _ (l : Layout) (b : ℕ) (second : Option VersionPlace) (changes : List Change) (laid : IsLaid l) (h : b < length l.lanes) (d : keys_differ changes ≡ true) where
  abbrev after : List (List Segment)
  after = segments_after l b changes

  abbrev grown_lane : Lane
  grown_lane = lane_after l after (lane_at l b) second changes

  after_at : (r : ℕ) → r < length l.schema → segments_at after r ≡ map (segment_after b (puts changes r)) (segments_at l.segments r)
  after_at r k = at_relation l.schema (λ r. map (segment_after b (puts changes r)) (segments_at l.segments r)) r [] k

  other_lane : (x : ℕ) → x < length l.lanes → IsLane l.schema after x (lane_at l x)
  other_lane x k = record {
    some = (laid.lanes x k).some;
    rows = λ r g. subst (λ ss. AreRowsOf ss x (length (lane_at l x).seconds) (rows_at (lane_at l x) r)) (sym (after_at r g)) (others_after x b (length (lane_at l x).seconds) (puts changes r) (segments_at l.segments r) (rows_at (lane_at l x) r) ((laid.lanes x k).rows r g));
  }

  own_lane : IsLane l.schema after b grown_lane
  own_lane =
      let is = laid.lanes b h in
      let some = is.some in
      let n = length_push (lane_at l b).seconds second in
      record {
        some = omega (arith, n);
        rows = λ r g.
            let ss : List Segment = segments_at l.segments r in
            let new : List Segment = map (segment_after b (puts changes r)) ss in
            let rows : List Row = rows_at (lane_at l b) r in
            let count : ℕ = length (lane_at l b).seconds in
            let of : AreRowsOf new b (suc count) (map (row_after ss new (touches changes r) (last_in (lane_at l b))) rows) =
            own_after b count (last_in (lane_at l b)) changes r ss rows (omega (arith, some)) d (is.rows r g)
            (λ k lt. subst (λ ns. live_in ns k (map (row_after ss ns (touches changes r) (last_in (lane_at l b))) rows) ≡ live_in ss k rows) (after_at r g) (older_row l b second changes laid h d r k g lt rows (is.rows r g).are)) in
            let placed : AreRowsOf (segments_at after r) b (suc count) (map (row_after ss (segments_at after r) (touches changes r) (last_in (lane_at l b))) rows) =
            subst (λ ns. AreRowsOf ns b (suc count) (map (row_after ss ns (touches changes r) (last_in (lane_at l b))) rows)) (sym (after_at r g)) of in
            let counted : suc count ≡ length (lane_after l after (lane_at l b) second changes).seconds = omega (arith, n) in
            subst (λ c. AreRowsOf (segments_at after r) b c (rows_at grown_lane r)) counted
            (subst (AreRowsOf (segments_at after r) b (suc count)) (sym (rows_now l b second changes laid h d r g)) placed);
      }

  pub commit_laid : IsLaid (after_commit l b second changes)
  commit_laid = record {
    lanes = λ x k.
        let n = length-set l.lanes b grown_lane in
        lane x (omega (arith, n, k)) (cases_eq x b);
    heads = λ r s c k g w.
        let ss : List Segment = segments_at l.segments r in
        let n = length-set l.lanes b grown_lane in
        let m = ap length (after_at r k) ∙ length-map ss (segment_after b (puts changes r)) in
        let j : s < length ss = omega (arith, m, g) in
        ap (λ ns. is_head_of c (head_at ns s)) (after_at r k)
        ∙ ap (is_head_of c) (head_after b (puts changes r) ss s j)
        ∙ laid.heads r s c k j (omega (arith, n, w));
  }
    where
      lane : (x : ℕ) → x < length l.lanes → (x ≡ b) ⊎ (x ≢ b) → IsLane l.schema after x (get_or (set l.lanes b grown_lane) x no_lane)
      lane x k (inl e) =
          subst (IsLane l.schema after x) (sym (ap (λ n. get_or (set l.lanes b grown_lane) n no_lane) e ∙ get_or-set_same l.lanes b grown_lane no_lane h))
          (subst (λ n. IsLane l.schema after n grown_lane) (sym e) own_lane)
      lane x k (inr n) = subst (IsLane l.schema after x) (sym (get_or-set_other l.lanes b x grown_lane no_lane n)) (other_lane x k)

-- ---- heads after a new branch

module _ (b c : ℕ) (ss : List Segment) where
  gone : (h : Option ℕ) (s : Segment) → s.head ≡ h → is_head_of b (internal_if (is_head_of b h) s).head ≡ false
  gone None s e = ap (is_head_of b) e
  gone (Some y) s e = by (cases_Bool (b == y))
    where
      by : ((b == y) ≡ true) ⊎ ((b == y) ≡ false) → is_head_of b (internal_if (b == y) s).head ≡ false
      by (inl t) = ap (λ q. is_head_of b (internal_if q s).head) t
      by (inr f) = ap (λ q. is_head_of b (internal_if q s).head) f ∙ ap (is_head_of b) e ∙ f

  kept : (x : ℕ) → x ≢ b → (h : Option ℕ) (s : Segment) → s.head ≡ h → is_head_of x (internal_if (is_head_of b h) s).head ≡ is_head_of x h
  kept x n None s e = ap (is_head_of x) e
  kept x n (Some y) s e = by (cases_Bool (b == y))
    where
      by : ((b == y) ≡ true) ⊎ ((b == y) ≡ false) → is_head_of x (internal_if (b == y) s).head ≡ (x == y)
      by (inl t) = ap (λ q. is_head_of x (internal_if q s).head) t ∙ sym (ne_eqb x y (λ e. n (e ∙ sym (eqb-true b y t))))
      by (inr f) = ap (λ q. is_head_of x (internal_if q s).head) f ∙ ap (is_head_of x) e

  front : (s : ℕ) → s < length ss → head_at (segments_with true b c ss) s ≡ (without_head b (get_or ss s no_segment)).head
  front s h =
      let m = length-map ss (without_head b) in
      ap (λ (x : Segment). x.head)
      (get_or_append_left (map (without_head b) ss) (head_segment b ∷ head_segment c ∷ []) no_segment s (omega (arith, m, h))
      ∙ get_or-map (without_head b) ss s no_segment no_segment h)

  -- a head becomes internal, and the others stay
  pub own_gone : (s : ℕ) → s < length ss → is_head_of b (head_at (segments_with true b c ss) s) ≡ false
  own_gone s h = ap (is_head_of b) (front s h) ∙ gone (head_at ss s) (get_or ss s no_segment) refl

  pub other_head : (q : Bool) (x s : ℕ) → s < length ss → x ≢ b → is_head_of x (head_at (segments_with q b c ss) s) ≡ is_head_of x (head_at ss s)
  other_head true x s h n = ap (is_head_of x) (front s h) ∙ kept x n (head_at ss s) (get_or ss s no_segment) refl
  other_head false x s h n = ap (λ (y : Segment). is_head_of x y.head) (get_or_append_left ss (head_segment c ∷ []) no_segment s h)

  pub older_head : (x s : ℕ) → s < length ss → is_head_of x (head_at (segments_with false b c ss) s) ≡ is_head_of x (head_at ss s)
  older_head x s h = ap (λ (y : Segment). is_head_of x y.head) (get_or_append_left ss (head_segment c ∷ []) no_segment s h)

  pub own_new : head_at (segments_with true b c ss) (length ss) ≡ Some b
  own_new = ap (λ (x : Segment). x.head) (behind (map (without_head b) ss) (head_segment b) (head_segment c) (length ss) (length ss) 0 (length-map ss (without_head b)) (omega arith))

  pub begun_new : (q : Bool) → head_at (segments_with q b c ss) (new_head q ss) ≡ Some c
  begun_new true = ap (λ (x : Segment). x.head) (behind (map (without_head b) ss) (head_segment b) (head_segment c) (length ss) (suc (length ss)) 1 (length-map ss (without_head b)) (omega arith))
  begun_new false = ap (λ (x : Segment). x.head) (get_or_push ss (head_segment c) no_segment (length ss) refl)

  -- which segment it is: an older one, the new head of b, or that of c
  pub which : (q : Bool) (s : ℕ) → s < length (segments_with q b c ss) → (s < length ss) ⊎ (((q ≡ true) × (s ≡ length ss)) ⊎ (s ≡ new_head q ss))
  which q s h = by q h (cases_lt s (length ss))
    where
      by : (q : Bool) → s < length (segments_with q b c ss) → (s < length ss) ⊎ (length ss ≤ s) → (s < length ss) ⊎ (((q ≡ true) × (s ≡ length ss)) ⊎ (s ≡ new_head q ss))
      by q h (inl l) = inl l
      by true h (inr g) =
          let n = length-append (map (without_head b) ss) (head_segment b ∷ head_segment c ∷ []) in
          let m = length-map ss (without_head b) in
          inr (last (omega (arith, n, m, h)) (cases_eq s (length ss)))
        where
          last : s < length ss + 2 → (s ≡ length ss) ⊎ (s ≢ length ss) → ((true ≡ true) × (s ≡ length ss)) ⊎ (s ≡ suc (length ss))
          last k (inl e) = inl (refl, e)
          last k (inr n) = inr (omega (arith, k, g, n))
      by false h (inr g) = let n = length_push ss (head_segment c) in inr (inr (omega (arith, n, h, g)))

  pub places : (q : Bool) → length ss < length (segments_with q b c ss) × (new_head q ss < length (segments_with q b c ss))
  places true =
      let n = length-append (map (without_head b) ss) (head_segment b ∷ head_segment c ∷ []) in
      let m = length-map ss (without_head b) in
      (omega (arith, n, m), omega (arith, n, m))
  places false = let n = length_push ss (head_segment c) in (omega (arith, n), omega (arith, n))

is_same : (x y : ℕ) (h : Option ℕ) → h ≡ Some y → is_head_of x h ≡ true → x ≡ y
is_same x y h e t = eqb-true x y (sym (ap (is_head_of x) e) ∙ t)

-- a branch that is neither keeps its head
one_other : (q : Bool) (b c x : ℕ) (ss : List Segment) → x ≢ b → x ≢ c → OneHead x ss → OneHead x (segments_with q b c ss)
one_other q b c x ss n m only s t h k i j = let l = old s h i in let o = old t k j in only s t l o (sym (other_head b c ss q x s l n) ∙ i) (sym (other_head b c ss q x t o n) ∙ j)
  where
    old : (s : ℕ) → s < length (segments_with q b c ss) → is_head_of x (head_at (segments_with q b c ss) s) ≡ true → s < length ss
    old s h i = by (which b c ss q s h)
      where
        by : (s < length ss) ⊎ (((q ≡ true) × (s ≡ length ss)) ⊎ (s ≡ new_head q ss)) → s < length ss
        by (inl l) = l
        by (inr (inl e)) = absurd (n (is_same x b (head_at (segments_with q b c ss) s) (ap (head_at (segments_with q b c ss)) e.1 ∙ ap (λ p. head_at (segments_with p b c ss) (length ss)) e.0 ∙ own_new b c ss) i))
        by (inr (inr e)) = absurd (m (is_same x c (head_at (segments_with q b c ss) s) (ap (head_at (segments_with q b c ss)) e ∙ begun_new b c ss q) i))

-- ---- rows after a new branch

are_append : (ss : List Segment) (count : ℕ) (xs ys : List Row) → AreRows ss count xs → AreRows ss count ys → AreRows ss count (xs ++ ys)
are_append ss count xs ys a b i h = by (cases_lt i (length xs))
  where
    by : (i < length xs) ⊎ (length xs ≤ i) → IsRow ss count (row_at (xs ++ ys) i)
    by (inl l) = subst (IsRow ss count) (sym (get_or_append_left xs ys no_row i l)) (a i l)
    by (inr g) =
        let n = length-append xs ys in
        subst (IsRow ss count) (sym (get_or-append_right xs ys (length xs) i no_row refl g)) (b (i - length xs) (omega (arith, n, h, g)))

are_none : (ss : List Segment) (count : ℕ) → AreRows ss count []
are_none ss count i h = absurd (omega (arith, h))

are_one : (ss : List Segment) (count : ℕ) (row : Row) → IsRow ss count row → AreRows ss count (row ∷ [])
are_one ss count row is zero h = is
are_one ss count row is (suc i) h = absurd (omega (arith, h))

-- the row of a head without records
head_row_is : (ss : List Segment) (count segment from : ℕ) → segment < length ss → from + 1 ≡ count → IsRow ss count (head_row segment from)
head_row_is ss count segment from h e = record {
  there = h;
  begun = omega (arith, e);
  full = e;
  within = λ n slot t. absurd (false≢true (sym (none (suc n - from) slot) ∙ t));
}
  where
    none : (k slot : ℕ) → combined (take k ([] ∷ [])) slot ≡ false
    none zero slot = refl
    none (suc k) slot = ap (λ ds. combined ds slot) (take_all (suc k) ([] ∷ []) (omega arith))

-- a row that is taken over
row_of_is : (ss : List Segment) (row : Row) (n : ℕ) → row.segment < length ss → AreRows ss 1 (carried ss n row)
row_of_is ss row n h = by (slots_where (bit row n) (length (records_at ss row.segment))) refl
  where
    by : (slots : List ℕ) → slots_where (bit row n) (length (records_at ss row.segment)) ≡ slots → AreRows ss 1 (row_of row.segment slots)
    by [] e = are_none ss 1
    by (x ∷ xs) e = are_one ss 1 (record { segment = row.segment; from = 0; deltas = (x ∷ xs) ∷ [] }) (record {
      there = h;
      begun = omega arith;
      full = omega arith;
      within = λ m slot t. inside m slot t (cases_lt slot (length (records_at ss row.segment)));
    })
      where
        inside : (m slot : ℕ) → combined (take (suc m - 0) ((x ∷ xs) ∷ [])) slot ≡ true → (slot < length (records_at ss row.segment)) ⊎ (length (records_at ss row.segment) ≤ slot) → slot < length (records_at ss row.segment)
        inside m slot t (inl l) = l
        inside m slot t (inr g) =
            let all : combined (take (suc m - 0) ((x ∷ xs) ∷ [])) slot ≡ differ (has (x ∷ xs) slot) false = ap (λ ds. combined ds slot) (take_all (suc m - 0) ((x ∷ xs) ∷ []) (omega arith)) in
            let none : has (x ∷ xs) slot ≡ false = ap (λ s. has s slot) (sym e) ∙ has_past (bit row n) (length (records_at ss row.segment)) slot g in
            absurd (false≢true (sym (all ∙ ap (λ b. differ b false) none) ∙ t))

carried_are : (ss : List Segment) (count n : ℕ) (rows : List Row) → AreRows ss count rows → AreRows ss 1 (flat_map (carried ss n) rows)
carried_are ss count n [] all = are_none ss 1
carried_are ss count n (row ∷ rows) all =
    are_append ss 1 (carried ss n row) (flat_map (carried ss n) rows) (row_of_is ss row n (first_is ss count row rows all).there) (carried_are ss count n rows (rest_are ss count row rows all))

-- ---- rows in order

rises_less : (low m : ℕ) (rows : List Row) → m ≤ low → rises low rows ≡ true → rises m rows ≡ true
rises_less low m [] h up = refl
rises_less low m (row ∷ rows) h up =
    let two = and_parts (nat_le low row.segment) (rises (suc row.segment) rows) up in
    let l = leb-true _ _ two.0 in
    and_from (nat_le m row.segment) (rises (suc row.segment) rows) (le-leb _ _ (omega (arith, l, h))) two.1

carried_rise : (ss : List Segment) (n low : ℕ) (rows : List Row) → rises low rows ≡ true → rises low (flat_map (carried ss n) rows) ≡ true
carried_rise ss n low [] up = refl
carried_rise ss n low (row ∷ rows) up = by (slots_where (bit row n) (length (records_at ss row.segment))) (carried_rise ss n (suc row.segment) rows two.1)
  where
    two : (nat_le low row.segment ≡ true) × (rises (suc row.segment) rows ≡ true)
    two = and_parts (nat_le low row.segment) (rises (suc row.segment) rows) up

    by : (slots : List ℕ) → rises (suc row.segment) (flat_map (carried ss n) rows) ≡ true → rises low (row_of row.segment slots ++ flat_map (carried ss n) rows) ≡ true
    by [] rest = let l = leb-true _ _ two.0 in rises_less (suc row.segment) low (flat_map (carried ss n) rows) (omega (arith, l)) rest
    by (x ∷ xs) rest = and_from (nat_le low row.segment) (rises (suc row.segment) (flat_map (carried ss n) rows)) two.0 rest

rises_push : (ss : List Segment) (count low segment from : ℕ) (rows : List Row) → AreRows ss count rows → length ss ≤ segment → low ≤ segment → rises low rows ≡ true → rises low (rows ++ head_row segment from ∷ []) ≡ true
rises_push ss count low segment from [] all h l up = and_from (nat_le low segment) true (le-leb low segment l) refl
rises_push ss count low segment from (row ∷ rows) all h l up =
    let two = and_parts (nat_le low row.segment) (rises (suc row.segment) rows) up in
    let t = (first_is ss count row rows all).there in
    and_from (nat_le low row.segment) (rises (suc row.segment) (rows ++ head_row segment from ∷ [])) two.0
    (rises_push ss count (suc row.segment) segment from rows (rest_are ss count row rows all) h (omega (arith, t, h)) two.1)

head_behind : (b : ℕ) (ss : List Segment) (rows : List Row) (row : Row) → is_head_of b (head_at ss row.segment) ≡ true → has_head b ss (rows ++ row ∷ []) ≡ true
head_behind b ss [] row e = ap (λ q. q || false) e
head_behind b ss (x ∷ xs) row e = ap (λ q. is_head_of b (head_at ss x.segment) || q) (head_behind b ss xs row e) ∙ or_true (is_head_of b (head_at ss x.segment))
  where
    or_true : (q : Bool) → (q || true) ≡ true
    or_true true = refl
    or_true false = refl

-- the heads of rows that are kept
heads_kept : (x count : ℕ) (old new : List Segment) (rows : List Row) → AreRows old count rows → ((s : ℕ) → s < length old → is_head_of x (head_at new s) ≡ is_head_of x (head_at old s)) → has_head x new rows ≡ has_head x old rows
heads_kept x count old new [] all same = refl
heads_kept x count old new (row ∷ rows) all same =
    ap (λ q. q || has_head x new rows) (same row.segment (first_is old count row rows all).there)
    ∙ ap (λ q. is_head_of x (head_at old row.segment) || q) (heads_kept x count old new rows (rest_are old count row rows all) same)

all_keep : (old new : List Segment) (count : ℕ) (rows : List Row) → Extended old new → AreRows old count rows → AreRows new count rows
all_keep old new count rows e all i h = row_keeps old new count (row_at rows i) e (all i h)

-- rows of another branch after a new branch
others_with : (q : Bool) (b c x count : ℕ) (ss : List Segment) (rows : List Row) → x ≢ b → x ≢ c → AreRowsOf ss x count rows → AreRowsOf (segments_with q b c ss) x count rows
others_with q b c x count ss rows n m is = record {
  are = all_keep ss (segments_with q b c ss) count rows (extended_with q b c ss) is.are;
  ascend = is.ascend;
  headed = heads_kept x count ss (segments_with q b c ss) rows is.are (λ s h. other_head b c ss q x s h n) ∙ is.headed;
  only = one_other q b c x ss n m is.only;
  apart = λ k key h. subst (λ xs. times key xs ≤ 1) (sym (rows_keep ss (segments_with q b c ss) count k rows (extended_with q b c ss) is.are)) (is.apart k key h);
}

-- those of the branch from which it is
source_with : (q : Bool) (b c n count : ℕ) (ss : List Segment) (rows : List Row) → b ≢ c → (q ≡ true → n + 1 ≡ count) → AreRowsOf ss b count rows → AreRowsOf (segments_with q b c ss) b count (rows_with q n ss rows)
source_with true b c n count ss rows m last is = record {
  are = are_append (segments_with true b c ss) count rows (head_row (length ss) n ∷ []) (all_keep ss (segments_with true b c ss) count rows (extended_with true b c ss) is.are)
      (are_one (segments_with true b c ss) count (head_row (length ss) n) (head_row_is (segments_with true b c ss) count (length ss) n (places b c ss true).0 (last refl)));
  ascend = rises_push ss count 0 (length ss) n rows is.are (omega arith) (omega arith) is.ascend;
  headed = head_behind b (segments_with true b c ss) rows (head_row (length ss) n) (ap (is_head_of b) (own_new b c ss) ∙ eq-eqb b b refl);
  only = λ s t h k i j. at s h i ∙ sym (at t k j);
  apart = λ k key h. subst (λ xs. times key xs ≤ 1) (sym (rows_with_keep true b c 0 k n count ss rows is.are)) (is.apart k key h);
}
  where
    at : (s : ℕ) → s < length (segments_with true b c ss) → is_head_of b (head_at (segments_with true b c ss) s) ≡ true → s ≡ length ss
    at s h i = by (which b c ss true s h)
      where
        by : (s < length ss) ⊎ (((true ≡ true) × (s ≡ length ss)) ⊎ (s ≡ suc (length ss))) → s ≡ length ss
        by (inl l) = absurd (false≢true (sym (own_gone b c ss s l) ∙ i))
        by (inr (inl e)) = e.1
        by (inr (inr e)) = absurd (m (is_same b c (head_at (segments_with true b c ss) s) (ap (head_at (segments_with true b c ss)) e ∙ begun_new b c ss true) i))
source_with false b c n count ss rows m last is = record {
  are = all_keep ss (segments_with false b c ss) count rows (extended_with false b c ss) is.are;
  ascend = is.ascend;
  headed = heads_kept b count ss (segments_with false b c ss) rows is.are (older_head b c ss b) ∙ is.headed;
  only = λ s t h k i j. let l = old s h i in let o = old t k j in is.only s t l o (sym (older_head b c ss b s l) ∙ i) (sym (older_head b c ss b t o) ∙ j);
  apart = λ k key h. subst (λ xs. times key xs ≤ 1) (sym (rows_with_keep false b c 0 k n count ss rows is.are)) (is.apart k key h);
}
  where
    old : (s : ℕ) → s < length (segments_with false b c ss) → is_head_of b (head_at (segments_with false b c ss) s) ≡ true → s < length ss
    old s h i = by (which b c ss false s h)
      where
        by : (s < length ss) ⊎ (((false ≡ true) × (s ≡ length ss)) ⊎ (s ≡ length ss)) → s < length ss
        by (inl l) = l
        by (inr (inl e)) = absurd (false≢true e.0)
        by (inr (inr e)) = absurd (m (is_same b c (head_at (segments_with false b c ss) s) (ap (head_at (segments_with false b c ss)) e ∙ begun_new b c ss false) i))

-- and those of the new one
begun_with : (q : Bool) (b c n count : ℕ) (ss : List Segment) (rows : List Row) → b ≢ c → n < count → ((s : ℕ) → s < length ss → is_head_of c (head_at ss s) ≡ false) → AreRowsOf ss b count rows
    → AreRowsOf (segments_with q b c ss) c 1 (rows_begun q n ss rows)
begun_with q b c n count ss rows m below free is = record {
  are = are_append (segments_with q b c ss) 1 (flat_map (carried ss n) rows) (head_row (new_head q ss) 0 ∷ [])
      (all_keep ss (segments_with q b c ss) 1 (flat_map (carried ss n) rows) (extended_with q b c ss) (carried_are ss count n rows is.are))
      (are_one (segments_with q b c ss) 1 (head_row (new_head q ss) 0) (head_row_is (segments_with q b c ss) 1 (new_head q ss) 0 (places b c ss q).1 (omega arith)));
  ascend = rises_push ss 1 0 (new_head q ss) 0 (flat_map (carried ss n) rows) (carried_are ss count n rows is.are) (above q) (omega arith) (carried_rise ss n 0 rows is.ascend);
  headed = head_behind c (segments_with q b c ss) (flat_map (carried ss n) rows) (head_row (new_head q ss) 0) (ap (is_head_of c) (begun_new b c ss q) ∙ eq-eqb c c refl);
  only = λ s t h k i j. at s h i ∙ sym (at t k j);
  apart = λ k key h.
      let z : k ≡ 0 = omega (arith, h) in
      subst (λ i. times key (live_in (segments_with q b c ss) i (rows_begun q n ss rows)) ≤ 1) (sym z)
      (subst (λ xs. times key xs ≤ 1) (sym (rows_begun_keep q b c n count ss rows is.are)) (is.apart n key below));
}
  where
    above : (p : Bool) → length ss ≤ new_head p ss
    above true = omega arith
    above false = omega arith

    at : (s : ℕ) → s < length (segments_with q b c ss) → is_head_of c (head_at (segments_with q b c ss) s) ≡ true → s ≡ new_head q ss
    at s h i = by (which b c ss q s h)
      where
        by : (s < length ss) ⊎ (((q ≡ true) × (s ≡ length ss)) ⊎ (s ≡ new_head q ss)) → s ≡ new_head q ss
        by (inl l) = absurd (false≢true (sym (other_head b c ss q c s l (λ e. m (sym e)) ∙ free s l) ∙ i))
        by (inr (inl e)) = absurd (m (sym (is_same c b (head_at (segments_with q b c ss) s) (ap (head_at (segments_with q b c ss)) e.1 ∙ ap (λ p. head_at (segments_with p b c ss) (length ss)) e.0 ∙ own_new b c ss) i)))
        by (inr (inr e)) = e

-- later branches have no head
no_later : (q : Bool) (b c x s : ℕ) (ss : List Segment) → x ≢ b → x ≢ c → s < length (segments_with q b c ss) → ((t : ℕ) → t < length ss → is_head_of x (head_at ss t) ≡ false) → is_head_of x (head_at (segments_with q b c ss) s) ≡ false
no_later q b c x s ss n m h free = by (which b c ss q s h)
  where
    by : (s < length ss) ⊎ (((q ≡ true) × (s ≡ length ss)) ⊎ (s ≡ new_head q ss)) → is_head_of x (head_at (segments_with q b c ss) s) ≡ false
    by (inl l) = other_head b c ss q x s l n ∙ free s l
    by (inr (inl e)) = ap (is_head_of x) (ap (head_at (segments_with q b c ss)) e.1 ∙ ap (λ p. head_at (segments_with p b c ss) (length ss)) e.0 ∙ own_new b c ss) ∙ ne_eqb x b n
    by (inr (inr e)) = ap (is_head_of x) (ap (head_at (segments_with q b c ss)) e ∙ begun_new b c ss q) ∙ ne_eqb x c m

module _ (l : Layout) (q : Bool) (name : List ℕ) (origin : VersionPlace) (laid : IsLaid l) (h : origin.branch < length l.lanes) (p : origin.position < length (lane_at l origin.branch).seconds)
    (last : q ≡ true → origin.position + 1 ≡ length (lane_at l origin.branch).seconds) where
  abbrev from_lane : Lane
  from_lane = lane_at l origin.branch

  abbrev wide : List (List Segment)
  wide = by_relation l.schema (λ r. segments_with q origin.branch (length l.lanes) (segments_at l.segments r))

  wide_at : (r : ℕ) → r < length l.schema → segments_at wide r ≡ segments_with q origin.branch (length l.lanes) (segments_at l.segments r)
  wide_at r k = at_relation l.schema (λ r. segments_with q origin.branch (length l.lanes) (segments_at l.segments r)) r [] k

  apart_lanes : origin.branch ≢ length l.lanes
  apart_lanes e = absurd (omega (arith, e, h))

  lane_stays : (x : ℕ) → x < length l.lanes → x ≢ origin.branch → IsLane l.schema wide x (lane_at l x)
  lane_stays x k n = record {
    some = (laid.lanes x k).some;
    rows = λ r g. subst (λ ss. AreRowsOf ss x (length (lane_at l x).seconds) (rows_at (lane_at l x) r)) (sym (wide_at r g))
        (others_with q origin.branch (length l.lanes) x (length (lane_at l x).seconds) (segments_at l.segments r) (rows_at (lane_at l x) r) n (λ e. absurd (omega (arith, e, k))) ((laid.lanes x k).rows r g));
  }

  source_lane : IsLane l.schema wide origin.branch (lane_with l q from_lane origin.position)
  source_lane = record {
    some = (laid.lanes origin.branch h).some;
    rows = λ r g.
        subst (AreRowsOf (segments_at wide r) origin.branch (length from_lane.seconds)) (sym (at_relation l.schema (λ r. rows_with q origin.position (segments_at l.segments r) (rows_at from_lane r)) r [] g))
        (subst (λ ss. AreRowsOf ss origin.branch (length from_lane.seconds) (rows_with q origin.position (segments_at l.segments r) (rows_at from_lane r))) (sym (wide_at r g))
        (source_with q origin.branch (length l.lanes) origin.position (length from_lane.seconds) (segments_at l.segments r) (rows_at from_lane r) apart_lanes last ((laid.lanes origin.branch h).rows r g)));
  }

  new_lane : IsLane l.schema wide (length l.lanes) (lane_begun l q name origin)
  new_lane = record {
    some = omega arith;
    rows = λ r g.
        subst (AreRowsOf (segments_at wide r) (length l.lanes) 1) (sym (at_relation l.schema (λ r. rows_begun q origin.position (segments_at l.segments r) (rows_at from_lane r)) r [] g))
        (subst (λ ss. AreRowsOf ss (length l.lanes) 1 (rows_begun q origin.position (segments_at l.segments r) (rows_at from_lane r))) (sym (wide_at r g))
        (begun_with q origin.branch (length l.lanes) origin.position (length from_lane.seconds) (segments_at l.segments r) (rows_at from_lane r) apart_lanes p (λ s k. laid.heads r s (length l.lanes) g k (omega arith)) ((laid.lanes origin.branch h).rows r g)));
  }

  abbrev olds : List Lane
  olds = set l.lanes origin.branch (lane_with l q from_lane origin.position)

  pub branch_laid : IsLaid (with_branch l q name origin)
  branch_laid =
      let n = length-set l.lanes origin.branch (lane_with l q from_lane origin.position) in
      let m = length_push olds (lane_begun l q name origin) in
      record {
        lanes = λ x k. lane x (omega (arith, n, m, k)) (cases_eq x (length l.lanes));
        heads = λ r s c k g w.
            let j : s < length (segments_with q origin.branch (length l.lanes) (segments_at l.segments r)) = subst (λ (ss : List Segment). s < length ss) (wide_at r k) g in
            ap (λ ss. is_head_of c (head_at ss s)) (wide_at r k)
            ∙ no_later q origin.branch (length l.lanes) c s (segments_at l.segments r) (λ e. absurd (omega (arith, e, h, n, m, w))) (λ e. absurd (omega (arith, e, n, m, w))) j (λ t i. laid.heads r t c k i (omega (arith, n, m, w)));
      }
    where
      old : (x : ℕ) → x < length l.lanes → (x ≡ origin.branch) ⊎ (x ≢ origin.branch) → IsLane l.schema wide x (get_or olds x no_lane)
      old x k (inl e) =
          subst (IsLane l.schema wide x) (sym (ap (λ n. get_or olds n no_lane) e ∙ get_or-set_same l.lanes origin.branch (lane_with l q from_lane origin.position) no_lane h))
          (subst (λ n. IsLane l.schema wide n (lane_with l q from_lane origin.position)) (sym e) source_lane)
      old x k (inr n) = subst (IsLane l.schema wide x) (sym (get_or-set_other l.lanes origin.branch x (lane_with l q from_lane origin.position) no_lane n)) (lane_stays x k n)

      lane : (x : ℕ) → x < length l.lanes + 1 → (x ≡ length l.lanes) ⊎ (x ≢ length l.lanes) → IsLane l.schema wide x (get_or (olds ++ lane_begun l q name origin ∷ []) x no_lane)
      lane x k (inl e) =
          let n = length-set l.lanes origin.branch (lane_with l q from_lane origin.position) in
          subst (IsLane l.schema wide x) (sym (get_or_push olds (lane_begun l q name origin) no_lane x (n ∙ sym e)))
          (subst (λ n. IsLane l.schema wide n (lane_begun l q name origin)) (sym e) new_lane)
      lane x k (inr n) =
          let c = length-set l.lanes origin.branch (lane_with l q from_lane origin.position) in
          let i : x < length l.lanes = omega (arith, k, n) in
          subst (IsLane l.schema wide x) (sym (get_or_append_left olds (lane_begun l q name origin ∷ []) no_lane x (omega (arith, i, c)))) (old x i (cases_eq x origin.branch))

-- ---- an entry, and the new layout

pub laid_stays : (l : Layout) (e : Entry) → IsLaid l → fits (dataset_in l) e ≡ true → IsLaid (grow_layout l e)
laid_stays l (Commit b second changes) laid f =
    let parts = commit_parts (dataset_in l) b second changes f in
    let fit = and_parts _ _ parts.changes in
    let up = and_parts _ _ fit.0 in
    commit_laid l b second changes laid (lanes_there l b parts.there) (ascending_differ changes up.1)
laid_stays l (NewBranch name origin) laid f =
    let made : (origin.branch < length l.lanes) × (origin.position < length (lane_at l origin.branch).seconds) = made_there l origin (made_from (dataset_in l) origin (and_parts _ _ f).1) in
    branch_laid l (is_last l origin) name origin laid made.0 made.1 (λ t. last (laid.lanes origin.branch made.0).some (eqb-true origin.position (last_in (lane_at l origin.branch)) t))
  where
    last : 0 < length (lane_at l origin.branch).seconds → origin.position ≡ last_in (lane_at l origin.branch) → origin.position + 1 ≡ length (lane_at l origin.branch).seconds
    last some e = omega (arith, some, e)

pub new_is_laid : (schema : List Relation) → IsLaid (new_layout schema)
new_is_laid schema = record { lanes = lanes; heads = heads }
  where
    ss : List Segment
    ss = head_segment 0 ∷ []

    rows : List Row
    rows = head_row 0 0 ∷ []

    segments : (r : ℕ) → r < length schema → segments_at (new_layout schema).segments r ≡ head_segment 0 ∷ []
    segments r h = at_relation schema (λ k. head_segment 0 ∷ []) r [] h

    of : AreRowsOf (head_segment 0 ∷ []) 0 1 (head_row 0 0 ∷ [])
    of = record {
      are = are_one (head_segment 0 ∷ []) 1 (head_row 0 0) (head_row_is (head_segment 0 ∷ []) 1 0 0 (omega arith) (omega arith));
      ascend = refl;
      headed = refl;
      only = λ s t h k i j. omega (arith, h, k);
      apart = λ n key h. omega arith;
    }

    lane : (b : ℕ) → b < 1 → IsLane schema (new_layout schema).segments b (lane_at (new_layout schema) b)
    lane zero h = record {
      some = omega arith;
      rows = λ r k.
          subst (AreRowsOf (segments_at (new_layout schema).segments r) 0 1) (sym (at_relation schema (λ k. head_row 0 0 ∷ []) r [] k))
          (subst (λ xs. AreRowsOf xs 0 1 (head_row 0 0 ∷ [])) (sym (segments r k)) of);
    }
    lane (suc b) h = absurd (omega (arith, h))

    lanes : (b : ℕ) → b < 1 → IsLane schema (new_layout schema).segments b (lane_at (new_layout schema) b)
    lanes b h = lane b h

    none : (s c : ℕ) → s < 1 → 1 ≤ c → is_head_of c (head_at (head_segment 0 ∷ []) s) ≡ false
    none zero c h w = ne_eqb c 0 (λ e. absurd (omega (arith, e, w)))
    none (suc s) c h w = absurd (omega (arith, h))

    heads : (r s c : ℕ) → r < length schema → s < length (segments_at (new_layout schema).segments r) → 1 ≤ c → is_head_of c (head_at (segments_at (new_layout schema).segments r) s) ≡ false
    heads r s c k h w = ap (λ xs. is_head_of c (head_at xs s)) (segments r k) ∙ none s c (subst (λ (xs : List Segment). s < length xs) (segments r k) h) w
