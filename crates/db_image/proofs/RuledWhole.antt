-- The rules over the whole hold of a layout's image.
use Rattle.std.proofs.Common.{◌≡◌, ◌≢◌, ◌⊎◌, inl, inr, ℕ, zero, suc, ◌+◌, ◌-◌, ◌<◌, ◌≤◌, ◌==◌, ◌&&◌, ◌||◌, Bool, true, false, not, cond, List, [], ◌∷◌, ◌++◌, map, replicate, length, get_or, Option, Some, None, refl, sym, ap, subst, ◌∙◌, arith, nat_cmp}
use Rattle.std.specs.Prelude.{nat_le, is_some}
use Rattle.std.specs.List.{All, flat_map, list_any, list_all, range_with_len}
use Rattle.std.specs.FinMap as finite
use Rattle.std.proofs.lemmas.Cmp.{nat_cmp_total}
use Rattle.std.proofs.lemmas.Bool.{and_from, eqb-true, eq-eqb, ne_eqb, le-leb, cases_eq, cases_lt}
use Rattle.std.proofs.lemmas.List.{length-map, length-replicate}
use Rattle.std.proofs.lemmas.List.FromFn.{get_or-map-range_with_len, length-map-range_with_len}
use Rattle.db_value.specs.Value.{Value}
use Rattle.db_value.specs.Relations.{widths_at}
use Rattle.db_value.specs.declared.record.Record.{Record}
use Rattle.db_value.specs.declared.version.VersionPlace.{VersionPlace}
use Rattle.db_store.specs.Table.{Contents, relation_at}
use Rattle.db_store.specs.Dataset.{table_at, IsMade}
use Rattle.db_store.specs.Sound.{IsSound}
use Rattle.db_store.specs.Counted.{IsCounted}
use Rattle.db_store.specs.SameRows.{fields_in}
use Rattle.db_store.specs.Layout.{Segment, Row, Layout, no_segment, lane_at, segments_at, rows_at, live_in, contents_of, branch_of, dataset_in}
use Rattle.db_store.specs.LayoutGrowth.{is_head_of}
use Rattle.db_store.specs.LaidOut.{row_at, head_at, times, IsLaid}
use Rattle.db_store.proofs.BitLemmas.{get_contents}
use Rattle.db_store.proofs.SegmentLemmas.{at_relation}
use Rattle.db_store.proofs.LayoutLaw.{count_is, table_at_is}
use Rattle.hybrid_store.specs.Parts.{rows_from, segment_laid}
use Rattle.hybrid_store.specs.Readers.{place_from, from_at, deltas_at, rows_in}
use Rattle.image_text.specs.declared.image.RowPart.{RowPart}
use Rattle.image_text.specs.declared.image.BranchPart.{BranchPart}
use Rattle.image_text.specs.declared.image.SegmentPart.{SegmentPart}
use Rattle.image_text.specs.Spelling.{segment_bytes}
use Rattle.db_value.proofs.SchemaLemmas.{relation_widths}
use Rattle.image_text.specs.Reading.{last_of, is_there}
use Rattle.image_parts.specs.Walk.{no_segment as no_part}
use Rattle.image_parts.specs.Whole.{are_made, has_row, is_kept, counts_from, heads_once, keys_at, are_distinct, is_table, is_keyed, keys_once, is_whole}
use Rattle.db_image.specs.Parts.{segment_part}
use Rattle.db_image.specs.Images.{branch_image, branches_image, row_with, row_image, rows_image, head_image, segment_image, segments_image, image_of}
use Rattle.db_image.specs.Imaged.{AreWithin, AreInOrder, HasOrigins, HasSegments, AllNumbersFit}
use Rattle.db_image.specs.Rules.{lasts_of}
use Rattle.db_image.proofs.Heads.{heads_of, counts_are, length_counts, zero_in, steps}
use Rattle.db_image.proofs.RowsLaid.{key_of, laid_segments, laid_at, length_laid, keys_are}
use Rattle.db_image.proofs.SegmentsRead.{IsSegment, segment_adds}
use Rattle.db_image.proofs.LayoutBack.{parts_are, segments_back, rows_back}
use Rattle.db_image.proofs.LinesKept.{lasts, lasts_same, count, last_is, there}
use Rattle.db_image.proofs.ReadRows.{segment_back}
use Rattle.db_image.proofs.RuledRows.{place_cases, segment_ruled}

-- ---- lists

all_from : {X : Type 0} (p : X → Bool) (xs : List X) → ((k : ℕ) (d : X) → k < length xs → p (get_or xs k d) ≡ true) → list_all p xs ≡ true
all_from p [] f = refl
all_from p (x ∷ xs) f = and_from (p x) (list_all p xs) (f 0 x (omega arith)) (all_from p xs (λ k d l. f (suc k) d (omega (arith, l))))

range_from : (p : ℕ → Bool) (n a : ℕ) → ((k : ℕ) → a ≤ k → k < a + n → p k ≡ true) → list_all p (range_with_len a n) ≡ true
range_from p zero a f = refl
range_from p (suc n) a f = and_from (p a) (list_all p (range_with_len (a + 1) n)) (f a (omega arith) (omega arith)) (range_from p n (a + 1) (λ k g l. f k (omega (arith, g)) (omega (arith, l))))

any_at : (p : Row → Bool) (rows : List Row) → list_any p rows ≡ true → (i : ℕ) × (i < length rows) × (p (row_at rows i) ≡ true)
any_at p [] e = absurd cc
any_at p (x ∷ xs) e = at (p x) refl e (any_at p xs)
  where
    at : (q : Bool) → p x ≡ q → list_any p (x ∷ xs) ≡ true → (list_any p xs ≡ true → (i : ℕ) × (i < length xs) × (p (row_at xs i) ≡ true)) → (i : ℕ) × (i < length (x ∷ xs)) × (p (row_at (x ∷ xs) i) ≡ true)
    at true h f later = (0, omega arith, h)
    at false h f later = let y = later (sym (ap (λ q. q || list_any p xs) h) ∙ f) in let l = y.1 in (suc y.0, omega (arith, l), y.2)

or_right : (q r : Bool) → r ≡ true → (q || r) ≡ true
or_right true r e = refl
or_right false r e = e

any_left : (b : ℕ) (xs ys : List RowPart) → has_row xs b ≡ true → has_row (xs ++ ys) b ≡ true
any_left b [] ys e = absurd cc
any_left b (x ∷ xs) ys e = at (x.branch == b) refl e (any_left b xs ys)
  where
    at : (q : Bool) → (x.branch == b) ≡ q → (x.branch == b || has_row xs b) ≡ true → (has_row xs b ≡ true → has_row (xs ++ ys) b ≡ true) → (x.branch == b || has_row (xs ++ ys) b) ≡ true
    at true h f later = ap (λ q. q || has_row (xs ++ ys) b) h
    at false h f later = or_right (x.branch == b) (has_row (xs ++ ys) b) (later (sym (ap (λ q. q || has_row xs b) h) ∙ f))

any_right : (b : ℕ) (xs ys : List RowPart) → has_row ys b ≡ true → has_row (xs ++ ys) b ≡ true
any_right b [] ys e = e
any_right b (x ∷ xs) ys e = or_right (x.branch == b) (has_row (xs ++ ys) b) (any_right b xs ys e)

any_flat : (f : ℕ → List RowPart) (b n a : ℕ) → a ≤ b → b < a + n → has_row (f b) b ≡ true → has_row (flat_map f (range_with_len a n)) b ≡ true
any_flat f b zero a g l e = absurd (omega (arith, g, l))
any_flat f b (suc n) a g l e = at (cases_eq a b) (λ m. any_flat f b n (a + 1) (omega (arith, g, m)) (omega (arith, l)) e)
  where
    at : (a ≡ b) ⊎ (a ≢ b) → (a ≢ b → has_row (flat_map f (range_with_len (a + 1) n)) b ≡ true) → has_row (f a ++ flat_map f (range_with_len (a + 1) n)) b ≡ true
    at (inl same) later = any_left b (f a) (flat_map f (range_with_len (a + 1) n)) (subst (λ k. has_row (f k) b ≡ true) (sym same) e)
    at (inr m) later = any_right b (f a) (flat_map f (range_with_len (a + 1) n)) (later m)

-- ---- heads

head_some : (o : Option ℕ) (b : ℕ) → head_image o ≡ suc b → o ≡ Some b
head_some None b e = absurd (omega (arith, e))
head_some (Some c) b e = let n : c ≡ b = omega (arith, e) in ap (λ k. Some k) n

is_head_some : (o : Option ℕ) (b : ℕ) → is_head_of b o ≡ true → o ≡ Some b
is_head_some None b e = absurd cc
is_head_some (Some c) b e = ap (λ k. Some k) (sym (eqb-true b c e))

heads_none : (b : ℕ) (xs : List SegmentPart) → ((s : ℕ) → s < length xs → (get_or xs s no_part).head ≡ suc b → ⊥) → heads_of b xs ≡ 0
heads_none b [] f = refl
heads_none b (x ∷ xs) f = ap (λ q. cond q (suc (heads_of b xs)) (heads_of b xs)) (ne_eqb x.head (suc b) (λ e. f 0 (omega arith) e)) ∙ heads_none b xs (λ s l e. f (suc s) (omega (arith, l)) e)

heads_one : (b : ℕ) (xs : List SegmentPart) (s : ℕ) → s < length xs → (get_or xs s no_part).head ≡ suc b → ((t : ℕ) → t < length xs → (get_or xs t no_part).head ≡ suc b → t ≡ s) → heads_of b xs ≡ 1
heads_one b [] s l e f = absurd (omega (arith, l))
heads_one b (x ∷ xs) zero l e f =
    ap (λ q. cond q (suc (heads_of b xs)) (heads_of b xs)) (eq-eqb x.head (suc b) e) ∙ ap suc (heads_none b xs (λ t h g. let z = f (suc t) (omega (arith, h)) g in omega (arith, z)))
heads_one b (x ∷ xs) (suc s) l e f =
    ap (λ q. cond q (suc (heads_of b xs)) (heads_of b xs)) (ne_eqb x.head (suc b) (λ g. let z = f 0 (omega arith) g in omega (arith, z)))
    ∙ heads_one b xs s (omega (arith, l)) e (λ t h g. let z = f (suc t) (omega (arith, h)) g in omega (arith, z))

place_none : (rows : List Row) (i s : ℕ) → place_from i rows s ≡ None → (k : ℕ) → k < length rows → (row_at rows k).segment ≡ s → ⊥
place_none [] i s e k l f = omega (arith, l)
place_none (x ∷ xs) i s e k l f = at (x.segment == s) refl e k l f (place_none xs (i + 1) s)
  where
    at : (q : Bool) → (x.segment == s) ≡ q → cond (x.segment == s) (Some i) (place_from (i + 1) xs s) ≡ None → (k : ℕ) → k < length (x ∷ xs) → (row_at (x ∷ xs) k).segment ≡ s
        → (place_from (i + 1) xs s ≡ None → (k : ℕ) → k < length xs → (row_at xs k).segment ≡ s → ⊥) → ⊥
    at true h e k l f later = let z : Some i ≡ None = sym (ap (λ q. cond q (Some i) (place_from (i + 1) xs s)) h) ∙ e in cc
    at false h e zero l f later = let z : true ≡ false = sym (eq-eqb x.segment s f) ∙ h in cc
    at false h e (suc k) l f later = later (sym (ap (λ q. cond q (Some i) (place_from (i + 1) xs s)) h) ∙ e) k (omega (arith, l)) f

-- ---- keys

none_any : (key : ℕ) (xs : List Record) → times key xs ≡ 0 → list_any (λ y. y == key) (map key_of xs) ≡ false
none_any key [] e = refl
none_any key (x ∷ xs) e = at (x.key == key) refl (none_any key xs)
  where
    at : (q : Bool) → (x.key == key) ≡ q → (times key xs ≡ 0 → list_any (λ y. y == key) (map key_of xs) ≡ false) → (x.key == key || list_any (λ y. y == key) (map key_of xs)) ≡ false
    at true h later = absurd (let z : 1 + times key xs ≡ 0 = subst (λ q. cond q 1 0 + times key xs ≡ 0) h e in omega (arith, z))
    at false h later = (λ i. h i || later (let z : 0 + times key xs ≡ 0 = subst (λ q. cond q 1 0 + times key xs ≡ 0) h e in omega (arith, z)) i)

rest_once : (x : Record) (xs : List Record) → ((key : ℕ) → times key (x ∷ xs) ≤ 1) → (key : ℕ) → times key xs ≤ 1
rest_once x xs h key = let a = h key in omega (arith, a)

own_none : (x : Record) (xs : List Record) → ((key : ℕ) → times key (x ∷ xs) ≤ 1) → times x.key xs ≡ 0
own_none x xs h = let a : 1 + times x.key xs ≤ 1 = subst (λ q. cond q 1 0 + times x.key xs ≤ 1) (eq-eqb x.key x.key refl) (h x.key) in omega (arith, a)

distinct_from : (xs : List Record) → ((key : ℕ) → times key xs ≤ 1) → are_distinct (map key_of xs) ≡ true
distinct_from [] h = refl
distinct_from (x ∷ xs) h =
    and_from (not (list_any (λ y. y == x.key) (map key_of xs))) (are_distinct (map key_of xs)) (ap not (none_any x.key xs (own_none x xs h))) (distinct_from xs (rest_once x xs h))

no_fields : (key : ℕ) (xs : List Record) → times key xs ≡ 0 → fields_in key xs ≡ None
no_fields key [] e = refl
no_fields key (x ∷ xs) e = at (x.key == key) refl (no_fields key xs)
  where
    at : (q : Bool) → (x.key == key) ≡ q → (times key xs ≡ 0 → fields_in key xs ≡ None) → cond (x.key == key) (Some x.fields) (fields_in key xs) ≡ None
    at true h later = absurd (let z : 1 + times key xs ≡ 0 = subst (λ q. cond q 1 0 + times key xs ≡ 0) h e in omega (arith, z))
    at false h later = ap (λ q. cond q (Some x.fields) (fields_in key xs)) h ∙ later (let z : 0 + times key xs ≡ 0 = subst (λ q. cond q 1 0 + times key xs ≡ 0) h e in omega (arith, z))

len_is : (xs : List Record) → ((key : ℕ) → times key xs ≤ 1) → finite.len (contents_of xs) ≡ length xs
len_is [] h = finite.len-empty nat_cmp (List Value)
len_is (x ∷ xs) h =
    let none : finite.contains_key (contents_of xs) x.key ≡ false = ap is_some (get_contents xs x.key ∙ no_fields x.key xs (own_none x xs h)) in
    let rest = len_is xs (rest_once x xs h) in
    finite.len-insert nat_cmp_total (contents_of xs) x.key x.fields
    ∙ ap (λ q. cond q (finite.len (contents_of xs)) (finite.len (contents_of xs) + 1)) none
    ∙ omega (arith, rest)

-- at each position up to the last one
keyed_from : (ss : List SegmentPart) (last b : ℕ) → ((m : ℕ) → m < suc last → is_table (keys_at b m ss) ≡ true) → is_keyed ss last b ≡ true
unfolding is_keyed
keyed_from ss last b f = range_from (λ m. is_table (keys_at b m ss)) (suc last) 0 (λ m g h. f m (omega (arith, h)))

same_default : (xs : List ℕ) (i d e : ℕ) → i < length xs → get_or xs i d ≡ get_or xs i e
same_default [] i d e l = absurd (omega (arith, l))
same_default (x ∷ xs) zero d e l = refl
same_default (x ∷ xs) (suc i) d e l = same_default xs i d e (omega (arith, l))

-- ---- the whole

module _ (l : Layout) (laid : IsLaid l) (sound : IsSound (dataset_in l)) (counted : IsCounted (dataset_in l)) (within : AreWithin l) (are : AreInOrder l) (has : HasSegments l) (numbers : AllNumbersFit l) (r : ℕ) (hr : r < length l.schema) where
  abbrev ss : List Segment
  ss = segments_at l.segments r

  abbrev parts : List SegmentPart
  parts = segments_image l r

  parts_count : length parts ≡ length ss
  parts_count = length-map-range_with_len (segment_image l r) 0 (length (segments_at l.segments r))

  part_is : (s : ℕ) (d : SegmentPart) → s < length ss → get_or parts s d ≡ segment_image l r s
  part_is s d h = get_or-map-range_with_len (segment_image l r) 0 (length (segments_at l.segments r)) s s d h (omega arith)

  -- a branch has a row of the segment whose head it is
  headed : (b : ℕ) → b < length l.lanes → (i : ℕ) × (i < length (rows_in l r b)) × (is_head_of b (head_at (segments_at l.segments r) (row_at (rows_in l r b) i).segment) ≡ true)
  headed b hb = any_at (λ (row : Row). is_head_of b (head_at (segments_at l.segments r) row.segment)) (rows_in l r b) ((laid.lanes b hb).rows r hr).headed

  is_own : (b s : ℕ) → head_at ss s ≡ Some b → is_head_of b (head_at ss s) ≡ true
  is_own b s e = ap (is_head_of b) e ∙ eq-eqb b b refl

  own_row : (b s : ℕ) → b < length l.lanes → s < length ss → head_at ss s ≡ Some b → has_row (rows_image l r s) b ≡ true
  own_row b s hb hs e =
      any_flat (row_image l r s) b (length l.lanes) 0 (omega arith) (omega (arith, hb)) (at (place_cases (rows_in l r b) 0 s))
    where
      same : (row_at (rows_in l r b) (headed b hb).0).segment ≡ s
      same =
          let y = headed b hb in
          ((laid.lanes b hb).rows r hr).only (row_at (rows_in l r b) y.0).segment s (((laid.lanes b hb).rows r hr).are y.0 y.1).there hs y.2 (is_own b s e)

      at : (place_from 0 (rows_in l r b) s ≡ None) ⊎ ((k : ℕ) × (place_from 0 (rows_in l r b) s ≡ Some (0 + k)) × (k < length (rows_in l r b)) × ((row_at (rows_in l r b) k).segment ≡ s)) → has_row (row_image l r s b) b ≡ true
      at (inl none) = let y = headed b hb in absurd (place_none (rows_in l r b) 0 s none y.0 y.1 same)
      at (inr y) = ap (λ p. has_row (row_with b (from_at (rows_in l r b) p) (deltas_at (rows_in l r b) p)) b) y.1 ∙ ap (λ q. q || false) (eq-eqb b b refl)

  kept_at : (s : ℕ) → s < length ss → (o : Option ℕ) → head_at ss s ≡ o → (head_image o == 0 || has_row (rows_image l r s) (head_image o - 1)) ≡ true
  kept_at s hs None e = refl
  kept_at s hs (Some b) e = or_right (suc b == 0) (has_row (rows_image l r s) (suc b - 1)) (let n : suc b - 1 ≡ b = omega arith in ap (has_row (rows_image l r s)) n ∙ at (cases_lt b (length l.lanes)))
    where
      at : (b < length l.lanes) ⊎ (length l.lanes ≤ b) → has_row (rows_image l r s) b ≡ true
      at (inl hb) = own_row b s hb hs e
      at (inr g) = absurd (let z : true ≡ false = sym (is_own b s e) ∙ laid.heads r s b hr hs g in cc)

  all_kept : list_all is_kept parts ≡ true
  all_kept = all_from is_kept parts (λ k d h.
      let g : k < length ss = let n = parts_count in omega (arith, n, h) in
      ap is_kept (part_is k d g) ∙ kept_at k g (head_at ss k) refl)

  one_each : (b : ℕ) → b < length l.lanes → heads_of b parts ≡ 1
  one_each b hb =
      let y = headed b hb in
      let s : ℕ = (row_at (rows_in l r b) y.0).segment in
      let there : (row_at (rows_in l r b) y.0).segment < length ss = (((laid.lanes b hb).rows r hr).are y.0 y.1).there in
      let n = parts_count in
      heads_one b parts (row_at (rows_in l r b) y.0).segment (omega (arith, n, there))
      (ap (λ (x : SegmentPart). x.head) (part_is (row_at (rows_in l r b) y.0).segment no_part there) ∙ ap head_image (is_head_some (head_at ss (row_at (rows_in l r b) y.0).segment) b y.2))
      (λ t h e.
      let g : t < length ss = omega (arith, n, h) in
      let head : head_at ss t ≡ Some b = head_some (head_at ss t) b (sym (ap (λ (x : SegmentPart). x.head) (part_is t no_part g)) ∙ e) in
      ((laid.lanes b hb).rows r hr).only t (row_at (rows_in l r b) y.0).segment g there (is_own b t head) y.2)

  once : heads_once (length (lasts l)) parts ≡ true
  once =
      let len = length_counts (replicate (length (lasts l)) 0) parts in
      let z = length-replicate {A = ℕ} (length (lasts l)) 0 in
      let c = count l are sound in
      and_from (list_all is_kept parts) (list_all (λ k. k == 1) (counts_from (replicate (length (lasts l)) 0) parts)) all_kept
      (all_from (λ k. k == 1) (counts_from (replicate (length (lasts l)) 0) parts) (λ b d h.
      let hb : b < length l.lanes = omega (arith, len, z, c, h) in
      eq-eqb (get_or (counts_from (replicate (length (lasts l)) 0) parts) b d) 1
      (same_default (counts_from (replicate (length (lasts l)) 0) parts) b d 0 h
      ∙ counts_are b (replicate (length (lasts l)) 0) parts (omega (arith, z, c, hb))
      ∙ (λ i. steps (one_each b hb i) (zero_in (length (lasts l)) b i)))))

  -- ---- keys

  abbrev whole : List Segment
  whole = laid_segments l.schema r parts

  whole_is : whole ≡ ss
  whole_is = ap (map segment_laid) (sym (parts_are l r hr)) ∙ segments_back l r hr

  rows_are : (b : ℕ) → b < length l.lanes → rows_from b 0 (map (segment_part l.schema r) parts) ≡ rows_in l r b
  rows_are b hb = ap (rows_from b 0) (sym (parts_are l r hr)) ∙ rows_back l r b hb hr ((within.lanes b hb).rows r hr)

  read : (s : ℕ) → s < length ss → IsSegment (widths_at l.schema r) (lasts l) (segment_image l r s)
  read s hs =
      let own = relation_widths l.schema r counted.relations hr in
      let a = segment_adds (widths_at l.schema r) (lasts l) [] (segment_bytes (widths_at l.schema r) (segment_image l r s) ++ []) (segment_image l r s ∷ [], [])
      (segment_back (widths_at l.schema r) own (lasts l) [] (segment_image l r s) [] (segment_ruled l laid sound within are has numbers r hr s hs)) in
      subst (IsSegment (widths_at l.schema r) (lasts l)) (ap (λ (xs : List SegmentPart). get_or xs 0 no_part) (sym a.2)) a.1

  all_read : All (IsSegment (widths_at l.schema r) (lasts l)) parts
  all_read = λ k d h.
      let g : k < length ss = let n = parts_count in omega (arith, n, h) in
      subst (IsSegment (widths_at l.schema r) (lasts l)) (sym (part_is k d g)) (read k g)

  abbrev live : ℕ → ℕ → List Record
  live b m = live_in ss m (rows_in l r b)

  keys_live : (b m : ℕ) → b < length l.lanes → keys_at b m parts ≡ map key_of (live b m)
  keys_live b m hb =
      sym (keys_are l.schema r (widths_at l.schema r) (lasts l) b whole 0 m parts
      (record {
        at = λ j h. ap (λ k. get_or whole k no_segment) (omega arith) ∙ laid_at l.schema r parts j h;
        ends = let n = length_laid l.schema r parts in omega (arith, n);
      })
      all_read)
      ∙ (λ i. map key_of (live_in (whole_is i) m (rows_are b hb i)))

  few_keys : (b m : ℕ) → b < length l.lanes → m < length (lane_at l b).seconds → length (live b m) ≤ 262144
  few_keys b m hb hm =
      let at : VersionPlace = record { branch = b; position = m } in
      let made : IsMade (dataset_in l) (record { branch = b; position = m }) =
      (let n = length-map l.lanes (branch_of l.schema l.segments) in omega (arith, n, hb), let c = count_is l b hb in omega (arith, c, hm)) in
      let table = counted.tables (record { branch = b; position = m }) made in
      let wide = table.wide in
      let few = table.few r (omega (arith, wide, hr)) in
      let contents : relation_at (table_at (dataset_in l) (record { branch = b; position = m })) r ≡ contents_of (live b m) =
      ap (λ t. relation_at t r) (table_at_is l (record { branch = b; position = m }) hb hm)
      ∙ at_relation l.schema (λ q. contents_of (live_in (segments_at l.segments q) m (rows_at (lane_at l b) q))) r finite.empty hr in
      let size = ap (λ (c : Contents). finite.len c) contents in
      let len = len_is (live b m) (λ key. ((laid.lanes b hb).rows r hr).apart m key hm) in
      omega (arith, few, size, len)

  table_is : (b m : ℕ) → b < length l.lanes → m < length (lane_at l b).seconds → is_table (keys_at b m parts) ≡ true
  table_is b m hb hm =
      let n = length-map (live b m) key_of in
      let few = few_keys b m hb hm in
      ap is_table (keys_live b m hb)
      ∙ and_from (are_distinct (map key_of (live b m))) (nat_le (length (map key_of (live b m))) 262144) (distinct_from (live b m) (λ key. ((laid.lanes b hb).rows r hr).apart m key hm)) (le-leb (length (map key_of (live b m))) 262144 (omega (arith, n, few)))

  keyed : keys_once (lasts l) parts ≡ true
  keyed =
      let c = count l are sound in
      range_from (λ b. is_keyed parts (last_of (lasts l) b) b) (length (lasts l)) 0 (λ b g h.
      let hb : b < length l.lanes = omega (arith, c, h) in
      keyed_from parts (last_of (lasts l) b) b (λ m hm. table_is b m hb (let e = last_is l are sound b hb in omega (arith, e, hm))))

  pub whole_part : (heads_once (length (lasts l)) parts && keys_once (lasts l) parts) ≡ true
  whole_part = and_from (heads_once (length (lasts l)) parts) (keys_once (lasts l) parts) once keyed

pub whole_ruled : (l : Layout) → IsLaid l → IsSound (dataset_in l) → IsCounted (dataset_in l) → AreWithin l → AreInOrder l → HasSegments l → AllNumbersFit l → HasOrigins l → is_whole (image_of l) (lasts_of (image_of l)) ≡ true
unfolding is_whole
whole_ruled l laid sound counted within are has numbers made =
    ap (is_whole (image_of l)) (lasts_same l)
    ∙ and_from (are_made (lasts l) (branches_image l)) (list_all (λ (xs : List SegmentPart). heads_once (length (lasts l)) xs && keys_once (lasts l) xs) (image_of l).segments)
    (all_from (λ (b : BranchPart). is_there (lasts l) b.origin) (branches_image l) (λ k d h.
    let n = length-map-range_with_len (λ b. branch_image (lane_at l b)) 0 (length l.lanes) in
    let g : k < length l.lanes = omega (arith, n, h) in
    ap (λ (b : BranchPart). is_there (lasts l) b.origin) (get_or-map-range_with_len (λ b. branch_image (lane_at l b)) 0 (length l.lanes) k k d g (omega arith))
    ∙ le-leb (lane_at l k).origin.position (last_of (lasts l) (lane_at l k).origin.branch) (there l are sound (lane_at l k).origin (made k g))))
    (all_from (λ (xs : List SegmentPart). heads_once (length (lasts l)) xs && keys_once (lasts l) xs) (image_of l).segments (λ k d h.
    let n = length-map-range_with_len (segments_image l) 0 (length l.schema) in
    let g : k < length l.schema = omega (arith, n, h) in
    ap (λ (xs : List SegmentPart). heads_once (length (lasts l)) xs && keys_once (lasts l) xs) (get_or-map-range_with_len (segments_image l) 0 (length l.schema) k k d g (omega arith))
    ∙ whole_part l laid sound counted within are has numbers k g))
