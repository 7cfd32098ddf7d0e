-- The rows of a branch in a relation, as the layout of an image has them.
use Rattle.std.proofs.Common.{◌≡◌, ◌≢◌, ◌⊎◌, inl, inr, ℕ, zero, suc, ◌+◌, ◌-◌, ◌<◌, ◌≤◌, ◌==◌, Bool, true, false, cond, not, ◌&&◌, ◌||◌, List, [], ◌∷◌, ◌++◌, map, take, length, get_or, refl, sym, ap, subst, ◌∙◌, arith}
use Rattle.std.specs.Prelude.{nat_le}
use Rattle.std.specs.List.{All, list_any, list_all}
use Rattle.std.proofs.lemmas.Bool.{eqb-true, eq-eqb, ne_eqb, cases_eq, cases_lt, leb-true, le-leb}
use Rattle.std.proofs.lemmas.List.{length-map, map-append}
use Rattle.std.proofs.lemmas.List.Elements.{All-nil, All-cons, All-append}
use Rattle.db_value.specs.declared.record.Record.{Record}
use Rattle.db_value.specs.declared.schema.Relation.{Relation}
use Rattle.db_store.specs.Layout.{Segment, Row, no_segment, live_from, records_at, live_of, live_in, bit}
use Rattle.db_store.specs.LayoutGrowth.{is_head_of}
use Rattle.db_store.specs.LaidOut.{IsRow, rises, head_at, has_head, times}
use Rattle.hybrid_store.specs.Parts.{segment_laid, rows_from}
use Rattle.hybrid_store.specs.Parts as laid
use Rattle.image_text.specs.declared.image.Delta.{Delta}
use Rattle.image_text.specs.declared.image.RowPart.{RowPart}
use Rattle.image_text.specs.declared.image.SegmentPart.{SegmentPart}
use Rattle.image_text.specs.Reading.{no_row, last_of}
use Rattle.image_text.proofs.Counted.{both_true}
use Rattle.image_parts.specs.Walk.{no_segment as no_part}
use Rattle.image_parts.specs.Whole.{combined, has_row, row_of, is_kept, keys_from, keys_in, keys_at, are_distinct}
use Rattle.image_parts.specs.Whole as image
use Rattle.hybrid_view.specs.Deltas.{slots_of}
use Rattle.db_image.specs.Parts.{bits_of, segment_part}
use Rattle.db_image.proofs.Steps.{HasFields}
use Rattle.db_image.proofs.SegmentsRead.{IsSegment}
use Rattle.db_image.proofs.Heads.{heads_of, is_head}
use Rattle.db_image.proofs.Bits.{row_laid, same_bit, no_bit, IsNone, IsOne, own_row}

-- ---- lists of keys

abbrev pub key_of : Record → ℕ
key_of x = x.key

not_any : (k : ℕ) (xs : List Record) → list_any (λ x. x == k) (map key_of xs) ≡ false → times k xs ≡ 0
not_any k [] e = refl
not_any k (x ∷ xs) e = at (x.key == k) refl e (not_any k xs)
  where
    at : (q : Bool) → (x.key == k) ≡ q → (q || list_any (λ y. y == k) (map key_of xs)) ≡ false → (list_any (λ y. y == k) (map key_of xs) ≡ false → times k xs ≡ 0) → times k (x ∷ xs) ≡ 0
    at true h f later = absurd cc
    at false h f later = let r = later f in ap (λ q. cond q 1 0 + times k xs) h ∙ omega (arith, r)

not_true : (q : Bool) → not q ≡ true → q ≡ false
not_true true e = absurd cc
not_true false e = refl

-- a key of distinct ones stands once at most
pub times_one : (k : ℕ) (xs : List Record) → are_distinct (map key_of xs) ≡ true → times k xs ≤ 1
times_one k [] e = omega arith
times_one k (x ∷ xs) e = at (x.key == k) refl (times_one k xs)
  where
    two : (not (list_any (λ y. y == x.key) (map key_of xs)) ≡ true) × (are_distinct (map key_of xs) ≡ true)
    two = both_true (not (list_any (λ y. y == x.key) (map key_of xs))) (are_distinct (map key_of xs)) e

    at : (q : Bool) → (x.key == k) ≡ q → (are_distinct (map key_of xs) ≡ true → times k xs ≤ 1) → times k (x ∷ xs) ≤ 1
    at true h later =
        let none : times k xs ≡ 0 = subst (λ i. times i xs ≡ 0) (eqb-true x.key k h) (not_any x.key xs (not_true (list_any (λ y. y == x.key) (map key_of xs)) two.0)) in
        subst (λ q. cond q 1 0 + times k xs ≤ 1) (sym h) (omega (arith, none))
    at false h later = let r = later two.1 in subst (λ q. cond q 1 0 + times k xs ≤ 1) (sym h) (omega (arith, r))

live_keys : (slot : ℕ) (xs : List Record) (p q : ℕ → Bool) → ((t : ℕ) → t < slot + length xs → p t ≡ q t) → map key_of (live_from slot xs p) ≡ keys_from slot xs q
live_keys slot [] p q h = refl
live_keys slot (x ∷ xs) p q h =
    let later = live_keys (suc slot) xs p q (λ t l. h t (omega (arith, l))) in
    ap (λ r. map key_of (cond r (x ∷ live_from (suc slot) xs p) (live_from (suc slot) xs p))) (h slot (omega arith)) ∙ at (q slot) later
  where
    at : (r : Bool) → map key_of (live_from (suc slot) xs p) ≡ keys_from (suc slot) xs q → map key_of (cond r (x ∷ live_from (suc slot) xs p) (live_from (suc slot) xs p)) ≡ cond r (x.key ∷ keys_from (suc slot) xs q) (keys_from (suc slot) xs q)
    at true e = ap (λ l. x.key ∷ l) e
    at false e = e

no_keys : (slot : ℕ) (xs : List Record) (p : ℕ → Bool) → ((t : ℕ) → p t ≡ false) → keys_from slot xs p ≡ []
no_keys slot [] p h = refl
no_keys slot (x ∷ xs) p h = ap (λ r. cond r (x.key ∷ keys_from (suc slot) xs p) (keys_from (suc slot) xs p)) (h slot) ∙ no_keys (suc slot) xs p h

abbrev no_deltas : List Delta
no_deltas = []

none_combined : (m slot : ℕ) → combined (take m no_deltas) slot ≡ false
none_combined zero slot = refl
none_combined (suc m) slot = refl

live_fields : (ws : List ℕ) (slot : ℕ) (xs : List Record) (p : ℕ → Bool) → All (HasFields ws) xs → All (HasFields ws) (live_from slot xs p)
live_fields ws slot [] p all = All-nil (HasFields ws)
live_fields ws slot (x ∷ xs) p all = at (p slot) (live_fields ws (suc slot) xs p (λ k d l. all (suc k) d (omega (arith, l))))
  where
    at : (r : Bool) → All (HasFields ws) (live_from (suc slot) xs p) → All (HasFields ws) (cond r (x ∷ live_from (suc slot) xs p) (live_from (suc slot) xs p))
    at true h = All-cons (HasFields ws) x (live_from (suc slot) xs p) (all 0 x (omega arith)) h
    at false h = h

rises_lower : (k : ℕ) (rows : List Row) → rises (suc k) rows ≡ true → rises k rows ≡ true
rises_lower k [] e = refl
rises_lower k (x ∷ rows) e =
    let two = both_true (nat_le (suc k) x.segment) (rises (suc x.segment) rows) e in
    let more = leb-true (suc k) x.segment two.0 in
    (λ i. le-leb k x.segment (omega (arith, more)) i && two.1 i)

-- ---- the segments of a relation

abbrev pub laid_segments : List Relation → ℕ → List SegmentPart → List Segment
laid_segments relations r ss = map segment_laid (map (segment_part relations r) ss)

pub laid_at : (relations : List Relation) (r : ℕ) (ss : List SegmentPart) (j : ℕ) → j < length ss → get_or (laid_segments relations r ss) j no_segment ≡ segment_laid (segment_part relations r (get_or ss j no_part))
laid_at relations r [] j l = absurd (omega (arith, l))
laid_at relations r (s ∷ ss) zero l = refl
laid_at relations r (s ∷ ss) (suc j) l = laid_at relations r ss j (omega (arith, l))

pub length_laid : (relations : List Relation) (r : ℕ) (ss : List SegmentPart) → length (laid_segments relations r ss) ≡ length ss
length_laid relations r ss = length-map (map (segment_part relations r) ss) segment_laid ∙ length-map ss (segment_part relations r)

module _ (relations : List Relation) (r : ℕ) (ws : List ℕ) (lasts : List ℕ) (b : ℕ) (whole : List Segment) where
  -- segments stand in the whole list from a number on
  pub record Sits (k : ℕ) (ss : List SegmentPart) : Type 0 where
    pub at : (j : ℕ) → j < length ss → get_or whole (k + j) no_segment ≡ segment_laid (segment_part relations r (get_or ss j no_part))
    pub ends : k + length ss ≡ length whole

  sits_later : (k : ℕ) (s : SegmentPart) (ss : List SegmentPart) → Sits k (s ∷ ss) → Sits (suc k) ss
  sits_later k s ss h = record {
    at = λ j l. ap (λ m. get_or whole m no_segment) (omega arith) ∙ h.at (suc j) (omega (arith, l));
    ends = let e = h.ends in omega (arith, e);
  }

  sits_first : (k : ℕ) (s : SegmentPart) (ss : List SegmentPart) → Sits k (s ∷ ss) → get_or whole k no_segment ≡ segment_laid (segment_part relations r s)
  sits_first k s ss h = ap (λ m. get_or whole m no_segment) (omega arith) ∙ h.at 0 (omega arith)

  abbrev rows : ℕ → List SegmentPart → List Row
  rows k ss = rows_from b k (map (segment_part relations r) ss)

  abbrev one_laid : ℕ → SegmentPart → Row
  one_laid k s = row_laid k (length s.records) (row_of b s.rows)

  rows_none : (k : ℕ) (s : SegmentPart) (ss : List SegmentPart) → IsNone b (length s.records) s.rows → rows k (s ∷ ss) ≡ rows (suc k) ss
  rows_none k s ss none = ap (λ l. map (laid.row_laid k) l ++ rows (suc k) ss) none.own

  rows_one : (k : ℕ) (s : SegmentPart) (ss : List SegmentPart) → IsOne lasts b (length s.records) s.rows → rows k (s ∷ ss) ≡ one_laid k s ∷ rows (suc k) ss
  rows_one k s ss one = ap (λ l. map (laid.row_laid k) l ++ rows (suc k) ss) one.own

  own : (s : SegmentPart) → IsSegment ws lasts s → IsNone b (length s.records) s.rows ⊎ IsOne lasts b (length s.records) s.rows
  own s is = own_row lasts b (length s.records) s.rows is.rows.ascend is.rows.each

  later : (s : SegmentPart) (ss : List SegmentPart) → All (IsSegment ws lasts) (s ∷ ss) → All (IsSegment ws lasts) ss
  later s ss all = λ k d l. all (suc k) d (omega (arith, l))

  first : (s : SegmentPart) (ss : List SegmentPart) → All (IsSegment ws lasts) (s ∷ ss) → IsSegment ws lasts s
  first s ss all = all 0 s (omega arith)

  -- its rows are rows
  row_is : (k : ℕ) (s : SegmentPart) (ss : List SegmentPart) → Sits k (s ∷ ss) → IsOne lasts b (length s.records) s.rows → IsRow whole (suc (last_of lasts b)) (one_laid k s)
  row_is k s ss sits one = record {
    there = let e = sits.ends in omega (arith, e);
    begun = let w = subst (λ c. (row_of b s.rows).from ≤ last_of lasts c) one.branch one.read.within in omega (arith, w);
    full =
        let f = subst (λ c. (row_of b s.rows).from + length (row_of b s.rows).deltas ≡ suc (last_of lasts c)) one.branch one.read.full in
        let n = length-map (map (bits_of (length s.records)) (row_of b s.rows).deltas) slots_of in
        let m = length-map (row_of b s.rows).deltas (bits_of (length s.records)) in
        omega (arith, f, n, m);
    within = λ n slot e. inside n slot e (cases_lt slot (length s.records));
  }
    where
      inside : (n slot : ℕ) → bit (one_laid k s) n slot ≡ true → (slot < length s.records) ⊎ (length s.records ≤ slot) → slot < length (records_at whole k)
      inside n slot e (inl l) = subst (λ (x : Segment). slot < length x.records) (sym (sits_first k s ss sits)) l
      inside n slot e (inr l) = absurd (let z : true ≡ false = sym e ∙ no_bit k (length s.records) (row_of b s.rows) n slot l in cc)

  pub are_rows : (k : ℕ) (ss : List SegmentPart) → Sits k ss → All (IsSegment ws lasts) ss → All (IsRow whole (suc (last_of lasts b))) (rows k ss)
  are_rows k [] sits all = All-nil (IsRow whole (suc (last_of lasts b)))
  are_rows k (s ∷ ss) sits all = at (own s (first s ss all)) (are_rows (suc k) ss (sits_later k s ss sits) (later s ss all))
    where
      at : IsNone b (length s.records) s.rows ⊎ IsOne lasts b (length s.records) s.rows → All (IsRow whole (suc (last_of lasts b))) (rows (suc k) ss) → All (IsRow whole (suc (last_of lasts b))) (rows k (s ∷ ss))
      at (inl none) rest = subst (All (IsRow whole (suc (last_of lasts b)))) (sym (rows_none k s ss none)) rest
      at (inr one) rest = subst (All (IsRow whole (suc (last_of lasts b)))) (sym (rows_one k s ss one)) (All-cons (IsRow whole (suc (last_of lasts b))) (one_laid k s) (rows (suc k) ss) (row_is k s ss sits one) rest)

  pub rows_rise : (k : ℕ) (ss : List SegmentPart) → All (IsSegment ws lasts) ss → rises k (rows k ss) ≡ true
  rows_rise k [] all = refl
  rows_rise k (s ∷ ss) all = at (own s (first s ss all)) (rows_rise (suc k) ss (later s ss all))
    where
      at : IsNone b (length s.records) s.rows ⊎ IsOne lasts b (length s.records) s.rows → rises (suc k) (rows (suc k) ss) ≡ true → rises k (rows k (s ∷ ss)) ≡ true
      at (inl none) rest = ap (rises k) (rows_none k s ss none) ∙ rises_lower k (rows (suc k) ss) rest
      at (inr one) rest = ap (rises k) (rows_one k s ss one) ∙ (λ i. le-leb k k (omega arith) i && rest i)

  -- ---- its head

  pub head_row : (k : ℕ) (ss : List SegmentPart) → Sits k ss → All (IsSegment ws lasts) ss → list_all is_kept ss ≡ true → 0 < heads_of b ss → has_head b whole (rows k ss) ≡ true
  head_row k [] sits all kept some = absurd (omega (arith, some))
  head_row k (s ∷ ss) sits all kept some = at (cases_eq s.head (suc b)) (own s (first s ss all)) (head_row (suc k) ss (sits_later k s ss sits) (later s ss all))
    where
      two : (is_kept s ≡ true) × (list_all is_kept ss ≡ true)
      two = both_true (is_kept s) (list_all is_kept ss) kept

      rest : s.head ≢ suc b → (list_all is_kept ss ≡ true → 0 < heads_of b ss → has_head b whole (rows (suc k) ss) ≡ true) → has_head b whole (rows (suc k) ss) ≡ true
      rest n later_head = later_head two.1 (subst (λ q. 0 < cond q (suc (heads_of b ss)) (heads_of b ss)) (ne_eqb s.head (suc b) n) some)

      there : s.head ≡ suc b → has_row s.rows b ≡ true
      there e =
          let less : suc b - 1 ≡ b = omega arith in
          ap (has_row s.rows) (sym less)
          ∙ ap (λ q. q || has_row s.rows (suc b - 1)) (sym (ne_eqb (suc b) 0 (λ z. omega (arith, z))))
          ∙ subst (λ h. (h == 0 || has_row s.rows (h - 1)) ≡ true) e two.0

      headed : s.head ≡ suc b → is_head_of b (head_at whole k) ≡ true
      headed e = ap (λ (x : Segment). is_head_of b x.head) (sits_first k s ss sits) ∙ is_head b s.head ∙ eq-eqb s.head (suc b) e

      or_true : (q : Bool) → (q || true) ≡ true
      or_true true = refl
      or_true false = refl

      at : (s.head ≡ suc b) ⊎ (s.head ≢ suc b) → IsNone b (length s.records) s.rows ⊎ IsOne lasts b (length s.records) s.rows → (list_all is_kept ss ≡ true → 0 < heads_of b ss → has_head b whole (rows (suc k) ss) ≡ true) → has_head b whole (rows k (s ∷ ss)) ≡ true
      at (inl e) (inl none) h = absurd (let z : true ≡ false = sym (there e) ∙ none.there in cc)
      at (inl e) (inr one) h = ap (has_head b whole) (rows_one k s ss one) ∙ ap (λ q. q || has_head b whole (rows (suc k) ss)) (headed e)
      at (inr n) (inl none) h = ap (has_head b whole) (rows_none k s ss none) ∙ rest n h
      at (inr n) (inr one) h = ap (has_head b whole) (rows_one k s ss one) ∙ ap (λ q. is_head_of b (head_at whole k) || q) (rest n h) ∙ or_true (is_head_of b (head_at whole k))

  -- ---- its records

  abbrev none : List ℕ
  none = []

  pub keys_are : (k n : ℕ) (ss : List SegmentPart) → Sits k ss → All (IsSegment ws lasts) ss → map key_of (live_in whole n (rows k ss)) ≡ keys_at b n ss
  keys_are k n [] sits all = refl
  keys_are k n (s ∷ ss) sits all = at (own s (first s ss all)) (keys_are (suc k) n ss (sits_later k s ss sits) (later s ss all))
    where
      none_here : IsNone b (length s.records) s.rows → keys_in b n s ≡ none
      none_here h = ap (λ (x : RowPart). keys_from 0 s.records (image.bit x n)) h.row ∙ no_keys 0 s.records (image.bit no_row n) (λ t. none_combined (suc n - 0) t)

      own_keys : map key_of (live_of whole n (one_laid k s)) ≡ keys_in b n s
      own_keys =
          ap (λ (x : Segment). map key_of (live_from 0 x.records (bit (one_laid k s) n))) (sits_first k s ss sits)
          ∙ live_keys 0 s.records (bit (one_laid k s) n) (image.bit (row_of b s.rows) n) (λ t l. same_bit k (length s.records) (row_of b s.rows) n t (omega (arith, l)))

      at : IsNone b (length s.records) s.rows ⊎ IsOne lasts b (length s.records) s.rows → map key_of (live_in whole n (rows (suc k) ss)) ≡ keys_at b n ss → map key_of (live_in whole n (rows k (s ∷ ss))) ≡ keys_at b n (s ∷ ss)
      at (inl h) rest = ap (λ l. map key_of (live_in whole n l)) (rows_none k s ss h) ∙ rest ∙ ap (λ l. l ++ keys_at b n ss) (sym (none_here h))
      at (inr h) rest =
          ap (λ l. map key_of (live_in whole n l)) (rows_one k s ss h)
          ∙ map-append key_of (live_of whole n (one_laid k s)) (live_in whole n (rows (suc k) ss))
          ∙ (λ i. own_keys i ++ rest i)

  pub live_have : (k n : ℕ) (ss : List SegmentPart) → Sits k ss → All (IsSegment ws lasts) ss → All (HasFields ws) (live_in whole n (rows k ss))
  live_have k n [] sits all = All-nil (HasFields ws)
  live_have k n (s ∷ ss) sits all = at (own s (first s ss all)) (live_have (suc k) n ss (sits_later k s ss sits) (later s ss all))
    where
      here : All (HasFields ws) (live_of whole n (one_laid k s))
      here = subst (λ (x : Segment). All (HasFields ws) (live_from 0 x.records (bit (one_laid k s) n))) (sym (sits_first k s ss sits)) (live_fields ws 0 s.records (bit (one_laid k s) n) (first s ss all).records)

      at : IsNone b (length s.records) s.rows ⊎ IsOne lasts b (length s.records) s.rows → All (HasFields ws) (live_in whole n (rows (suc k) ss)) → All (HasFields ws) (live_in whole n (rows k (s ∷ ss)))
      at (inl h) rest = subst (λ l. All (HasFields ws) (live_in whole n l)) (sym (rows_none k s ss h)) rest
      at (inr h) rest = subst (λ l. All (HasFields ws) (live_in whole n l)) (sym (rows_one k s ss h)) (All-append (HasFields ws) (live_of whole n (one_laid k s)) (live_in whole n (rows (suc k) ss)) here rest)

-- ---- a branch has one head

no_head : (b : ℕ) (ss : List SegmentPart) → heads_of b ss ≡ 0 → (t : ℕ) → t < length ss → (get_or ss t no_part).head ≡ suc b → ⊥
no_head b [] e t l h = absurd (omega (arith, l))
no_head b (s ∷ ss) e t l h = at (cases_eq s.head (suc b)) t l h (no_head b ss)
  where
    at : (s.head ≡ suc b) ⊎ (s.head ≢ suc b) → (t : ℕ) → t < length (s ∷ ss) → (get_or (s ∷ ss) t no_part).head ≡ suc b → (heads_of b ss ≡ 0 → (t : ℕ) → t < length ss → (get_or ss t no_part).head ≡ suc b → ⊥) → ⊥
    at (inl q) t l h later = let z : suc (heads_of b ss) ≡ 0 = subst (λ c. cond c (suc (heads_of b ss)) (heads_of b ss) ≡ 0) (eq-eqb s.head (suc b) q) e in omega (arith, z)
    at (inr n) zero l h later = n h
    at (inr n) (suc t) l h later = later (subst (λ c. cond c (suc (heads_of b ss)) (heads_of b ss) ≡ 0) (ne_eqb s.head (suc b) n) e) t (omega (arith, l)) h

pub only_head : (b : ℕ) (ss : List SegmentPart) → heads_of b ss ≡ 1 → (s t : ℕ) → s < length ss → t < length ss → (get_or ss s no_part).head ≡ suc b → (get_or ss t no_part).head ≡ suc b → s ≡ t
only_head b [] e s t l m h g = absurd (omega (arith, l))
only_head b (x ∷ ss) e s t l m h g = at (cases_eq x.head (suc b)) s t l m h g (only_head b ss)
  where
    rest : x.head ≡ suc b → heads_of b ss ≡ 0
    rest q = let z : suc (heads_of b ss) ≡ 1 = subst (λ c. cond c (suc (heads_of b ss)) (heads_of b ss) ≡ 1) (eq-eqb x.head (suc b) q) e in omega (arith, z)

    at : (x.head ≡ suc b) ⊎ (x.head ≢ suc b) → (s t : ℕ) → s < length (x ∷ ss) → t < length (x ∷ ss) → (get_or (x ∷ ss) s no_part).head ≡ suc b → (get_or (x ∷ ss) t no_part).head ≡ suc b → (heads_of b ss ≡ 1 → (s t : ℕ) → s < length ss → t < length ss → (get_or ss s no_part).head ≡ suc b → (get_or ss t no_part).head ≡ suc b → s ≡ t) → s ≡ t
    at q zero zero l m h g later = refl
    at q zero (suc t) l m h g later = absurd (no_head b ss (rest h) t (omega (arith, m)) g)
    at q (suc s) zero l m h g later = absurd (no_head b ss (rest g) s (omega (arith, l)) h)
    at (inl q) (suc s) (suc t) l m h g later = absurd (no_head b ss (rest q) s (omega (arith, l)) h)
    at (inr n) (suc s) (suc t) l m h g later = ap suc (later (subst (λ c. cond c (suc (heads_of b ss)) (heads_of b ss) ≡ 1) (ne_eqb x.head (suc b) n) e) s t (omega (arith, l)) (omega (arith, m)) h g)
