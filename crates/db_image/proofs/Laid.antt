-- What an image that is read stands for are sound parts of a layout.
use Rattle.std.proofs.Common.{◌≡◌, ◌≢◌, ℕ, zero, suc, ◌+◌, ◌<◌, ◌≤◌, ◌==◌, Bool, true, false, cond, ◌&&◌, List, [], ◌∷◌, ◌++◌, map, length, replicate, get_or, Some, Ok, refl, sym, ap, subst, ◌∙◌, arith, nat_cmp}
use Rattle.std.specs.Prelude.{nat_le}
use Rattle.std.specs.List.{All, list_all, range_with_len}
use Rattle.std.specs.FinMap as finite
use Rattle.std.proofs.lemmas.Cmp.{nat_cmp_total}
use Rattle.std.proofs.lemmas.Bool.{eqb-true, eq-eqb, ne_eqb, leb-true}
use Rattle.std.proofs.lemmas.List.{length-map, append-nil}
use Rattle.std.proofs.lemmas.List.Elements.{filter-append, All-nil, All-cons, All-append}
use Rattle.std.proofs.lemmas.List.FromFn.{get_or-range_with_len, length-range_with_len}
use Rattle.db_value.specs.Value.{Value}
use Rattle.db_value.specs.Widths.{meets}
use Rattle.db_value.specs.Relations.{widths_at}
use Rattle.db_value.specs.declared.record.Record.{Record}
use Rattle.db_value.specs.declared.schema.Relation.{Relation}
use Rattle.db_value.specs.declared.version.VersionPlace.{VersionPlace}
use Rattle.db_store.specs.Table.{Contents, relation_at}
use Rattle.db_store.specs.Counted.{IsTable, IsCounted}
use Rattle.db_store.specs.LaidOut.{no_row, AreRowsOf, IsLane, IsLaid, head_at}
use Rattle.db_store.specs.Layout.{Layout, Lane, Segment, no_segment, lane_at, segments_at, rows_at, live_in, contents_of, table_in, dataset_in}
use Rattle.db_store.specs.LayoutGrowth.{is_head_of}
use Rattle.db_store.specs.SameRows.{fields_in}
use Rattle.db_store.proofs.SegmentLemmas.{at_relation, length_by}
use Rattle.db_store.proofs.LayoutLaw.{table_at_is}
use Rattle.db_store.proofs.BitLemmas.{get_contents}
use Rattle.hybrid_store.specs.declared.parts.SegmentPart.{SegmentPart as SegmentLaid}
use Rattle.hybrid_store.specs.declared.parts.LayoutParts.{LayoutParts}
use Rattle.hybrid_store.specs.Parts.{segment_laid, rows_from, layout_of_parts, no_segment_part, AreSound}
use Rattle.hybrid_store.specs.Parts as laid
use Rattle.image_text.specs.declared.image.SegmentPart.{SegmentPart}
use Rattle.image_text.specs.declared.image.Format.{Format}
use Rattle.image_text.specs.declared.image.Image.{Image}
use Rattle.image_text.specs.Reading.{last_of}
use Rattle.image_text.proofs.Counted.{both_true}
use Rattle.image_parts.specs.Walk.{no_segment as no_part}
use Rattle.image_parts.specs.Whole.{is_kept, counts_from, heads_once, keys_at, are_distinct, is_table, is_keyed, keys_once, image_at}
use Rattle.db_image.specs.Parts.{segment_part, segments_from, parts_of}
use Rattle.db_image.proofs.Steps.{HasFields}
use Rattle.db_image.proofs.SegmentsRead.{AreSegments}
use Rattle.db_image.proofs.Read.{IsImage, image_read}
use Rattle.db_image.proofs.Sound.{same_branches, lanes_are, lasts_are, lane_is, counted, of_made, sound, ordered}
use Rattle.db_image.proofs.Heads.{all_at, heads_of, one_head, is_head}
use Rattle.db_image.proofs.RowsLaid.{key_of, times_one, laid_segments, laid_at, length_laid, Sits, are_rows, rows_rise, head_row, keys_are, live_have, only_head}

-- ---- the segments of a relation

abbrev none_laid : List SegmentLaid
none_laid = []

abbrev none_read : List SegmentPart
none_read = []

own_part : (relations : List Relation) (r : ℕ) (ss : List SegmentPart) → laid.parts_of r (map (segment_part relations r) ss) ≡ map (segment_part relations r) ss
own_part relations r [] = refl
own_part relations r (s ∷ ss) = (λ i. cond (eq-eqb r r refl i) (segment_part relations r s ∷ own_part relations r ss i) (own_part relations r ss i))

other_part : (relations : List Relation) (r q : ℕ) (ss : List SegmentPart) → q ≢ r → laid.parts_of r (map (segment_part relations q) ss) ≡ none_laid
other_part relations r q [] n = refl
other_part relations r q (s ∷ ss) n = ap (λ x. cond x (segment_part relations q s ∷ laid.parts_of r (map (segment_part relations q) ss)) (laid.parts_of r (map (segment_part relations q) ss))) (ne_eqb q r n) ∙ other_part relations r q ss n

split_part : (relations : List Relation) (r k : ℕ) (ss : List SegmentPart) (sss : List (List SegmentPart)) → laid.parts_of r (segments_from relations k (ss ∷ sss)) ≡ laid.parts_of r (map (segment_part relations k) ss) ++ laid.parts_of r (segments_from relations (suc k) sss)
split_part relations r k ss sss = filter-append (λ (s : SegmentLaid). s.relation == r) (map (segment_part relations k) ss) (segments_from relations (suc k) sss)

past_part : (relations : List Relation) (r k : ℕ) (sss : List (List SegmentPart)) → r < k → laid.parts_of r (segments_from relations k sss) ≡ none_laid
past_part relations r k [] l = refl
past_part relations r k (ss ∷ sss) l = split_part relations r k ss sss ∙ (λ i. other_part relations r k ss (λ e. omega (arith, e, l)) i ++ past_part relations r (suc k) sss (omega (arith, l)) i)

pub part_at : (relations : List Relation) (r k j : ℕ) (sss : List (List SegmentPart)) → k + j ≡ r → laid.parts_of r (segments_from relations k sss) ≡ map (segment_part relations r) (get_or sss j none_read)
part_at relations r k j [] e = refl
part_at relations r k zero (ss ∷ sss) e =
    let q : k ≡ r = omega (arith, e) in
    split_part relations r k ss sss
    ∙ (λ i. ap (λ m. laid.parts_of r (map (segment_part relations m) ss)) q i ++ past_part relations r (suc k) sss (omega (arith, e)) i)
    ∙ append-nil (laid.parts_of r (map (segment_part relations r) ss))
    ∙ own_part relations r ss
part_at relations r k (suc j) (ss ∷ sss) e =
    split_part relations r k ss sss
    ∙ (λ i. other_part relations r k ss (λ q. omega (arith, e, q)) i ++ part_at relations r (suc k) j sss (omega (arith, e)) i)

-- each segment is of a relation
abbrev IsOf : List Relation → SegmentLaid → Type 0
IsOf relations s = (s.relation < length relations) × (s.records.widths ≡ widths_at relations s.relation)

own_is : (relations : List Relation) (r : ℕ) (ss : List SegmentPart) → r < length relations → All (IsOf relations) (map (segment_part relations r) ss)
own_is relations r [] l = All-nil (IsOf relations)
own_is relations r (s ∷ ss) l = All-cons (IsOf relations) (segment_part relations r s) (map (segment_part relations r) ss) (l, refl) (own_is relations r ss l)

all_are : (relations : List Relation) (k : ℕ) (sss : List (List SegmentPart)) → k + length sss ≤ length relations → All (IsOf relations) (segments_from relations k sss)
all_are relations k [] l = All-nil (IsOf relations)
all_are relations k (ss ∷ sss) l = All-append (IsOf relations) (map (segment_part relations k) ss) (segments_from relations (suc k) sss) (own_is relations k ss (omega (arith, l))) (all_are relations (suc k) sss (omega (arith, l)))

-- ---- lists

range_at : (p : ℕ → Bool) (n i : ℕ) → list_all p (range_with_len 0 n) ≡ true → i < n → p i ≡ true
range_at p n i e l =
    subst (λ k. p k ≡ true) (get_or-range_with_len 0 n i 0 l ∙ omega arith)
    (all_at p (range_with_len 0 n) i 0 e (let k = length-range_with_len 0 n in omega (arith, k, l)))

keyed_at : (ss : List SegmentPart) (last b m : ℕ) → is_keyed ss last b ≡ true → m < suc last → is_table (keys_at b m ss) ≡ true
unfolding is_keyed
keyed_at ss last b m e l = range_at (λ k. is_table (keys_at b k ss)) (suc last) m e l

len_contents : (xs : List Record) → finite.len (contents_of xs) ≤ length xs
len_contents [] = let e = finite.len-empty nat_cmp (List Value) in omega (arith, e)
len_contents (x ∷ xs) =
    let r = len_contents xs in
    subst (λ k. k ≤ suc (length xs)) (sym (finite.len-insert nat_cmp_total (contents_of xs) x.key x.fields)) (at (finite.contains_key (contents_of xs) x.key) r)
  where
    at : (q : Bool) → finite.len (contents_of xs) ≤ length xs → cond q (finite.len (contents_of xs)) (finite.len (contents_of xs) + 1) ≤ suc (length xs)
    at true r = omega (arith, r)
    at false r = omega (arith, r)

fields_have : (ws : List ℕ) (key : ℕ) (xs : List Record) (fields : List Value) → All (HasFields ws) xs → fields_in key xs ≡ Some fields → meets ws fields ≡ true
fields_have ws key [] fields all e = absurd cc
fields_have ws key (x ∷ xs) fields all e = at (x.key == key) e (fields_have ws key xs fields (λ k d l. all (suc k) d (omega (arith, l))))
  where
    some_is : Some x.fields ≡ Some fields → x.fields ≡ fields
    some_is h = cc

    at : (q : Bool) → cond q (Some x.fields) (fields_in key xs) ≡ Some fields → (fields_in key xs ≡ Some fields → meets ws fields ≡ true) → meets ws fields ≡ true
    at true h later = ap (meets ws) (sym (some_is h)) ∙ all 0 x (omega arith)
    at false h later = later h

-- ---- the layout

module _ (i : Image) (bases : List VersionPlace) (lasts : List ℕ) (is : IsImage i bases lasts) where
  abbrev p : LayoutParts
  p = parts_of i

  abbrev l : Layout
  l = layout_of_parts p

  abbrev n : ℕ
  n = length i.branches

  abbrev rs : List Relation
  rs = i.relations

  -- the segments of a relation, as read
  abbrev read : ℕ → List SegmentPart
  read r = get_or i.segments r none_read

  parts_are : (r : ℕ) → laid.parts_of r p.segments ≡ map (segment_part rs r) (read r)
  parts_are r = part_at rs r 0 r i.segments (omega arith)

  pub segments_are : (r : ℕ) → r < length rs → segments_at l.segments r ≡ laid_segments rs r (read r)
  segments_are r h = at_relation rs (λ q. map segment_laid (laid.parts_of q p.segments)) r [] h ∙ ap (λ x. map segment_laid x) (parts_are r)

  pub rows_are : (b r : ℕ) → b < n → r < length rs → rows_at (lane_at l b) r ≡ rows_from b 0 (map (segment_part rs r) (read r))
  rows_are b r lb h =
      ap (λ (x : Lane). rows_at x r) (lane_is i bases lasts is b lb)
      ∙ at_relation rs (λ q. rows_from b 0 (laid.parts_of q p.segments)) r [] h
      ∙ ap (λ x. rows_from b 0 x) (parts_are r)

  pub there : (r : ℕ) → r < length rs → r < length i.segments
  there r h = let e = is.parts.count in omega (arith, e, h)

  read_are : (r : ℕ) → r < length rs → AreSegments (widths_at rs r) lasts (read r)
  read_are r h = is.parts.segments r (there r h)

  whole : (r : ℕ) → r < length rs → (heads_once (length lasts) (read r) ≡ true) × (keys_once lasts (read r) ≡ true)
  whole r h = both_true (heads_once (length lasts) (read r)) (keys_once lasts (read r)) (all_at (λ (ss : List SegmentPart). heads_once (length lasts) ss && keys_once lasts ss) i.segments r none_read is.heads (there r h))

  sits : (b r : ℕ) → Sits rs r (widths_at rs r) lasts b (laid_segments rs r (read r)) 0 (read r)
  sits b r = record {
    at = λ j h. ap (λ m. get_or (laid_segments rs r (read r)) m no_segment) (omega arith) ∙ laid_at rs r (read r) j h;
    ends = let e = length_laid rs r (read r) in omega (arith, e);
  }

  table_keys : (b r m : ℕ) → b < n → r < length rs → m < suc (last_of lasts b) → is_table (keys_at b m (read r)) ≡ true
  table_keys b r m lb h lm =
      keyed_at (read r) (last_of lasts b) b m
      (range_at (λ c. is_keyed (read r) (last_of lasts c) c) (length lasts) b (whole r h).1 (let e = lasts_are i bases lasts is in omega (arith, e, lb))) lm

  abbrev live : ℕ → ℕ → ℕ → List Record
  live b r m = live_in (laid_segments rs r (read r)) m (rows_from b 0 (map (segment_part rs r) (read r)))

  live_keys : (b r m : ℕ) → r < length rs → map key_of (live b r m) ≡ keys_at b m (read r)
  live_keys b r m h = keys_are rs r (widths_at rs r) lasts b (laid_segments rs r (read r)) 0 m (read r) (sits b r) (read_are r h).each

  live_table : (b r m : ℕ) → b < n → r < length rs → m < suc (last_of lasts b) → (are_distinct (map key_of (live b r m)) ≡ true) × (nat_le (length (map key_of (live b r m))) 262144 ≡ true)
  live_table b r m lb h lm = both_true (are_distinct (map key_of (live b r m))) (nat_le (length (map key_of (live b r m))) 262144) (ap is_table (live_keys b r m h) ∙ table_keys b r m lb h lm)

  head_is : (b r s : ℕ) → s < length (laid_segments rs r (read r)) → is_head_of b (head_at (laid_segments rs r (read r)) s) ≡ ((get_or (read r) s no_part).head == suc b)
  head_is b r s h =
      ap (λ (x : Segment). is_head_of b x.head) (laid_at rs r (read r) s (let e = length_laid rs r (read r) in omega (arith, e, h)))
      ∙ is_head b (get_or (read r) s no_part).head

  one_each : (b r : ℕ) → b < n → r < length rs → heads_of b (read r) ≡ 1
  one_each b r lb h = one_head (length lasts) b (read r) (whole r h).0 (let e = lasts_are i bases lasts is in omega (arith, e, lb))

  kept : (r : ℕ) → r < length rs → list_all is_kept (read r) ≡ true
  kept r h = (both_true (list_all is_kept (read r)) (list_all (λ c. c == 1) (counts_from (replicate (length lasts) 0) (read r))) (whole r h).0).0

  rows_of : (b r : ℕ) → b < n → r < length rs → AreRowsOf (laid_segments rs r (read r)) b (suc (last_of lasts b)) (rows_from b 0 (map (segment_part rs r) (read r)))
  rows_of b r lb h =
      let each = (read_are r h).each in
      record {
        are = λ k lk. are_rows rs r (widths_at rs r) lasts b (laid_segments rs r (read r)) 0 (read r) (sits b r) (read_are r h).each k no_row lk;
        ascend = rows_rise rs r (widths_at rs r) lasts b (laid_segments rs r (read r)) 0 (read r) (read_are r h).each;
        headed = head_row rs r (widths_at rs r) lasts b (laid_segments rs r (read r)) 0 (read r) (sits b r) (read_are r h).each (kept r h) (let e = one_each b r lb h in omega (arith, e));
        only = λ s t ls lt es et. let e = length_laid rs r (read r) in only_head b (read r) (one_each b r lb h) s t (omega (arith, e, ls)) (omega (arith, e, lt)) (eqb-true _ _ (sym (head_is b r s ls) ∙ es)) (eqb-true _ _ (sym (head_is b r t lt) ∙ et));
        apart = λ m key lm. times_one key (live b r m) (live_table b r m lb h lm).0;
      }

  lane_laid_is : (b : ℕ) → b < n → IsLane rs l.segments b (lane_at l b)
  lane_laid_is b lb = record {
    some = let e = counted i bases lasts is b lb in omega (arith, e);
    rows = λ r h.
        subst (λ c. AreRowsOf (segments_at l.segments r) b c (rows_at (lane_at l b) r)) (sym (counted i bases lasts is b lb))
        (subst (λ ss. AreRowsOf ss b (suc (last_of lasts b)) (rows_at (lane_at l b) r)) (sym (segments_are r h))
        (subst (λ rows. AreRowsOf (laid_segments rs r (read r)) b (suc (last_of lasts b)) rows) (sym (rows_are b r lb h)) (rows_of b r lb h)));
  }

  no_other : (r s c : ℕ) → r < length rs → s < length (laid_segments rs r (read r)) → n ≤ c → is_head_of c (head_at (laid_segments rs r (read r)) s) ≡ false
  no_other r s c h ls le =
      let seg = (read_are r h).each s no_part (let e = length_laid rs r (read r) in omega (arith, e, ls)) in
      let few = seg.head in
      let e = lasts_are i bases lasts is in
      head_is c r s ls ∙ ne_eqb (get_or (read r) s no_part).head (suc c) (λ q. omega (arith, q, few, e, le))

  is_laid : IsLaid l
  is_laid = record {
    lanes = λ b h. lane_laid_is b (let e = lanes_are i bases lasts is in omega (arith, e, h));
    heads = λ r s c h ls le.
        ap (λ ss. is_head_of c (head_at ss s)) (segments_are r h)
        ∙ no_other r s c h (subst (λ ss. s < length ss) (segments_are r h) ls) (let e = lanes_are i bases lasts is in omega (arith, e, le));
  }

  -- ---- its tables

  relation_is : (b r m : ℕ) → b < n → r < length rs → relation_at (table_in rs l.segments (lane_at l b) m) r ≡ contents_of (live b r m)
  relation_is b r m lb h =
      at_relation rs (λ q. contents_of (live_in (segments_at l.segments q) m (rows_at (lane_at l b) q))) r finite.empty h
      ∙ (λ j. contents_of (live_in (segments_are r h j) m (rows_are b r lb h j)))

  table_is : (b m : ℕ) → b < n → m < suc (last_of lasts b) → IsTable rs (table_in rs l.segments (lane_at l b) m)
  table_is b m lb lm = record {
    wide = wide;
    few = λ r h.
        let k : r < length rs = omega (arith, h, wide) in
        let e = length-map (live b r m) key_of in
        let most = leb-true (length (map key_of (live b r m))) 262144 (live_table b r m lb k lm).1 in
        let less = len_contents (live b r m) in
        subst (λ (c : Contents). finite.len c ≤ 262144) (sym (relation_is b r m lb k)) (omega (arith, e, most, less));
    counted = λ r key fields h e.
        let k : r < length rs = omega (arith, h, wide) in
        fields_have (widths_at rs r) key (live b r m) fields (live_have rs r (widths_at rs r) lasts b (laid_segments rs r (read r)) 0 m (read r) (sits b r) (read_are r k).each)
        (sym (get_contents (live b r m) key) ∙ subst (λ (c : Contents). finite.get c key ≡ Some fields) (relation_is b r m lb k) e);
  }
    where
      wide : length (table_in rs l.segments (lane_at l b) m) ≡ length rs
      wide = length_by rs (λ q. contents_of (live_in (segments_at l.segments q) m (rows_at (lane_at l b) q)))

  is_counted : IsCounted (dataset_in l)
  is_counted = record {
    relations = is.parts.relations;
    tables = λ at m.
        let t = of_made i bases lasts is at m in
        let c = counted i bases lasts is at.branch t.0 in
        let lt = t.1 in
        subst (IsTable rs) (sym (table_at_is l at (let e = lanes_are i bases lasts is in let h = t.0 in omega (arith, e, h)) (omega (arith, c, lt)))) (table_is at.branch at.position t.0 (omega (arith, lt)));
  }

  pub are_sound : AreSound (parts_of i)
  are_sound = record {
    laid = is_laid;
    sound = sound i bases lasts is;
    counted = is_counted;
    ordered = ordered i bases lasts is;
    few = λ r h.
        let e = ap (λ (x : List SegmentLaid). length x) (parts_are r) in
        let m = length-map (read r) (segment_part rs r) in
        let f = (read_are r h).few in
        let a = lasts_are i bases lasts is in
        let b = same_branches i bases lasts is in
        omega (arith, e, m, f, a, b);
    there = λ k h. (all_are rs 0 i.segments (let e = is.parts.count in omega (arith, e)) k no_segment_part h).0;
    widths = λ k h. (all_are rs 0 i.segments (let e = is.parts.count in omega (arith, e)) k no_segment_part h).1;
  }

-- bytes that are an image stand for sound parts of a layout
pub image_sound : (format : Format) (b : List ℕ) (i : Image) → image_at format b ≡ Ok i → AreSound (parts_of i)
image_sound format b i e = let r = image_read format b i e in are_sound i r.0 r.1 r.2
