-- What the image of a layout stands for is the layout.
use Rattle.std.proofs.Common.{◌≡◌, ℕ, zero, suc, ◌+◌, ◌-◌, ◌<◌, ◌≤◌, List, [], ◌∷◌, ◌++◌, map, length, get_or, Option, Some, None, refl, sym, ap, ◌∙◌, arith, ext_get_or}
use Rattle.std.specs.List.{flat_map, range_with_len}
use Rattle.std.proofs.lemmas.List.FromFn.{get_or-map-range_with_len, length-map-range_with_len}
use Rattle.db_store.specs.Dataset.{root}
use Rattle.db_store.specs.Layout.{Segment, Row, Lane, Layout, no_lane, no_segment, lane_at, records_at, segments_at, rows_at}
use Rattle.db_store.specs.LaidOut.{head_at}
use Rattle.db_store.proofs.SegmentLemmas.{at_relation}
use Rattle.hybrid_store.specs.declared.parts.BranchPart.{BranchPart as BranchLaid}
use Rattle.hybrid_store.specs.declared.parts.LayoutParts.{LayoutParts}
use Rattle.hybrid_store.specs.Parts.{row_laid, rows_from, segment_laid, bases_from, order_of, seconds_of, no_branch_part, lane_laid, layout_of_parts}
use Rattle.hybrid_store.specs.Parts as laid
use Rattle.hybrid_store.specs.Readers.{made_version, rows_in, row_from, row_deltas}
use Rattle.db_image.specs.Parts.{branch_part, version_part, head_part, segment_part, parts_of}
use Rattle.db_image.specs.Images.{branch_image, version_image, head_image, segment_image, segments_image, image_of}
use Rattle.db_image.specs.Imaged.{made_branches, made_versions, AreRowsIn, AreWithin, AreInOrder}
use Rattle.db_image.proofs.Laid.{part_at}
use Rattle.db_image.proofs.RowsBack.{own_row, row_seen, all_first, first_of, back}

-- ---- maps over numbers

pub maps_agree : {X : Type 0} (f g : ℕ → X) (n a : ℕ) → ((k : ℕ) → a ≤ k → k < a + n → f k ≡ g k) → map f (range_with_len a n) ≡ map g (range_with_len a n)
maps_agree f g zero a h = refl
maps_agree f g (suc n) a h = λ i. h a (omega arith) (omega arith) i ∷ maps_agree f g n (a + 1) (λ k le lt. h k (omega (arith, le)) (omega (arith, lt))) i

parts_agree : {X : Type 0} (f g : ℕ → List X) (n a : ℕ) → ((k : ℕ) → a ≤ k → k < a + n → f k ≡ g k) → flat_map f (range_with_len a n) ≡ flat_map g (range_with_len a n)
parts_agree f g zero a h = refl
parts_agree f g (suc n) a h = λ i. h a (omega arith) (omega arith) i ++ parts_agree f g n (a + 1) (λ k le lt. h k (omega (arith, le)) (omega (arith, lt))) i

pub map_twice : {X Y Z : Type 0} (f : Y → Z) (g : X → Y) (xs : List X) → map f (map g xs) ≡ map (λ x. f (g x)) xs
map_twice f g [] = refl
map_twice f g (x ∷ xs) = ap (λ l. f (g x) ∷ l) (map_twice f g xs)

-- ---- what is not in segments

abbrev p : Layout → LayoutParts
p l = parts_of (image_of l)

branches_are : (l : Layout) → (p l).branches ≡ made_branches l
branches_are l = map_twice branch_part (λ b. branch_image (lane_at l b)) (range_with_len 0 (length l.lanes))

versions_are : (l : Layout) → (p l).versions ≡ made_versions l
versions_are l = map_twice version_part (λ i. version_image (made_version l i)) (range_with_len 0 (length l.order - 1))

count_is : (l : Layout) → length (p l).branches ≡ length l.lanes
count_is l = ap (λ (xs : List BranchLaid). length xs) (branches_are l) ∙ length-map-range_with_len (λ b. record { name = (lane_at l b).name; origin = (lane_at l b).origin }) 0 (length l.lanes)

branch_at : (l : Layout) (b : ℕ) → b < length l.lanes → get_or (p l).branches b no_branch_part ≡ record { name = (lane_at l b).name; origin = (lane_at l b).origin }
branch_at l b h =
    ap (λ xs. get_or xs b no_branch_part) (branches_are l)
    ∙ get_or-map-range_with_len (λ c. record { name = (lane_at l c).name; origin = (lane_at l c).origin }) 0 (length l.lanes) b b no_branch_part h (omega arith)

-- ---- segments

head_back : (h : Option ℕ) → head_part (head_image h) ≡ h
head_back None = refl
head_back (Some b) = refl

segment_back : (l : Layout) (r s : ℕ) → segment_laid (segment_part l.schema r (segment_image l r s)) ≡ get_or (segments_at l.segments r) s no_segment
segment_back l r s = λ i. record { head = head_back (head_at (segments_at l.segments r) s) i; records = records_at (segments_at l.segments r) s }

pub parts_are : (l : Layout) (r : ℕ) → r < length l.schema → laid.parts_of r (p l).segments ≡ map (segment_part l.schema r) (segments_image l r)
parts_are l r h =
    part_at l.schema r 0 r (image_of l).segments (omega arith)
    ∙ ap (map (segment_part l.schema r)) (at_relation l.schema (segments_image l) r [] h)

pub numbered : {X : Type 0} (xs : List X) (d : X) → map (λ s. get_or xs s d) (range_with_len 0 (length xs)) ≡ xs
numbered xs d =
    ext_get_or d (map (λ s. get_or xs s d) (range_with_len 0 (length xs))) xs (length-map-range_with_len (λ s. get_or xs s d) 0 (length xs))
    (λ k h. get_or-map-range_with_len (λ s. get_or xs s d) 0 (length xs) k k d (let n = length-map-range_with_len (λ s. get_or xs s d) 0 (length xs) in omega (arith, n, h)) (omega arith))

pub segments_back : (l : Layout) (r : ℕ) → r < length l.schema → map segment_laid (laid.parts_of r (p l).segments) ≡ segments_at l.segments r
segments_back l r h =
    ap (map segment_laid) (parts_are l r h)
    ∙ ap (map segment_laid) (map_twice (segment_part l.schema r) (segment_image l r) (range_with_len 0 (length (segments_at l.segments r))))
    ∙ map_twice segment_laid (λ s. segment_part l.schema r (segment_image l r s)) (range_with_len 0 (length (segments_at l.segments r)))
    ∙ maps_agree (λ s. segment_laid (segment_part l.schema r (segment_image l r s))) (λ s. get_or (segments_at l.segments r) s no_segment) (length (segments_at l.segments r)) 0 (λ s g h. segment_back l r s)
    ∙ numbered (segments_at l.segments r) no_segment

-- ---- rows

module _ (l : Layout) (r b : ℕ) (hb : b < length l.lanes) where
  abbrev ss : List Segment
  ss = segments_at l.segments r

  abbrev rows : List Row
  rows = rows_in l r b

  -- what a segment gives of the branch
  abbrev given : ℕ → List Row
  given s = back s (length (records_at ss s)) b (row_from l r s b) (row_deltas l r s b)

  rows_are : (n k : ℕ) → rows_from b k (map (segment_part l.schema r) (map (segment_image l r) (range_with_len k n))) ≡ flat_map given (range_with_len k n)
  rows_are zero k = refl
  rows_are (suc n) k =
      let one : suc k ≡ k + 1 = omega arith in
      (λ i. map (row_laid k) (own_row (λ c. row_from l r k c) (λ c. row_deltas l r k c) (length (records_at ss k)) b (length l.lanes) 0 (omega arith) (omega (arith, hb)) i)
      ++ rows_from b (one i) (map (segment_part l.schema r) (map (segment_image l r) (range_with_len (k + 1) n))))
      ∙ ap (λ x. given k ++ x) (rows_are n (k + 1))

  pub rows_back : r < length l.schema → AreRowsIn ss rows → rows_from b 0 (laid.parts_of r (p l).segments) ≡ rows
  rows_back h are =
      ap (rows_from b 0) (parts_are l r h)
      ∙ rows_are (length ss) 0
      ∙ parts_agree given (first_of rows) (length ss) 0 (λ s g m. row_seen ss b s rows are.each)
      ∙ all_first (length ss) 0 rows are.ascend (λ k d m. let t = (are.each k d m).there in omega (arith, t))

-- ---- the layout

module _ (l : Layout) (within : AreWithin l) (ordered : AreInOrder l) where
  lane_back : (b : ℕ) → b < length l.lanes → lane_laid (p l) b ≡ lane_at l b
  lane_back b h =
      let lane : Lane = lane_at l b in
      let has = within.lanes b h in
      let num = ordered.lanes b h in
      λ i. record {
        name = (branch_at l b h i).name;
        origin = (branch_at l b h i).origin;
        base = (ap (λ xs. get_or (bases_from [] xs) b root) (branches_are l) ∙ sym num.base) i;
        seconds = (ap (seconds_of b) (versions_are l) ∙ sym num.seconds) i;
        rows = (maps_agree (λ r. rows_from b 0 (laid.parts_of r (p l).segments)) (rows_at lane) (length l.schema) 0 (λ r g m. rows_back l r b h (omega (arith, m)) (has.rows r (omega (arith, m)))) ∙ sym has.wide) i;
      }

  lanes_back : map (lane_laid (p l)) (range_with_len 0 (length (p l).branches)) ≡ l.lanes
  lanes_back =
      ap (λ n. map (lane_laid (p l)) (range_with_len 0 n)) (count_is l)
      ∙ maps_agree (lane_laid (p l)) (lane_at l) (length l.lanes) 0 (λ b g m. lane_back b (omega (arith, m)))
      ∙ numbered l.lanes no_lane

  pub layout_back : layout_of_parts (parts_of (image_of l)) ≡ l
  layout_back = λ i. record {
    schema = l.schema;
    lanes = lanes_back i;
    order = (ap order_of (versions_are l) ∙ sym ordered.order) i;
    segments = (maps_agree (λ r. map segment_laid (laid.parts_of r (p l).segments)) (segments_at l.segments) (length l.schema) 0 (λ r g m. segments_back l r (omega (arith, m))) ∙ sym within.segments) i;
  }
