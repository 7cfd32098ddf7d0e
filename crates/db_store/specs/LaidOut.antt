-- What holds of every layout that entries make of a new one.
use Rattle.std.specs.Prelude.{◌≡◌, ℕ, suc, ◌+◌, ◌<◌, ◌≤◌, ◌==◌, ◌&&◌, nat_le, cond, Bool, true, false, List, [], ◌∷◌, length, Option}
use Rattle.std.specs.List.{list_any}
use Rattle.std.proofs.Common.{get_or}
use Rattle.db_value.specs.declared.record.Record.{Record}
use Rattle.db_value.specs.declared.schema.Relation.{Relation}
use Rattle.db_store.specs.Layout.{Segment, Row, Lane, Layout, no_segment, bit, live_in, records_at, segments_at, rows_at, lane_at}
use Rattle.db_store.specs.LayoutGrowth.{is_head_of}

-- what stands past the last row
abbrev pub no_row : Row
no_row = record { segment = 0; from = 0; deltas = [] }

-- a row by its number
abbrev pub row_at : List Row → ℕ → Row
row_at rows i = get_or rows i no_row

-- a row of a branch with so many versions: its segment is there, it has a delta for each position from its first one on, and only bits
-- of records are set
pub record IsRow (ss : List Segment) (count : ℕ) (row : Row) : Type 0 where
  pub there : row.segment < length ss
  pub begun : row.from < count
  pub full : row.from + length row.deltas ≡ count
  pub within : (n slot : ℕ) → bit row n slot ≡ true → slot < length (records_at ss row.segment)

-- all of them are rows of a branch with so many versions
abbrev pub AreRows : List Segment → ℕ → List Row → Type 0
AreRows ss count rows = (i : ℕ) → i < length rows → IsRow ss count (row_at rows i)

-- the numbers of the rows' segments ascend strictly, from a number on
abbrev pub rises : ℕ → List Row → Bool
rises low [] = true
rises low (row ∷ rows) = nat_le low row.segment && rises (suc row.segment) rows

-- the branch whose head a segment is, by its number
abbrev pub head_at : List Segment → ℕ → Option ℕ
head_at ss s = (get_or ss s no_segment).head

-- one of the rows is of the branch's head
abbrev pub has_head : ℕ → List Segment → List Row → Bool
has_head b ss rows = list_any (λ (row : Row). is_head_of b (head_at ss row.segment)) rows

-- how many records have a key
abbrev pub times : ℕ → List Record → ℕ
times key [] = 0
times key (x ∷ xs) = cond (x.key == key) 1 0 + times key xs

-- the rows of a branch in a relation: they stand by ascending segment, one is of its head, it has one head only, and at no position a key
-- stands twice
pub record AreRowsOf (ss : List Segment) (b count : ℕ) (rows : List Row) : Type 0 where
  pub are : AreRows ss count rows
  pub ascend : rises 0 rows ≡ true
  pub headed : has_head b ss rows ≡ true
  pub only : (s t : ℕ) → s < length ss → t < length ss → is_head_of b (head_at ss s) ≡ true → is_head_of b (head_at ss t) ≡ true → s ≡ t
  pub apart : (n key : ℕ) → n < count → times key (live_in ss n rows) ≤ 1

-- the lane of a branch with a version at least
pub record IsLane (schema : List Relation) (sss : List (List Segment)) (b : ℕ) (lane : Lane) : Type 0 where
  pub some : 0 < length lane.seconds
  pub rows : (r : ℕ) → r < length schema → AreRowsOf (segments_at sss r) b (length lane.seconds) (rows_at lane r)

-- what holds of a layout: its lanes are lanes, and no head is that of a branch that isn't there
pub record IsLaid (l : Layout) : Type 0 where
  pub lanes : (b : ℕ) → b < length l.lanes → IsLane l.schema l.segments b (lane_at l b)
  pub heads : (r s c : ℕ) → r < length l.schema → s < length (segments_at l.segments r) → length l.lanes ≤ c → is_head_of c (head_at (segments_at l.segments r) s) ≡ false
