-- The layouts of which an image tells all.
use Rattle.std.specs.Prelude.{◌≡◌, ℕ, ◌-◌, ◌*◌, ◌^◌, ◌<◌, ◌≤◌, true, List, [], length, map, replicate, Some}
use Rattle.std.specs.List.{All, AllByRecursion, range_with_len}
use Rattle.std.proofs.Common.{get_or}
use Rattle.db_value.specs.Text.{is_name}
use Rattle.db_value.specs.Value.{IsValue}
use Rattle.db_value.specs.Widths.{meets}
use Rattle.db_value.specs.Relations.{widths_at}
use Rattle.db_value.specs.declared.record.Record.{Record}
use Rattle.db_value.specs.declared.entry.Entry.{Entry}
use Rattle.db_value.specs.declared.entry.Entry.TheVariants.{Commit, Branch as NewBranch}
use Rattle.db_store.specs.Dataset.{root, IsMade}
use Rattle.db_store.specs.Layout.{Segment, Row, Lane, Layout, has, slots_where, lane_at, records_at, segments_at, rows_at, by_relation, dataset_in}
use Rattle.db_store.specs.LaidOut.{rises}
use Rattle.hybrid_store.specs.declared.made.MadeVersion.{MadeVersion}
use Rattle.hybrid_store.specs.declared.parts.BranchPart.{BranchPart}
use Rattle.hybrid_store.specs.Readers.{made_version}
use Rattle.hybrid_store.specs.Parts.{bases_from, order_of, seconds_of}
use Rattle.image_text.specs.declared.image.SegmentPart.{SegmentPart}
use Rattle.db_image.specs.Images.{branches_image, versions_image, image_of}
use Rattle.db_image.specs.Rules.{EachNext, onto, IsNextRelation, branch_next, IsNextBranch, version_next, IsNextVersion, branches_seen}

-- the branches of a layout, by name and origin
abbrev pub made_branches : Layout → List BranchPart
made_branches l = map (λ b. record { name = (lane_at l b).name; origin = (lane_at l b).origin }) (range_with_len 0 (length l.lanes))

-- its versions after the root, in the order made
abbrev pub made_versions : Layout → List MadeVersion
made_versions l = map (made_version l) (range_with_len 0 (length l.order - 1))

-- these are slots of so many records, and they ascend
abbrev pub AreSlots : ℕ → List ℕ → Type 0
AreSlots size slots = slots ≡ slots_where (has slots) size

-- a row is of a segment that is there, and changes slots of its records
pub record IsRowOf (ss : List Segment) (row : Row) : Type 0 where
  pub there : row.segment < length ss
  pub slots : All (AreSlots (length (records_at ss row.segment))) row.deltas

-- the rows of a branch in a relation stand by ascending segment
pub record AreRowsIn (ss : List Segment) (rows : List Row) : Type 0 where
  pub ascend : rises 0 rows ≡ true
  pub each : All (IsRowOf ss) rows

-- the rows of a lane are those of the relations
pub record HasRows (l : Layout) (lane : Lane) : Type 0 where
  pub wide : lane.rows ≡ by_relation l.schema (rows_at lane)
  pub rows : (r : ℕ) → r < length l.schema → AreRowsIn (segments_at l.segments r) (rows_at lane r)

-- position 0 of a lane is the version that stands at its origin, and its versions are those of the order made
pub record IsNumbered (l : Layout) (b : ℕ) (lane : Lane) : Type 0 where
  pub base : lane.base ≡ get_or (bases_from [] (made_branches l)) b root
  pub seconds : lane.seconds ≡ seconds_of b (made_versions l)

-- the segments and the rows of a layout are those of its relations
pub record AreWithin (l : Layout) : Type 0 where
  pub segments : l.segments ≡ by_relation l.schema (segments_at l.segments)
  pub lanes : (b : ℕ) → b < length l.lanes → HasRows l (lane_at l b)

-- the versions of a layout stand in the order made, each at the next position of its branch
pub record AreInOrder (l : Layout) : Type 0 where
  pub order : l.order ≡ order_of (made_versions l)
  pub lanes : (b : ℕ) → b < length l.lanes → IsNumbered l b (lane_at l b)

-- the branches and the versions of the image of a layout keep their rules
pub record HasLines (l : Layout) : Type 0 where
  pub branches : EachNext branch_next IsNextBranch ([], []) (branches_image l)
  pub versions : EachNext version_next (IsNextVersion (branches_seen (image_of l)).1) (replicate (length (branches_seen (image_of l)).1) 0, []) (versions_image l)

-- the place from which each branch was made is made
abbrev pub HasOrigins : Layout → Type 0
HasOrigins l = (b : ℕ) → b < length l.lanes → IsMade (dataset_in l) (lane_at l b).origin

-- the name of a new branch is a name
abbrev pub IsNamed : Entry → Type 0
IsNamed (Commit b second changes) = Unit {0}
IsNamed (NewBranch name origin) = is_name name ≡ true

-- the records of a segment meet widths, and the head of a branch has at most 65,536 of them for each version after position 0
pub record IsFilled (ws : List ℕ) (last : ℕ → ℕ) (s : Segment) : Type 0 where
  pub wide : All (λ (x : Record). meets ws x.fields ≡ true) s.records
  pub room : (b : ℕ) → s.head ≡ Some b → length s.records ≤ 65536 * last b

-- the last position of a branch
abbrev pub last_at : Layout → ℕ → ℕ
last_at l b = length (lane_at l b).seconds - 1

-- a row that begins after position 0 changes nothing where it begins
abbrev pub IsBlank : Row → Type 0
IsBlank row = 0 < row.from → get_or row.deltas 0 [] ≡ []

-- the segments and the rows of a layout are such that an image can have them
pub record HasSegments (l : Layout) : Type 0 where
  pub few : (r : ℕ) → r < length l.schema → length (segments_at l.segments r) < 2 * length l.lanes
  pub filled : (r : ℕ) → r < length l.schema → All (IsFilled (widths_at l.schema r) (last_at l)) (segments_at l.segments r)
  pub blank : (b r : ℕ) → b < length l.lanes → r < length l.schema → All IsBlank (rows_at (lane_at l b) r)

-- the key of a record has 64 bits, and its fields hold values
pub record IsRanged (x : Record) : Type 0 where
  pub key : x.key < 2 ^ 64
  pub values : AllByRecursion IsValue x.fields

-- so has each record of a segment of an image, and of the segments of a relation
abbrev pub AreRanged : SegmentPart → Type 0
AreRanged s = All IsRanged s.records

abbrev pub AllAreRanged : List SegmentPart → Type 0
AllAreRanged ss = All AreRanged ss

-- a segment has fewer than 2^32 records, each of which has its ranges
pub record NumbersFit (s : Segment) : Type 0 where
  pub few : length s.records < 2 ^ 32
  pub records : All IsRanged s.records

-- so it is of each segment of a store, since its numbers have their types
abbrev pub AllNumbersFit : Layout → Type 0
AllNumbersFit l = (r : ℕ) → r < length l.schema → All NumbersFit (segments_at l.segments r)

-- a layout of which an image can be: its versions stand in the order made, and it keeps the rules of images that not every layout keeps
pub record IsImaged (l : Layout) : Type 0 where
  pub ordered : AreInOrder l
  pub relations : EachNext onto IsNextRelation [] l.schema
  pub lines : HasLines l
  pub origins : HasOrigins l
  pub segments : HasSegments l
