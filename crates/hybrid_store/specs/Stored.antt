-- What holds of what a store keeps.
use Rattle.std.specs.Prelude.{◌≡◌, ℕ, suc, ◌+◌, ◌*◌, ◌-◌, ◌<◌, ◌≤◌, ◌==◌, ◌^◌, cond, Bool, true, List, [], ◌∷◌, Option, length, map}
use Rattle.std.specs.List.{list_any}
use Rattle.std.proofs.Common.{get_or}
use Rattle.db_value.specs.Relations.{widths_at}
use Rattle.db_value.specs.declared.schema.Relation.{Relation}
use Rattle.db_value.specs.declared.version.VersionPlace.{VersionPlace}
use Rattle.db_store.specs.Dataset.{Dataset}
use Rattle.db_store.specs.Fits.{most_versions}
use Rattle.db_store.specs.Layout.{Segment, Row, dataset_in}
use Rattle.db_store.specs.LayoutGrowth.{is_head_of, puts}
use Rattle.db_store.specs.LaidOut.{head_at, row_at}
use Rattle.hybrid_view.specs.Live.{Lived, Piece, piece_at, lived_at, IsLived}
use Rattle.hybrid_view.specs.RowPlaces.{Shows, IsWhole, AllNext}
use Rattle.hybrid_view.specs.Struck.{touched_places}
use Rattle.db_value.specs.declared.entry.Change.{Change}
use Rattle.commit_history.specs.Runs.{Next}
use Rattle.hybrid_view.specs.Deltas.{slots_of}
use Rattle.bit_rows.specs.Short.{shortest}
use Rattle.bit_rows.specs.Differences.{AreDifferences}
use Rattle.bit_rows.specs.Rows.{KeptRow, kept_row_at, laid_row}
use Rattle.bit_rows.specs.Kept.{KeptLane, no_kept, kept_rows, nexts_at}
use Rattle.bit_rows.specs.Seen.{begun_by}
use Rattle.hybrid_store.specs.Lanes.{segment_of, kept_layout}
use Rattle.bit_rows.specs.Segments.{KeptRecords, KeptList, no_list, list_at, kept_at, most_segments}
use Rattle.record_page.specs.Page.{Rows}

-- the dataset of branches and segments
abbrev pub kept_dataset : List Relation → List KeptLane → List VersionPlace → List KeptList → Dataset
kept_dataset schema lanes order segments = dataset_in (kept_layout schema lanes order segments)

-- the number of the first segment that is the head of a branch
abbrev pub head_in : ℕ → List Segment → ℕ
head_in b [] = 0
head_in b (s ∷ ss) = cond (is_head_of b s.head) 0 (suc (head_in b ss))

-- the number of a branch's head in a relation
abbrev pub head_number : List KeptList → ℕ → ℕ → ℕ
head_number segments b r = head_in b (map segment_of (list_at segments r))

-- one of the rows is of a segment
abbrev pub has_row : ℕ → List KeptRow → Bool
has_row s rows = list_any (λ (row : KeptRow). row.segment == s) rows

-- the rows are of these segments, of which one is the head of the branch, and one row is of it
pub record HasHead (b : ℕ) (ks : List KeptRecords) (rows : List KeptRow) : Type 0 where
  pub there : (i : ℕ) → i < length rows → (kept_row_at rows i).segment < length ks
  pub own : has_row (head_in b (map segment_of ks)) rows ≡ true
  pub headed : (s : ℕ) → s < length (map segment_of ks) → is_head_of b (head_at (map segment_of ks) s) ≡ (s == head_in b (map segment_of ks))

-- one of the pieces is of a segment
abbrev pub HasPiece : ℕ → List Piece → Type 0
HasPiece s ps = (i : ℕ) × ((i < length ps) × ((piece_at ps i).segment ≡ s))

-- these are the records of a piece of a segment
abbrev pub IsOwnOf : ℕ → List Piece → Rows → Type 0
IsOwnOf s ps own = (i : ℕ) × ((i < length ps) × (((piece_at ps i).segment ≡ s) × (own ≡ (piece_at ps i).rows)))

-- pieces show rows, each the one at its place
pub record Show (ss : List Segment) (n : ℕ) (rows : List Row) (ps : List Piece) : Type 0 where
  pub count : length ps ≡ length rows
  pub each : (i : ℕ) → i < length rows → Shows ss n (row_at rows i) (piece_at ps i)

-- the pieces have so few records that their ids differ
abbrev pub AreSmall : Lived → Type 0
AreSmall l = (i : ℕ) → i < length l.pieces → length (piece_at l.pieces i).rows.records < 2 ^ 32

-- what a branch has of a relation at its last position: pieces that show its rows, of which one is its head's, with all records of it
pub record IsKeptAt (ss : List Segment) (ws : List ℕ) (b n : ℕ) (rows : List KeptRow) (l : Lived) : Type 0 where
  pub own : has_row (head_in b ss) rows ≡ true
  pub headed : (s : ℕ) → s < length ss → is_head_of b (head_at ss s) ≡ (s == head_in b ss)
  pub short : (i : ℕ) → i < length rows → map shortest (map slots_of (kept_row_at rows i).deltas) ≡ (kept_row_at rows i).deltas
  pub shown : Show ss n (map laid_row rows) l.pieces
  pub whole : IsWhole ss (head_in b ss) l.pieces
  pub lived : IsLived l
  pub small : AreSmall l
  pub widths : (i : ℕ) → i < length l.pieces → (piece_at l.pieces i).rows.widths ≡ ws

-- a branch that is kept
pub record IsKept (schema : List Relation) (segments : List KeptList) (b : ℕ) (k : KeptLane) : Type 0 where
  pub rows : length k.rows ≡ length schema
  pub head : length k.head ≡ length schema
  pub at : (r : ℕ) → r < length schema → IsKeptAt (map segment_of (list_at segments r)) (widths_at schema r) b (length k.seconds - 1) (kept_rows k r) (lived_at k.head r)

-- each relation has its segments, with room for all that there can be, and each branch is kept
pub record IsStored (schema : List Relation) (lanes : List KeptLane) (segments : List KeptList) : Type 0 where
  pub wide : length segments ≡ length schema
  pub room : (r : ℕ) → r < length schema → most_segments ≤ (get_or segments r no_list).room
  pub few : (r : ℕ) → r < length schema → length (list_at segments r) ≤ 2 * length lanes
  pub widths : (r s : ℕ) → r < length schema → s < length (list_at segments r) → (kept_at (list_at segments r) s).rows.widths ≡ widths_at schema r
  pub each : (b : ℕ) → b < length lanes → IsKept schema segments b (get_or lanes b no_kept)

-- a branch has a version, and no more of them than there can be
pub record HasVersions (k : KeptLane) : Type 0 where
  pub some : 0 < length k.seconds
  pub few : length k.seconds ≤ most_versions

-- room for so many versions more
abbrev pub HasRoom : ℕ → KeptLane → Type 0
HasRoom more k = length k.seconds + more ≤ k.room

-- the same branch, with no less room
abbrev pub Widens : KeptLane → KeptLane → Type 0
Widens old new = (new ≡ record old { room = new.room }) × (old.room ≤ new.room)

-- where the keys stand that changes touch in a relation of a branch
abbrev pub touched_in : KeptLane → List Change → ℕ → List (Option (ℕ × ℕ))
touched_in k cs r = touched_places (lived_at k.head r).pieces cs r

-- what a branch has of a relation after changes, by what it had and the numbers of its heads
abbrev pub IsNextAt : (ℕ → ℕ) → KeptLane → List Change → ℕ → Lived → Type 0
IsNextAt heads k cs r l = AllNext (touched_in k cs r) (heads r) (puts cs r) (lived_at k.head r).pieces l.pieces

-- the same in the first relations
abbrev pub AllNextIn : (ℕ → ℕ) → KeptLane → List Change → ℕ → List Lived → Type 0
AllNextIn heads k cs n ls = (r : ℕ) → r < n → IsNextAt heads k cs r (lived_at ls r)

-- and what is ready for its rows
abbrev pub AllDifferences : KeptLane → List (List Next) → ℕ → List Lived → Type 0
AllDifferences k nexts n ls = (r : ℕ) → r < n → AreDifferences (kept_rows k r) (nexts_at nexts r) (lived_at k.head r).pieces (lived_at ls r).pieces

-- this is what a branch has of so many relations after changes, and what is ready for its rows
pub record IsAfter (heads : ℕ → ℕ) (k : KeptLane) (cs : List Change) (n : ℕ) (nexts : List (List Next)) (ls : List Lived) : Type 0 where
  pub wide : length ls ≡ n
  pub count : length nexts ≡ n
  pub next : AllNextIn heads k cs n ls
  pub deltas : AllDifferences k nexts n ls
  pub small : (r : ℕ) → r < n → AreSmall (lived_at ls r)

-- a branch with no regard to its room
abbrev pub roomless : KeptLane → KeptLane
roomless k = record k { room = 0 }

-- what a version has of a relation: pieces that show rows at its position
pub record IsSeenAt (ss : List Segment) (ws : List ℕ) (n : ℕ) (rows : List Row) (l : Lived) : Type 0 where
  pub shown : Show ss n rows l.pieces
  pub lived : IsLived l
  pub small : AreSmall l
  pub widths : (i : ℕ) → i < length l.pieces → (piece_at l.pieces i).rows.widths ≡ ws

-- what the version at a position of a branch has of all relations: the rows that have begun by then
pub record IsSeen (schema : List Relation) (segments : List KeptList) (k : KeptLane) (n : ℕ) (view : List Lived) : Type 0 where
  pub wide : length view ≡ length schema
  pub at : (r : ℕ) → r < length schema → IsSeenAt (map segment_of (list_at segments r)) (widths_at schema r) n (map laid_row (begun_by n (kept_rows k r))) (lived_at view r)
