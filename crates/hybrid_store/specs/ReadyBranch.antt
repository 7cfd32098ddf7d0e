-- What is ready for a new branch: what it has, and what its origin has if it gets another head.
use Rattle.std.specs.Prelude.{◌≡◌, ℕ, ◌<◌, ◌≤◌, ◌++◌, Bool, true, false, List, [], ◌∷◌, length, map, set, Option, Some, None, refl}
use Rattle.std.specs.Coded.{Coded, code_by, coded×, coded_list}
use Rattle.std.proofs.Common.{get_or}
use Rattle.db_value.specs.Relations.{widths_at}
use Rattle.db_value.specs.declared.version.VersionPlace.{VersionPlace}
use Rattle.db_value.specs.declared.entry.Entry.{Entry}
use Rattle.db_value.specs.declared.entry.Entry.TheVariants.{Commit, Branch as NewBranch}
use Rattle.record_page.specs.Page.{Rows, rows_code}
use Rattle.db_store.specs.Fits.{fits}
use Rattle.db_store.specs.State.{State, dataset_of}
use Rattle.db_store.specs.Layout.{Segment, Row, Layout, lane_at, segments_at, rows_at}
use Rattle.db_store.specs.LayoutGrowth.{segments_with, rows_begun, is_last, made_at}
use Rattle.hybrid_view.specs.Live.{Lived, lived_at, lived_code}
use Rattle.bit_rows.specs.Short.{shortest}
use Rattle.bit_rows.specs.Rows.{KeptRow, laid_row, MoreRow, more_code}
use Rattle.bit_rows.specs.Kept.{KeptLane, no_kept, kept_rows, more_at}
use Rattle.bit_rows.specs.Segments.{KeptList, no_list, turned_list}
use Rattle.hybrid_store.specs.Begun.{turned_row}
use Rattle.hybrid_store.specs.Stored.{head_number, HasHead, IsKeptAt}
use Rattle.hybrid_store.specs.Ready.{no_own}

-- what a branch gets with another head: for each relation one row more and the records of the head, and what its last version has
pub record Turn : Type 0 where
  pub more : List MoreRow
  pub head : List Lived
  pub owns : List Rows

-- these can be told apart
abbrev pub turn_code : Coded Turn
turn_code = code_by (List MoreRow × (List Lived × List Rows)) (coded× (coded_list more_code) (coded× (coded_list lived_code) (coded_list rows_code))) (λ t. (t.more, (t.head, t.owns))) (λ p. record { more = p.0; head = p.1.0; owns = p.1.1 }) (λ _. refl)

-- a row as it is kept
abbrev pub short_row : Row → KeptRow
short_row row = record { segment = row.segment; from = row.from; deltas = map shortest row.deltas }

-- of one relation: the rows that branch c begins of the rows of b at position n, and what it has of them
pub record IsBegunAt (ss : List Segment) (at_head : Bool) (ws : List ℕ) (b c n : ℕ) (rows : List Row) (news : List KeptRow) (l : Lived) (own : Rows) : Type 0 where
  pub begun : map laid_row news ≡ rows_begun at_head n ss rows
  pub kept : IsKeptAt (segments_with at_head b c ss) ws c 0 news l
  pub empty : own ≡ record { widths = ws; records = [] }

-- and what b has after it, if that was its last position
pub record IsTurnedAt (ss : List Segment) (ws : List ℕ) (b c n : ℕ) (rows : List Row) (more : MoreRow) (l : Lived) (own : Rows) : Type 0 where
  pub room : length rows < more.room
  pub row : more.row ≡ turned_row (length ss) n
  pub kept : IsKeptAt (segments_with true b c ss) ws b n (map short_row rows ++ turned_row (length ss) n ∷ []) l
  pub empty : own ≡ record { widths = ws; records = [] }

-- of a whole layout: the new branch
pub record IsBegunOf (l : Layout) (name : List ℕ) (origin : VersionPlace) (k : KeptLane) (owns : List Rows) : Type 0 where
  pub lane : k ≡ record { name = name; origin = origin; base = made_at l origin; seconds = None ∷ []; rows = k.rows; head = k.head; room = k.room }
  pub room : 1 ≤ k.room
  pub rows : length k.rows ≡ length l.schema
  pub head : length k.head ≡ length l.schema
  pub counted : length owns ≡ length l.schema
  pub at : (r : ℕ) → r < length l.schema → IsBegunAt (segments_at l.segments r) (is_last l origin) (widths_at l.schema r) origin.branch (length l.lanes) origin.position (rows_at (lane_at l origin.branch) r)
      (kept_rows k r) (lived_at k.head r) (get_or owns r no_own)

-- its origin with another head
pub record IsTurnedOf (l : Layout) (origin : VersionPlace) (t : Turn) : Type 0 where
  pub more : length t.more ≡ length l.schema
  pub head : length t.head ≡ length l.schema
  pub owns : length t.owns ≡ length l.schema
  pub at : (r : ℕ) → r < length l.schema → IsTurnedAt (segments_at l.segments r) (widths_at l.schema r) origin.branch (length l.lanes) origin.position (rows_at (lane_at l origin.branch) r)
      (more_at t.more r) (lived_at t.head r) (get_or t.owns r no_own)

-- its origin, which gets another head exactly if that was its last position
abbrev pub IsTurnedIf : Bool → Layout → VersionPlace → Option Turn → Type 0
IsTurnedIf true l origin (Some t) = IsTurnedOf l origin t
IsTurnedIf true l origin None = ⊥
IsTurnedIf false l origin (Some t) = ⊥
IsTurnedIf false l origin None = Unit {0}

-- of the layout of a state, if it has one
abbrev pub BeginsOf : ℕ → KeptLane → List Rows → Option Turn → Option Layout → Entry → Type 0
BeginsOf b k owns turned None e = ⊥
BeginsOf b k owns turned (Some l) (Commit c second cs) = ⊥
BeginsOf b k owns turned (Some l) (NewBranch name origin) = (b ≡ origin.branch) × (IsBegunOf l name origin k owns × IsTurnedIf (is_last l origin) l origin turned)

-- it is ready for a new branch that fits
abbrev pub IsReadyBranch : ℕ → KeptLane → List Rows → Option Turn → State → Entry → Type 0
IsReadyBranch b k owns turned s e = (fits (dataset_of s) e ≡ true) × BeginsOf b k owns turned s.layout e

-- ---- another head of a branch

-- the segments of a relation can have another head of the branch
pub record CanTurn (b : ℕ) (k : KeptLane) (list : KeptList) (r : ℕ) : Type 0 where
  pub head : HasHead b list.all (kept_rows k r)
  pub room : length list.all < list.room

-- a branch and the segments can take what is ready for another head
pub record CanTake (b : ℕ) (k : KeptLane) (lists : List KeptList) (t : Turn) : Type 0 where
  pub few : length lists ≤ 8
  pub rows : length k.rows ≡ length lists
  pub more : length t.more ≡ length k.rows
  pub owns : length t.owns ≡ length lists
  pub room : (r : ℕ) → r < length k.rows → length (kept_rows k r) < (more_at t.more r).room
  pub can : (r : ℕ) → r < length lists → CanTurn b k (get_or lists r no_list) r

-- branch b, and the segments, with another head
pub record HasTurned (b : ℕ) (t : Turn) (olds : List KeptLane) (lists : List KeptList) (lanes : List KeptLane) (segments : List KeptList) : Type 0 where
  pub others : lanes ≡ set olds b (get_or lanes b no_kept)
  pub lane : get_or lanes b no_kept ≡ record (get_or olds b no_kept) { rows = (get_or lanes b no_kept).rows; head = t.head }
  pub count : length (get_or lanes b no_kept).rows ≡ length (get_or olds b no_kept).rows
  pub each : (r : ℕ) → r < length (get_or olds b no_kept).rows → kept_rows (get_or lanes b no_kept) r ≡ kept_rows (get_or olds b no_kept) r ++ (more_at t.more r).row ∷ []
  pub long : length segments ≡ length lists
  pub put : (r : ℕ) → r < length lists → get_or segments r no_list ≡ turned_list (get_or lists r no_list) (head_number lists b r) b (get_or t.owns r no_own)

-- the same if something is ready for it; otherwise all stays
abbrev pub TurnsIf : ℕ → Option Turn → List KeptLane → List KeptList → List KeptLane → List KeptList → Type 0
TurnsIf b None olds lists lanes segments = (lanes ≡ olds) × (segments ≡ lists)
TurnsIf b (Some t) olds lists lanes segments = HasTurned b t olds lists lanes segments
