-- What a new branch has of a relation, and its origin after it.
use Rattle.std.specs.Prelude.{◌≡◌, ℕ, ◌+◌, ◌<◌, ◌++◌, List, [], ◌∷◌, length, map}
use Rattle.std.proofs.Common.{get_or}
use Rattle.record_page.specs.Page.{Rows}
use Rattle.hybrid_view.specs.Live.{Piece, Lived, lived_at, begun_pieces}
use Rattle.bit_rows.specs.Rows.{KeptRow, begun_row, MoreRow, no_more}
use Rattle.bit_rows.specs.Kept.{KeptLane, kept_rows}
use Rattle.bit_rows.specs.Segments.{KeptList, list_at}
use Rattle.hybrid_store.specs.New.{own_at}

-- a head with its records, of which none is live
abbrev pub head_piece : ℕ → Rows → Piece
head_piece segment own = record { segment = segment; rows = own; bits = [] }

-- a head without records, by its number and the widths of its columns
abbrev pub empty_head : ℕ → List ℕ → Piece
empty_head segment ws = record { segment = segment; rows = record { widths = ws; records = [] }; bits = [] }

-- what a new branch has: the pieces in which something is live, and its head
abbrev pub lived_begun : Lived → Piece → Lived
lived_begun l head = record { pieces = begun_pieces l.pieces head; places = l.places; count = l.count }

-- what a branch has that got another head
abbrev pub lived_turned : Lived → Piece → Lived
lived_turned l head = record { pieces = l.pieces ++ head ∷ []; places = l.places; count = l.count }

-- the row of another head of a branch, from its last position on
abbrev pub turned_row : ℕ → ℕ → KeptRow
turned_row segment from = record { segment = segment; from = from; deltas = [] ∷ [] }

-- ---- of all relations

-- what a new branch has of a relation, whose head is behind so many segments
abbrev pub begun_in : List KeptList → ℕ → List Rows → List Lived → ℕ → Lived
begun_in segments more owns view r = lived_begun (lived_at view r) (head_piece (length (list_at segments r) + more) (own_at owns r))

-- what a branch has of a relation with another head
abbrev pub turned_in : List KeptList → List Rows → List Lived → ℕ → Lived
turned_in segments owns head r = lived_turned (lived_at head r) (head_piece (length (list_at segments r)) (own_at owns r))

-- a new branch has this of the first relations, and its rows are begun of it
pub record AreBegun (segments : List KeptList) (more : ℕ) (owns : List Rows) (view : List Lived) (n : ℕ) (rows : List (List KeptRow)) (t : List Lived) : Type 0 where
  pub wide : length t ≡ n
  pub count : length rows ≡ n
  pub each : (r : ℕ) → r < n → lived_at t r ≡ begun_in segments more owns view r
  pub begun : (r : ℕ) → r < n → get_or rows r [] ≡ map begun_row (begun_in segments more owns view r).pieces

-- a branch has this of the first relations with another head, and there is one row more for each
pub record AreTurned (segments : List KeptList) (k : KeptLane) (from : ℕ) (owns : List Rows) (n : ℕ) (more : List MoreRow) (t : List Lived) : Type 0 where
  pub wide : length t ≡ n
  pub count : length more ≡ n
  pub each : (r : ℕ) → r < n → lived_at t r ≡ turned_in segments owns k.head r
  pub row : (r : ℕ) → r < n → (get_or more r no_more).row ≡ turned_row (length (list_at segments r)) from
  pub room : (r : ℕ) → r < n → length (kept_rows k r) < (get_or more r no_more).room
