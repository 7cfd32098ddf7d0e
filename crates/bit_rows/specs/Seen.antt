-- What a version of a branch has of a relation: the bits of its rows by their histories, and the places of the live records.
use Rattle.std.specs.Prelude.{ℕ, suc, ◌-◌, ◌<◌, ◌≤◌, ◌^◌, nat_le, filter, Bool, List, length, map, take}
use Rattle.record_page.specs.Page.{Rows}
use Rattle.commit_history.specs.Combined.{combined}
use Rattle.hybrid_view.specs.Live.{Piece, Lived, piece_at}
use Rattle.hybrid_view.specs.Spots.{lived_of}
use Rattle.bit_rows.specs.Rows.{KeptRow}
use Rattle.bit_rows.specs.Segments.{KeptRecords, kept_at}

-- how many deltas a row has up to a position
abbrev pub deltas_until : ℕ → KeptRow → ℕ
deltas_until n row = suc n - row.from

-- the piece of a row at a position: all records of its segment, and the bits after the deltas up to there
abbrev pub piece_seen : Rows → ℕ → KeptRow → Piece
piece_seen own n row = record { segment = row.segment; rows = own; bits = combined (take (deltas_until n row) row.deltas) }

-- of a row of these segments
abbrev pub piece_of_row : List KeptRecords → ℕ → KeptRow → Piece
piece_of_row ks n row = piece_seen (kept_at ks row.segment).rows n row

-- the row begins at a position or before it
abbrev pub is_begun : ℕ → KeptRow → Bool
is_begun n row = nat_le row.from n

-- the rows that do
abbrev pub begun_by : ℕ → List KeptRow → List KeptRow
begun_by n rows = filter (is_begun n) rows

-- their pieces
abbrev pub pieces_seen : List KeptRecords → ℕ → List KeptRow → List Piece
pieces_seen ks n rows = map (piece_of_row ks n) (begun_by n rows)

-- what a version has of a relation
abbrev pub lived_seen : List KeptRecords → ℕ → List KeptRow → Lived
lived_seen ks n rows = lived_of (pieces_seen ks n rows)

-- the row is of one of these segments, and has a delta for each position up to this one
pub record IsThere (ks : List KeptRecords) (n : ℕ) (row : KeptRow) : Type 0 where
  pub segment : row.segment < length ks
  pub deltas : deltas_until n row ≤ length row.deltas

-- a segment has so few records that the ids of its parts differ
abbrev pub IsSmall : Piece → Type 0
IsSmall p = length p.rows.records < 2 ^ 32

-- no piece has bits for slots past its records
abbrev pub AreCovered : List Piece → Type 0
AreCovered ps = (i : ℕ) → i < length ps → length (piece_at ps i).bits ≤ length (piece_at ps i).rows.records
