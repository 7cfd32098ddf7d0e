-- Pieces with all records that their segments have.
use Rattle.std.specs.Prelude.{◌≡◌, ℕ, ◌<◌, List, length, map}
use Rattle.hybrid_view.specs.Live.{Piece, Lived, piece_at, lived_at}
use Rattle.bit_rows.specs.Segments.{KeptRecords, kept_at, list_at}
use Rattle.hybrid_store.specs.declared.store.HybridStore.{HybridStore}

-- a piece with all records of its segment
abbrev pub whole_piece : List KeptRecords → Piece → Piece
whole_piece ks p = record p { rows = (kept_at ks p.segment).rows }

-- what there is of a relation with them
abbrev pub whole_lived : List KeptRecords → Lived → Lived
whole_lived ks l = record l { pieces = map (whole_piece ks) l.pieces }

-- pieces are of segments that are there
abbrev pub AreThere : List KeptRecords → List Piece → Type 0
AreThere ks ps = (i : ℕ) → i < length ps → (piece_at ps i).segment < length ks

-- they have as many records as their segments
abbrev pub AreWhole : List KeptRecords → List Piece → Type 0
AreWhole ks ps = (i : ℕ) → i < length ps → length (piece_at ps i).rows.records ≡ length (kept_at ks (piece_at ps i).segment).rows.records

-- a view shows all records of its segments
abbrev pub ShowsWhole : HybridStore → List Lived → Type 0
ShowsWhole s view = (r : ℕ) → r < length s.schema → AreWhole (list_at s.segments.items r) (lived_at view r).pieces
