-- What the version at a place has, and the parts that its view shows.
use Rattle.std.specs.Prelude.{ℕ, ◌+◌, ◌*◌, ◌^◌, nat_le, filter, List, length, map}
use Rattle.std.proofs.Common.{get_or}
use Rattle.db_value.specs.declared.version.VersionPlace.{VersionPlace}
use Rattle.db_store.specs.Parts.{Part}
use Rattle.db_store.specs.Layout.{Segment, Row, Layout, bit, records_at, segments_at, rows_at, lane_at}
use Rattle.hybrid_view.specs.Live.{Lived, slots_from}
use Rattle.bit_rows.specs.Kept.{no_kept}
use Rattle.hybrid_store.specs.declared.store.HybridStore.{HybridStore}
use Rattle.hybrid_store.specs.Stored.{IsSeen}

-- this is what it has of all relations
abbrev pub Sees : HybridStore → VersionPlace → List Lived → Type 0
Sees s at view = IsSeen s.schema s.segments.items (get_or s.lanes.items at.branch no_kept) at.position view

-- the rows that begin at a position or before it
abbrev pub rows_by : ℕ → List Row → List Row
rows_by n rows = filter (λ (row : Row). nat_le row.from n) rows

-- a row as a part: all records of its segment, and which of them are live at a position
abbrev pub part_of_row : List Segment → ℕ → Row → Part
part_of_row ss n row = record { id = row.segment * 2 ^ 32 + length (records_at ss row.segment); slots = slots_from 0 (records_at ss row.segment) (bit row n) }

-- the parts of a relation in the version at a place
abbrev pub parts_at : Layout → VersionPlace → ℕ → List Part
parts_at l at r = map (part_of_row (segments_at l.segments r) at.position) (rows_by at.position (rows_at (lane_at l at.branch) r))
