-- The layout of what a store keeps, after a commit.
use Rattle.std.proofs.Common.{◌≡◌, ℕ, ◌<◌, List, [], length, map, get_or}
use Rattle.std.proofs.lemmas.List.{get_or-map}
use Rattle.db_value.specs.declared.schema.Relation.{Relation}
use Rattle.db_value.specs.declared.version.VersionPlace.{VersionPlace}
use Rattle.db_store.specs.Layout.{no_lane, lane_at, segments_at, rows_at}
use Rattle.db_store.proofs.SegmentLemmas.{at_relation}
use Rattle.bit_rows.specs.Rows.{laid_row}
use Rattle.bit_rows.specs.Kept.{KeptLane, no_kept, kept_rows}
use Rattle.hybrid_store.specs.Lanes.{segment_of, lane_of, kept_layout}
use Rattle.bit_rows.specs.Segments.{KeptList, no_list}

-- a branch of the layout is what is kept of it
pub lane_kept : (schema : List Relation) (lanes : List KeptLane) (order : List VersionPlace) (segments : List KeptList) (b : ℕ) → b < length lanes → lane_at (kept_layout schema lanes order segments) b ≡ lane_of schema (get_or lanes b no_kept)
lane_kept schema lanes order segments b h = get_or-map (lane_of schema) lanes b no_kept no_lane h

pub segments_kept : (schema : List Relation) (lanes : List KeptLane) (order : List VersionPlace) (segments : List KeptList) (r : ℕ) → r < length schema → segments_at (kept_layout schema lanes order segments).segments r ≡ map segment_of (get_or segments r no_list).all
segments_kept schema lanes order segments r h = at_relation schema (λ k. map segment_of (get_or segments k no_list).all) r [] h

pub rows_kept : (schema : List Relation) (k : KeptLane) (r : ℕ) → r < length schema → rows_at (lane_of schema k) r ≡ map laid_row (kept_rows k r)
rows_kept schema k r h = at_relation schema (λ x. map laid_row (kept_rows k x)) r [] h
