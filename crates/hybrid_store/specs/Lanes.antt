-- The layout of what a store keeps.
use Rattle.std.specs.Prelude.{List, map}
use Rattle.std.proofs.Common.{get_or}
use Rattle.db_value.specs.declared.schema.Relation.{Relation}
use Rattle.db_value.specs.declared.version.VersionPlace.{VersionPlace}
use Rattle.db_store.specs.Layout.{Segment, Lane, Layout, by_relation}
use Rattle.bit_rows.specs.Rows.{laid_row}
use Rattle.bit_rows.specs.Kept.{KeptLane, kept_rows}
use Rattle.bit_rows.specs.Segments.{KeptRecords, KeptList, no_list}

-- a segment as the layout has it
abbrev pub segment_of : KeptRecords → Segment
segment_of k = record { head = k.head; records = k.rows.records }

-- a branch as the layout has it
abbrev pub lane_of : List Relation → KeptLane → Lane
lane_of schema k = record {
  name = k.name;
  origin = k.origin;
  base = k.base;
  seconds = k.seconds;
  rows = by_relation schema (λ r. map laid_row (kept_rows k r));
}

-- the layout of branches and segments
abbrev pub kept_layout : List Relation → List KeptLane → List VersionPlace → List KeptList → Layout
kept_layout schema lanes order segments = record {
  schema = schema;
  lanes = map (lane_of schema) lanes;
  order = order;
  segments = by_relation schema (λ r. map segment_of (get_or segments r no_list).all);
}
