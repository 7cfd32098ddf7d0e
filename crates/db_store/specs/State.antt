-- The state is what a store means: a dataset, and the layout of its segments if the store has one.
use Rattle.std.specs.Prelude.{ℕ, ◌/◌, ◌%◌, ◌^◌, ◌&&◌, nat_lt, nat_le, cond, List, length, take, Option, Some, None}
use Rattle.db_value.specs.declared.record.Record.{Record}
use Rattle.db_value.specs.declared.version.VersionPlace.{VersionPlace}
use Rattle.db_value.specs.declared.entry.Entry.{Entry}
use Rattle.db_store.specs.Table.{relation_at, rows_of}
use Rattle.db_store.specs.Dataset.{Dataset, apply, table_at, is_made}
use Rattle.db_store.specs.Layout.{Layout, dataset_in, records_at, segments_at}
use Rattle.db_store.specs.LayoutGrowth.{grow_layout}

-- what a store means
pub record State : Type 0 where
  pub dataset : Dataset
  pub layout : Option Layout

-- the dataset of a state
abbrev pub dataset_of : State → Dataset
dataset_of s = s.dataset

-- a dataset on its own, which has no segments
abbrev pub whole : Dataset → State
whole d = record { dataset = d; layout = None }

-- a layout, with its dataset
abbrev pub laid : Layout → State
laid l = record { dataset = dataset_in l; layout = Some l }

-- a layout, if there is one, after an entry that fits
abbrev pub layout_after : Option Layout → Entry → Option Layout
layout_after None e = None
layout_after (Some l) e = Some (grow_layout l e)

-- the state after an entry that fits
abbrev pub grow : State → Entry → State
grow s e = record { dataset = apply s.dataset e; layout = layout_after s.layout e }

-- the place that the id of a part of a whole table stands for
abbrev pub place_of_id : ℕ → VersionPlace
place_of_id id = record { branch = id / 2 ^ 32; position = id % 2 ^ 32 }

-- the records of a relation in the version that an id tells, if it is made
abbrev pub whole_records : Dataset → ℕ → ℕ → Option (List Record)
whole_records d r id =
    cond (is_made d (place_of_id id)) (Some (rows_of (relation_at (table_at d (place_of_id id)) r))) None

-- the first k records of segment s of relation r, if it has so many
abbrev pub segment_records : Layout → ℕ → ℕ → ℕ → Option (List Record)
segment_records l r s k =
    cond (nat_lt r (length l.schema) && nat_lt s (length (segments_at l.segments r)) && nat_le k (length (records_at (segments_at l.segments r) s)))
    (Some (take k (records_at (segments_at l.segments r) s))) None

-- of a dataset on its own an id tells the version; of a layout it tells the segment, and how many of its records
abbrev pub records_by : Dataset → Option Layout → ℕ → ℕ → Option (List Record)
records_by d None r id = whole_records d r id
records_by d (Some l) r id = segment_records l r (id / 2 ^ 32) (id % 2 ^ 32)

-- the records of the part with an id, in a relation, if the id is used
abbrev pub part_records : State → ℕ → ℕ → Option (List Record)
part_records s r id = records_by s.dataset s.layout r id
