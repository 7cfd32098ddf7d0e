-- What a store of segments means.
use Rattle.std.specs.Prelude.{ℕ}
use Rattle.db_store.specs.Dataset.{Dataset}
use Rattle.db_store.specs.Layout.{Layout}
use Rattle.db_store.specs.State.{State, laid}
use Rattle.hybrid_store.specs.declared.store.HybridStore.{HybridStore}
use Rattle.hybrid_store.specs.Lanes.{kept_layout}
use Rattle.hybrid_store.specs.Stored.{kept_dataset}

-- the layout that a store keeps
abbrev pub layout_of : HybridStore → Layout
layout_of s = kept_layout s.schema s.lanes.items s.order.items s.segments.items

-- the dataset of this layout
abbrev pub dataset_in : HybridStore → Dataset
dataset_in s = kept_dataset s.schema s.lanes.items s.order.items s.segments.items

-- its state, which is the layout
abbrev pub state_of : HybridStore → State
state_of s = laid (layout_of s)

-- for how many commits more there is room
abbrev pub spare_of : HybridStore → ℕ
spare_of s = s.spare
