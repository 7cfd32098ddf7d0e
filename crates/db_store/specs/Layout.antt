-- A layout keeps the records of all versions in segments, and for each branch rows of bits, which tell the records of each of its versions.
use Rattle.std.specs.Prelude.{ℕ, suc, ◌-◌, ◌==◌, cond, not, Bool, true, false, List, [], ◌∷◌, length, map, filter, take, codes, Option, Some, None}
use Rattle.std.specs.List.{flat_map, list_any, range_with_len}
use Rattle.std.specs.FinMap as finite
use Rattle.std.proofs.Common.{get_or}
use Rattle.db_value.specs.declared.record.Record.{Record}
use Rattle.db_value.specs.declared.schema.Relation.{Relation}
use Rattle.db_value.specs.declared.version.VersionPlace.{VersionPlace}
use Rattle.db_store.specs.Table.{Contents, Table}
use Rattle.db_store.specs.Dataset.{Version, Branch, Dataset, root}

-- a list of records to which more are only ever appended: by one branch, whose head the segment is, or by none
pub record Segment : Type 0 where
  pub head : Option ℕ
  pub records : List Record

-- what a branch has of a segment: for each position from one on, the slots whose bits its commit changes, ascending
pub record Row : Type 0 where
  pub segment : ℕ
  pub from : ℕ
  pub deltas : List (List ℕ)

-- what is kept of a branch: the second parents of its versions from position 0 on, and its rows by relation
pub record Lane : Type 0 where
  pub name : List ℕ
  pub origin : VersionPlace
  pub base : VersionPlace
  pub seconds : List (Option VersionPlace)
  pub rows : List (List Row)

-- what is kept of a dataset: a lane for each branch, the places of its versions in the order made, and segments by relation
pub record Layout : Type 0 where
  pub schema : List Relation
  pub lanes : List Lane
  pub order : List VersionPlace
  pub segments : List (List Segment)

-- what stands past the last segment
abbrev pub no_segment : Segment
no_segment = record { head = None; records = [] }

-- what stands past the last lane
abbrev pub no_lane : Lane
no_lane = record { name = []; origin = root; base = root; seconds = []; rows = [] }

-- what stands past the last record
abbrev pub no_record : Record
no_record = record { key = 0; fields = [] }

-- the lane of a branch
abbrev pub lane_at : Layout → ℕ → Lane
lane_at l b = get_or l.lanes b no_lane

-- ---- bits

-- exactly one of the two is true
abbrev pub differ : Bool → Bool → Bool
differ true b = not b
differ false b = b

-- the slot is one of these
abbrev pub has : List ℕ → ℕ → Bool
has slots slot = list_any (λ s. s == slot) slots

-- the exclusive or of deltas, at a slot
abbrev pub combined : List (List ℕ) → ℕ → Bool
combined [] slot = false
combined (d ∷ ds) slot = differ (has d slot) (combined ds slot)

-- the bit of a slot at a position; before the row begins no bit is set
abbrev pub bit : Row → ℕ → ℕ → Bool
bit row n slot = combined (take (suc n - row.from) row.deltas) slot

-- the slots below a number for which a test holds
abbrev pub slots_where : (ℕ → Bool) → ℕ → List ℕ
slots_where p count = filter p (range_with_len 0 count)

-- ---- tables

-- the records whose bits are set, of a list that begins at a slot
abbrev pub live_from : ℕ → List Record → (ℕ → Bool) → List Record
live_from slot [] p = []
live_from slot (x ∷ xs) p = cond (p slot) (x ∷ live_from (suc slot) xs p) (live_from (suc slot) xs p)

-- the records of a segment by its number
abbrev pub records_at : List Segment → ℕ → List Record
records_at ss s = (get_or ss s no_segment).records

-- the records of a segment that a row has at a position
abbrev pub live_of : List Segment → ℕ → Row → List Record
live_of ss n row = live_from 0 (records_at ss row.segment) (bit row n)

-- what rows have at a position
abbrev pub live_in : List Segment → ℕ → List Row → List Record
live_in ss n rows = flat_map (live_of ss n) rows

-- records by key
abbrev pub contents_of : List Record → Contents
contents_of [] = finite.empty
contents_of (x ∷ xs) = finite.insert (contents_of xs) x.key x.fields

-- an item for each relation of the schema
abbrev pub by_relation : {X : Type 0} → List Relation → (ℕ → X) → List X
by_relation schema f = map f (range_with_len 0 (length schema))

-- the segments of a relation
abbrev pub segments_at : List (List Segment) → ℕ → List Segment
segments_at sss r = get_or sss r []

-- the rows of a branch in a relation
abbrev pub rows_at : Lane → ℕ → List Row
rows_at lane r = get_or lane.rows r []

-- the table at a position of a branch
abbrev pub table_in : List Relation → List (List Segment) → Lane → ℕ → Table
table_in schema sss lane n = by_relation schema (λ r. contents_of (live_in (segments_at sss r) n (rows_at lane r)))

-- the versions from a position on, by their second parents
abbrev pub versions_from : (ℕ → Table) → ℕ → List (Option VersionPlace) → List Version
versions_from table n [] = []
versions_from table n (s ∷ ss) = record { table = table n; second = s } ∷ versions_from table (suc n) ss

-- the branch that a lane keeps
abbrev pub branch_of : List Relation → List (List Segment) → Lane → Branch
branch_of schema sss lane = record {
  name = lane.name;
  origin = lane.origin;
  base = lane.base;
  versions = versions_from (table_in schema sss lane) 0 lane.seconds;
}

-- the dataset of a layout
abbrev pub dataset_in : Layout → Dataset
dataset_in l = record { schema = l.schema; branches = map (branch_of l.schema l.segments) l.lanes; order = l.order }

-- ---- a new dataset

-- an empty head of a branch
abbrev pub head_segment : ℕ → Segment
head_segment b = record { head = Some b; records = [] }

-- its row, from a position on
abbrev pub head_row : ℕ → ℕ → Row
head_row segment from = record { segment = segment; from = from; deltas = [] ∷ [] }

-- master alone, with an empty head in each relation
abbrev pub new_layout : List Relation → Layout
new_layout schema = record {
  schema = schema;
  lanes = record {
    name = codes "master";
    origin = root;
    base = root;
    seconds = None ∷ [];
    rows = by_relation schema (λ r. head_row 0 0 ∷ []);
  } ∷ [];
  order = root ∷ [];
  segments = by_relation schema (λ r. head_segment 0 ∷ []);
}
