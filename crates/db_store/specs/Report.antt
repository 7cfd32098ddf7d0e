-- The segments of a state, told as lines.
use Rattle.std.specs.Prelude.{ℕ, ◌==◌, cond, List, [], ◌∷◌, length, map, Option, Some, None}
use Rattle.std.specs.List.{flat_map, range_with_len}
use Rattle.std.proofs.Common.{get_or}
use Rattle.db_value.specs.declared.schema.Relation.{Relation}
use Rattle.db_value.specs.declared.report.LayoutLine.{LayoutLine}
use Rattle.db_value.specs.declared.report.Live.{Live}
use Rattle.db_store.specs.Layout.{Segment, Row, Lane, Layout, no_segment, lane_at, live_of, segments_at, rows_at}
use Rattle.db_store.specs.LayoutGrowth.{last_in}
use Rattle.db_store.specs.State.{State}

-- the name of a relation
abbrev pub relation_name : List Relation → ℕ → List ℕ
relation_name schema r = (get_or schema r (record { name = []; columns = [] })).name

-- how many records of a segment a branch has at its last position, where it has a row of it
abbrev pub lives_in : List Segment → List ℕ → ℕ → ℕ → List Row → List Live
lives_in ss name last s [] = []
lives_in ss name last s (row ∷ rows) =
    cond (row.segment == s) (record { branch = name; bits = length (live_of ss last row) } ∷ lives_in ss name last s rows) (lives_in ss name last s rows)

-- the same of every branch that has a row of the segment, in the order made
abbrev pub lives_at : Layout → ℕ → ℕ → List Live
lives_at l r s = flat_map (λ (lane : Lane). lives_in (segments_at l.segments r) lane.name (last_in lane) s (rows_at lane r)) l.lanes

-- the name of the branch whose head a segment is, if it is one
abbrev pub head_name : Layout → Option ℕ → Option (List ℕ)
head_name l None = None
head_name l (Some b) = Some (lane_at l b).name

-- what is told of a segment: its relation and number, whose head it is, how many records it has, and which of them are live in which branch
abbrev pub segment_line : Layout → ℕ → ℕ → LayoutLine
segment_line l r s = record {
  relation = relation_name l.schema r;
  index = s;
  head = head_name l (get_or (segments_at l.segments r) s no_segment).head;
  records = length (get_or (segments_at l.segments r) s no_segment).records;
  live = lives_at l r s;
}

-- a line for each segment, by relation and then by number
abbrev pub segment_lines : Layout → List LayoutLine
segment_lines l = flat_map (λ r. map (segment_line l r) (range_with_len 0 (length (segments_at l.segments r))))
    (range_with_len 0 (length l.schema))

-- the lines of a layout, if there is one
abbrev pub lines_if : Option Layout → List LayoutLine
lines_if None = []
lines_if (Some l) = segment_lines l

-- the segment lines of a state, none if it has no layout
abbrev pub lines_of : State → List LayoutLine
lines_of s = lines_if s.layout
