-- A layout after an entry: a commit appends to the heads of its branch, and a new branch copies no record.
use Rattle.std.specs.Prelude.{ℕ, suc, ◌-◌, ◌==◌, ◌&&◌, cond, not, nat_lt, Bool, true, false, List, [], ◌∷◌, ◌++◌, length, map, set, Option, Some, None}
use Rattle.std.specs.List.{flat_map, list_any}
use Rattle.std.proofs.Common.{get_or}
use Rattle.db_value.specs.Value.{Value}
use Rattle.db_value.specs.declared.record.Record.{Record}
use Rattle.db_value.specs.declared.version.VersionPlace.{VersionPlace}
use Rattle.db_value.specs.declared.entry.Change.{Change}
use Rattle.db_value.specs.declared.entry.Entry.{Entry}
use Rattle.db_value.specs.declared.entry.Entry.TheVariants.{Commit, Branch as NewBranch}
use Rattle.db_store.specs.Layout.{Segment, Row, Lane, Layout, lane_at, no_record, differ, bit, slots_where, records_at, by_relation, segments_at, rows_at, head_segment, head_row}

-- ---- a commit

-- the segment is the head of the branch
abbrev pub is_head_of : ℕ → Option ℕ → Bool
is_head_of b None = false
is_head_of b (Some c) = b == c

-- a record in front of others, if a change of this relation puts one
abbrev pub put_before : Bool → ℕ → Option (List Value) → List Record → List Record
put_before true key (Some fields) rest = record { key = key; fields = fields } ∷ rest
put_before true key None rest = rest
put_before false key state rest = rest

-- the records that changes put into a relation
abbrev pub puts : List Change → ℕ → List Record
puts [] r = []
puts (c ∷ cs) r = put_before (c.relation == r) c.key c.fields (puts cs r)

-- the changes touch a key
abbrev pub touches : List Change → ℕ → ℕ → Bool
touches cs r key = list_any (λ c. c.relation == r && c.key == key) cs

-- a segment after a commit of a branch: what is put is appended to the branch's head
abbrev pub segment_after : ℕ → List Record → Segment → Segment
segment_after b new s = record { head = s.head; records = cond (is_head_of b s.head) (s.records ++ new) s.records }

-- the bit of a slot after changes: it is cleared if the key of its record is touched, and set if the record is new
abbrev pub bit_after : List Record → (ℕ → Bool) → (ℕ → Bool) → ℕ → Bool
bit_after old touched before slot = cond (nat_lt slot (length old)) (before slot && not (touched (get_or old slot no_record).key)) true

-- a row with one delta more: the slots whose bits the changes turn
abbrev pub row_after : List Segment → List Segment → (ℕ → Bool) → ℕ → Row → Row
row_after old new touched n row = record {
  segment = row.segment;
  from = row.from;
  deltas = row.deltas ++ slots_where (λ slot. differ (bit row n slot) (bit_after (records_at old row.segment) touched (bit row n) slot))
      (length (records_at new row.segment)) ∷ [];
}

-- all segments after a commit of a branch
abbrev pub segments_after : Layout → ℕ → List Change → List (List Segment)
segments_after l b changes = by_relation l.schema (λ r. map (segment_after b (puts changes r)) (segments_at l.segments r))

-- the last position of a branch
abbrev pub last_in : Lane → ℕ
last_in lane = length lane.seconds - 1

-- the lane of the branch after its commit, given the segments after it
abbrev pub lane_after : Layout → List (List Segment) → Lane → Option VersionPlace → List Change → Lane
lane_after l new lane second changes = record {
  name = lane.name;
  origin = lane.origin;
  base = lane.base;
  seconds = lane.seconds ++ second ∷ [];
  rows = by_relation l.schema
      (λ r. map (row_after (segments_at l.segments r) (segments_at new r) (touches changes r) (last_in lane)) (rows_at lane r));
}

-- the layout after a commit
abbrev pub after_commit : Layout → ℕ → Option VersionPlace → List Change → Layout
after_commit l b second changes = record {
  schema = l.schema;
  lanes = set l.lanes b (lane_after l (segments_after l b changes) (lane_at l b) second changes);
  order = l.order ++ record { branch = b; position = length (lane_at l b).seconds } ∷ [];
  segments = segments_after l b changes;
}

-- ---- a new branch

-- a row that begins with these slots at position 0, if there are some
abbrev pub row_of : ℕ → List ℕ → List Row
row_of segment [] = []
row_of segment (s ∷ ss) = record { segment = segment; from = 0; deltas = (s ∷ ss) ∷ [] } ∷ []

-- the row that a new branch has of a row at a position
abbrev pub carried : List Segment → ℕ → Row → List Row
carried ss n row = row_of row.segment (slots_where (bit row n) (length (records_at ss row.segment)))

-- a segment as it is, or as one that is no branch's head
abbrev pub internal_if : Bool → Segment → Segment
internal_if true s = record { head = None; records = s.records }
internal_if false s = s

-- a segment that becomes internal if it is the branch's head
abbrev pub without_head : ℕ → Segment → Segment
without_head b s = internal_if (is_head_of b s.head) s

-- the segments after a new branch c, of the last position of branch b, which gets a new head too, or of an older one
abbrev pub segments_with : Bool → ℕ → ℕ → List Segment → List Segment
segments_with true b c ss = map (without_head b) ss ++ head_segment b ∷ head_segment c ∷ []
segments_with false b c ss = ss ++ head_segment c ∷ []

-- the rows of b, which has a new head after its last position was branched
abbrev pub rows_with : Bool → ℕ → List Segment → List Row → List Row
rows_with true n ss rows = rows ++ head_row (length ss) n ∷ []
rows_with false n ss rows = rows

-- the number of the head of c
abbrev pub new_head : Bool → List Segment → ℕ
new_head true ss = suc (length ss)
new_head false ss = length ss

-- the rows of c: one for each row of b that has a bit set, and that of its head
abbrev pub rows_begun : Bool → ℕ → List Segment → List Row → List Row
rows_begun at_head n ss rows = flat_map (carried ss n) rows ++ head_row (new_head at_head ss) 0 ∷ []

-- the lane of b after it was branched at a position
abbrev pub lane_with : Layout → Bool → Lane → ℕ → Lane
lane_with l at_head lane n = record {
  name = lane.name;
  origin = lane.origin;
  base = lane.base;
  seconds = lane.seconds;
  rows = by_relation l.schema (λ r. rows_with at_head n (segments_at l.segments r) (rows_at lane r));
}

-- the proper name of the version at a place
abbrev pub made_at : Layout → VersionPlace → VersionPlace
made_at l at = cond (at.position == 0) (lane_at l at.branch).base at

-- the lane of the new branch
abbrev pub lane_begun : Layout → Bool → List ℕ → VersionPlace → Lane
lane_begun l at_head name origin = record {
  name = name;
  origin = origin;
  base = made_at l origin;
  seconds = None ∷ [];
  rows = by_relation l.schema
      (λ r. rows_begun at_head origin.position (segments_at l.segments r) (rows_at (lane_at l origin.branch) r));
}

-- the layout after a new branch
abbrev pub with_branch : Layout → Bool → List ℕ → VersionPlace → Layout
with_branch l at_head name origin = record {
  schema = l.schema;
  lanes = set l.lanes origin.branch (lane_with l at_head (lane_at l origin.branch) origin.position) ++ lane_begun l at_head name origin ∷ [];
  order = l.order;
  segments = by_relation l.schema (λ r. segments_with at_head origin.branch (length l.lanes) (segments_at l.segments r));
}

-- the place is the last one of its branch
abbrev pub is_last : Layout → VersionPlace → Bool
is_last l at = at.position == last_in (lane_at l at.branch)

-- the layout after an entry that fits
abbrev pub grow_layout : Layout → Entry → Layout
grow_layout l (Commit b second changes) = after_commit l b second changes
grow_layout l (NewBranch name origin) = with_branch l (is_last l origin) name origin
