-- The image of a layout.
use Rattle.std.specs.Prelude.{ℕ, zero, suc, ◌+◌, ◌-◌, ◌*◌, ◌/◌, Bool, List, [], ◌∷◌, length, map, Option, Some, None}
use Rattle.std.specs.List.{flat_map, range_with_len}
use Rattle.db_store.specs.Layout.{Lane, Layout, has, lane_at, records_at, segments_at, by_relation}
use Rattle.db_store.specs.LaidOut.{head_at}
use Rattle.bit_rows.specs.Short.{end_of}
use Rattle.hybrid_store.specs.declared.made.MadeVersion.{MadeVersion as VersionLaid}
use Rattle.hybrid_store.specs.Readers.{made_version, row_from, row_deltas}
use Rattle.image_text.specs.declared.image.BranchPart.{BranchPart}
use Rattle.image_text.specs.declared.image.MadeVersion.{MadeVersion}
use Rattle.image_text.specs.declared.image.Delta.{Delta}
use Rattle.image_text.specs.declared.image.RowPart.{RowPart}
use Rattle.image_text.specs.declared.image.SegmentPart.{SegmentPart}
use Rattle.image_text.specs.declared.image.Image.{Image}
use Rattle.image_text.specs.Reading.{words_for}
use Rattle.image_parts.specs.Walk.{weigh}

-- ---- branches and versions

-- a branch, as an image has it
abbrev pub branch_image : Lane → BranchPart
branch_image lane = record { name = lane.name; origin = lane.origin }

-- the branches
abbrev pub branches_image : Layout → List BranchPart
branches_image l = map (λ b. branch_image (lane_at l b)) (range_with_len 0 (length l.lanes))

-- a version, as an image has it
abbrev pub version_image : VersionLaid → MadeVersion
version_image v = record { branch = v.branch; second = v.second }

-- the versions after the root, in the order made
abbrev pub versions_image : Layout → List MadeVersion
versions_image l = map (λ i. version_image (made_version l i)) (range_with_len 0 (length l.order - 1))

-- ---- deltas

-- the number whose lowest bits are set where a test holds of the slots from one on, with so many bits
unfoldable pub number_of : (ℕ → Bool) → ℕ → ℕ → ℕ
number_of p slot zero = 0
number_of p slot (suc n) = weigh (p slot) + 2 * number_of p (suc slot) n

-- the word with a number: its bits are those of the 64 slots from 64 times the number on
abbrev pub word_in : List ℕ → ℕ → ℕ
word_in slots at = number_of (has slots) (64 * at) 64

-- the number of the word that has the first of the slots, and 0 without slots
abbrev pub first_word : List ℕ → ℕ
first_word [] = 0
first_word (s ∷ ss) = s / 64

-- one past the number of the word that has the last of the slots, and 0 without slots
abbrev pub end_word : List ℕ → ℕ
end_word slots = words_for (end_of slots)

-- a delta of these slots, which ascend: the words from the one with the first slot to the one with the last
abbrev pub delta_image : List ℕ → Delta
delta_image slots = record {
  first = first_word slots;
  words = map (word_in slots) (range_with_len (first_word slots) (end_word slots - first_word slots));
}

-- ---- rows and segments

-- the row of a branch from a position on, if there is one
abbrev pub row_with : ℕ → Option ℕ → List (List ℕ) → List RowPart
row_with b None deltas = []
row_with b (Some from) deltas = record { branch = b; from = from; deltas = map delta_image deltas } ∷ []

-- the row that a branch has of a segment of a relation, if it has one
abbrev pub row_image : Layout → ℕ → ℕ → ℕ → List RowPart
row_image l r s b = row_with b (row_from l r s b) (row_deltas l r s b)

-- the rows of a segment, by ascending branch
abbrev pub rows_image : Layout → ℕ → ℕ → List RowPart
rows_image l r s = flat_map (row_image l r s) (range_with_len 0 (length l.lanes))

-- how an image tells the branch whose head a segment is: none by 0, and each other one by one more than its number
abbrev pub head_image : Option ℕ → ℕ
head_image None = 0
head_image (Some b) = suc b

-- a segment of a relation
abbrev pub segment_image : Layout → ℕ → ℕ → SegmentPart
segment_image l r s = record {
  head = head_image (head_at (segments_at l.segments r) s);
  records = records_at (segments_at l.segments r) s;
  rows = rows_image l r s;
}

-- the segments of a relation
abbrev pub segments_image : Layout → ℕ → List SegmentPart
segments_image l r = map (segment_image l r) (range_with_len 0 (length (segments_at l.segments r)))

-- ---- the image

-- relations, branches, versions, and the segments of each relation
abbrev pub image_of : Layout → Image
image_of l = record {
  relations = l.schema;
  branches = branches_image l;
  versions = versions_image l;
  segments = by_relation l.schema (segments_image l);
}
