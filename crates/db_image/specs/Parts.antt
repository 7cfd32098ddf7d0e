-- The parts of a layout that an image stands for.
use Rattle.std.specs.Prelude.{ℕ, zero, suc, ◌-◌, ◌^◌, ◌<◌, Bool, List, [], ◌∷◌, ◌++◌, length, map, filter, Option, Some, None}
use Rattle.std.specs.List.{All, range_with_len}
use Rattle.segment.specs.Pages.{AreWide}
use Rattle.std.proofs.Common.{get_or}
use Rattle.db_value.specs.Relations.{widths_at}
use Rattle.db_value.specs.declared.schema.Relation.{Relation}
use Rattle.hybrid_store.specs.declared.made.MadeVersion.{MadeVersion as VersionLaid}
use Rattle.hybrid_store.specs.declared.parts.BranchPart.{BranchPart as BranchLaid}
use Rattle.hybrid_store.specs.declared.parts.RowPart.{RowPart as RowLaid}
use Rattle.hybrid_store.specs.declared.parts.SegmentPart.{SegmentPart as SegmentLaid}
use Rattle.hybrid_store.specs.declared.parts.LayoutParts.{LayoutParts}
use Rattle.image_text.specs.declared.image.BranchPart.{BranchPart}
use Rattle.image_text.specs.declared.image.MadeVersion.{MadeVersion}
use Rattle.image_text.specs.declared.image.Delta.{Delta}
use Rattle.image_text.specs.declared.image.RowPart.{RowPart}
use Rattle.image_text.specs.declared.image.SegmentPart.{SegmentPart}
use Rattle.image_text.specs.declared.image.Image.{Image}
use Rattle.image_parts.specs.Whole.{delta_bit}

-- a branch, as the layout has it
abbrev pub branch_part : BranchPart → BranchLaid
branch_part x = record { name = x.name; origin = x.origin }

-- a version, as the layout has it
abbrev pub version_part : MadeVersion → VersionLaid
version_part v = record { branch = v.branch; second = v.second }

-- the bits of a delta over so many records
abbrev pub bits_of : ℕ → Delta → List Bool
bits_of size d = map (delta_bit d) (range_with_len 0 size)

-- a row over so many records, as the layout has it
abbrev pub row_part : ℕ → RowPart → RowLaid
row_part size x = record { branch = x.branch; from = x.from; deltas = map (bits_of size) x.deltas }

-- a row has fewer deltas than a history can have
abbrev pub IsShort : RowPart → Type 0
IsShort x = length x.deltas < 2 ^ 32 - 1

-- the branch that a number tells: none by 0, and each other one by one more than its own
abbrev pub head_part : ℕ → Option ℕ
head_part zero = None
head_part (suc b) = Some b

-- a segment of a relation with these widths, as the layout has it
abbrev pub segment_with : ℕ → List ℕ → SegmentPart → SegmentLaid
segment_with r ws s = record {
  relation = r;
  head = head_part s.head;
  records = record { widths = ws; records = s.records };
  rows = map (row_part (length s.records)) s.rows;
}

-- the same, by the relations
abbrev pub segment_part : List Relation → ℕ → SegmentPart → SegmentLaid
segment_part relations r s = segment_with r (widths_at relations r) s

-- a segment is such that a layout can have it: its records meet the widths, and its numbers fit
pub record Fits (ws : List ℕ) (s : SegmentPart) : Type 0 where
  pub wide : AreWide ws s.records
  pub few : length s.records < 2 ^ 32
  pub short : All IsShort s.rows

-- the segments by relation, from one with a number on, in one list
abbrev pub segments_from : List Relation → ℕ → List (List SegmentPart) → List SegmentLaid
segments_from relations r [] = []
segments_from relations r (ss ∷ sss) = map (segment_part relations r) ss ++ segments_from relations (suc r) sss

-- those of each relation fit
abbrev pub AllFit : List Relation → List (List SegmentPart) → Type 0
AllFit relations sss = (r : ℕ) → r < length sss → All (Fits (widths_at relations r)) (get_or sss r [])

-- the parts that an image stands for
abbrev pub parts_of : Image → LayoutParts
parts_of i = record {
  schema = i.relations;
  branches = map branch_part i.branches;
  versions = map version_part i.versions;
  segments = segments_from i.relations 0 i.segments;
}
