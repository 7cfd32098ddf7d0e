-- The layout of parts, and the rules that parts of a layout keep.
use Rattle.std.specs.Prelude.{◌≡◌, ℕ, suc, ◌*◌, ◌<◌, ◌==◌, cond, List, [], ◌∷◌, ◌++◌, length, map, filter, Option, None}
use Rattle.std.specs.List.{range_with_len}
use Rattle.std.proofs.Common.{get_or}
use Rattle.db_value.specs.Relations.{widths_at}
use Rattle.db_value.specs.declared.version.VersionPlace.{VersionPlace}
use Rattle.db_store.specs.Dataset.{root}
use Rattle.db_store.specs.Sound.{IsSound}
use Rattle.db_store.specs.Counted.{IsCounted}
use Rattle.db_store.specs.Order.{IsOrdered}
use Rattle.db_store.specs.LaidOut.{IsLaid}
use Rattle.db_store.specs.Layout.{Segment, Row, Lane, Layout, by_relation, dataset_in}
use Rattle.hybrid_view.specs.Deltas.{slots_of}
use Rattle.hybrid_store.specs.declared.made.MadeVersion.{MadeVersion}
use Rattle.hybrid_store.specs.declared.parts.BranchPart.{BranchPart}
use Rattle.hybrid_store.specs.declared.parts.RowPart.{RowPart}
use Rattle.hybrid_store.specs.declared.parts.SegmentPart.{SegmentPart}
use Rattle.hybrid_store.specs.declared.parts.LayoutParts.{LayoutParts}

-- ---- versions

-- the versions of a branch after its position 0
abbrev pub versions_of : ℕ → List MadeVersion → List MadeVersion
versions_of b versions = filter (λ (v : MadeVersion). v.branch == b) versions

-- the places of versions, each the next one of its branch after those before it
abbrev pub places_from : List MadeVersion → List MadeVersion → List VersionPlace
places_from before [] = []
places_from before (v ∷ vs) = record { branch = v.branch; position = suc (length (versions_of v.branch before)) } ∷ places_from (before ++ v ∷ []) vs

-- the versions in the order made, the root first
abbrev pub order_of : List MadeVersion → List VersionPlace
order_of versions = root ∷ places_from [] versions

-- the second parents of a branch's versions, from position 0 on
abbrev pub seconds_of : ℕ → List MadeVersion → List (Option VersionPlace)
seconds_of b versions = None ∷ map (λ (v : MadeVersion). v.second) (versions_of b versions)

-- ---- branches

-- the version that stands at a place, if these are the versions at position 0 of the branches
abbrev pub base_in : List VersionPlace → VersionPlace → VersionPlace
base_in bases at = cond (at.position == 0) (get_or bases at.branch root) at

-- the versions at position 0 of branches, after those of earlier branches
abbrev pub bases_from : List VersionPlace → List BranchPart → List VersionPlace
bases_from bases [] = bases
bases_from bases (x ∷ xs) = bases_from (bases ++ base_in bases x.origin ∷ []) xs

-- ---- segments

-- those of a relation
abbrev pub parts_of : ℕ → List SegmentPart → List SegmentPart
parts_of r segments = filter (λ (s : SegmentPart). s.relation == r) segments

-- a segment as the layout has it
abbrev pub segment_laid : SegmentPart → Segment
segment_laid s = record { head = s.head; records = s.records.records }

-- a row of a segment with a number, as the layout has it
abbrev pub row_laid : ℕ → RowPart → Row
row_laid segment x = record { segment = segment; from = x.from; deltas = map slots_of x.deltas }

-- the rows of a branch in segments, which are numbered from a number on
abbrev pub rows_from : ℕ → ℕ → List SegmentPart → List Row
rows_from b segment [] = []
rows_from b segment (s ∷ ss) = map (row_laid segment) (filter (λ (x : RowPart). x.branch == b) s.rows) ++ rows_from b (suc segment) ss

-- ---- the layout

-- what stands past the last branch
abbrev pub no_branch_part : BranchPart
no_branch_part = record { name = []; origin = root }

-- the lane of a branch
abbrev pub lane_laid : LayoutParts → ℕ → Lane
lane_laid p b = record {
  name = (get_or p.branches b no_branch_part).name;
  origin = (get_or p.branches b no_branch_part).origin;
  base = get_or (bases_from [] p.branches) b root;
  seconds = seconds_of b p.versions;
  rows = by_relation p.schema (λ r. rows_from b 0 (parts_of r p.segments));
}

-- the layout of parts
abbrev pub layout_of_parts : LayoutParts → Layout
layout_of_parts p = record {
  schema = p.schema;
  lanes = map (lane_laid p) (range_with_len 0 (length p.branches));
  order = order_of p.versions;
  segments = by_relation p.schema (λ r. map segment_laid (parts_of r p.segments));
}

-- ---- what parts of a layout keep

-- what stands past the last segment
abbrev pub no_segment_part : SegmentPart
no_segment_part = record { relation = 0; head = None; records = record { widths = []; records = [] }; rows = [] }

-- the layout is one that entries can be added to: its lanes and its dataset keep their rules, a relation has fewer than two segments for
-- each branch, and each segment is of a relation, with the widths of its columns
pub record AreSound (p : LayoutParts) : Type 0 where
  pub laid : IsLaid (layout_of_parts p)
  pub sound : IsSound (dataset_in (layout_of_parts p))
  pub counted : IsCounted (dataset_in (layout_of_parts p))
  pub ordered : IsOrdered (dataset_in (layout_of_parts p))
  pub few : (r : ℕ) → r < length p.schema → length (parts_of r p.segments) < 2 * length p.branches
  pub there : (i : ℕ) → i < length p.segments → (get_or p.segments i no_segment_part).relation < length p.schema
  pub widths : (i : ℕ) → i < length p.segments → (get_or p.segments i no_segment_part).records.widths ≡ widths_at p.schema (get_or p.segments i no_segment_part).relation
