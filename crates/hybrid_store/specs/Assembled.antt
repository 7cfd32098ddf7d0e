-- What a store keeps of the parts of a layout.
use Rattle.std.specs.Prelude.{◌≡◌, ℕ, suc, ◌-◌, ◌<◌, ◌≤◌, ◌==◌, ◌^◌, List, [], ◌∷◌, ◌++◌, length, map, filter, Option, None}
use Rattle.std.specs.List.{All}
use Rattle.std.proofs.Common.{get_or}
use Rattle.db_value.specs.declared.version.VersionPlace.{VersionPlace}
use Rattle.db_store.specs.Dataset.{root}
use Rattle.db_store.specs.Fits.{most_versions}
use Rattle.db_store.specs.Layout.{by_relation}
use Rattle.hybrid_view.specs.Live.{Lived, lived_at, IsLived}
use Rattle.bit_rows.specs.Rows.{KeptRow, kept_row_at, shortest_row}
use Rattle.bit_rows.specs.Kept.{KeptLane, no_kept}
use Rattle.bit_rows.specs.Segments.{KeptRecords, KeptList, no_list, list_at, most_segments}
use Rattle.bit_rows.specs.Seen.{lived_seen, IsThere, IsSmall}
use Rattle.hybrid_store.specs.declared.made.MadeVersion.{MadeVersion}
use Rattle.hybrid_store.specs.declared.parts.BranchPart.{BranchPart}
use Rattle.hybrid_store.specs.declared.parts.RowPart.{RowPart}
use Rattle.hybrid_store.specs.declared.parts.SegmentPart.{SegmentPart}
use Rattle.hybrid_store.specs.declared.parts.LayoutParts.{LayoutParts}
use Rattle.hybrid_store.specs.Parts.{bases_from, no_branch_part, parts_of, seconds_of}

-- ---- rows

-- the rows of a branch among those of a segment with a number, each delta as short as it can be
abbrev pub rows_among : ℕ → ℕ → List RowPart → List KeptRow
rows_among b segment xs = map (λ (x : RowPart). shortest_row segment x.from x.deltas) (filter (λ (x : RowPart). x.branch == b) xs)

-- the same in segments, which are numbered from a number on
abbrev pub rows_kept_from : ℕ → ℕ → List SegmentPart → List KeptRow
rows_kept_from b segment [] = []
rows_kept_from b segment (s ∷ ss) = rows_among b segment s.rows ++ rows_kept_from b (suc segment) ss

-- the rows of a branch in a relation
abbrev pub rows_of_parts : List SegmentPart → ℕ → ℕ → List KeptRow
rows_of_parts segments b r = rows_kept_from b 0 (parts_of r segments)

-- ---- segments

-- a segment as a store keeps it
abbrev pub segment_kept : SegmentPart → KeptRecords
segment_kept s = record { head = s.head; rows = s.records }

-- the segments of a relation with one more
abbrev pub with_part : KeptList → SegmentPart → KeptList
with_part k s = record k { all = k.all ++ segment_kept s ∷ [] }

-- each of so many relations has its segments, with room for all that there can be
pub record AreLists (width : ℕ) (segments : List SegmentPart) (lists : List KeptList) : Type 0 where
  pub count : length lists ≡ width
  pub each : (r : ℕ) → r < width → list_at lists r ≡ map segment_kept (parts_of r segments)
  pub room : (r : ℕ) → r < width → most_segments ≤ (get_or lists r no_list).room

-- ---- branches

-- a branch with no regard to what its last version has, and to its room
abbrev pub bare : KeptLane → KeptLane
bare k = record k { head = []; room = 0 }

-- a branch with its version at position 0, and with nothing that this has
abbrev pub begun_bare : BranchPart → VersionPlace → List (List KeptRow) → KeptLane
begun_bare x base rows = record { name = x.name; origin = x.origin; base = base; seconds = None ∷ []; rows = rows; head = []; room = 0 }

-- what a store keeps of a branch, but for what its last version has
abbrev pub bare_of : LayoutParts → ℕ → KeptLane
bare_of p b = record {
  name = (get_or p.branches b no_branch_part).name;
  origin = (get_or p.branches b no_branch_part).origin;
  base = get_or (bases_from [] p.branches) b root;
  seconds = seconds_of b p.versions;
  rows = by_relation p.schema (λ r. rows_of_parts p.segments b r);
  head = [];
  room = 0;
}

-- ---- versions

-- what stands past the last version
abbrev pub no_made : MadeVersion
no_made = record { branch = 0; second = None }

-- a branch with one version more
abbrev pub with_second : KeptLane → Option VersionPlace → KeptLane
with_second k second = record k { seconds = k.seconds ++ second ∷ [] }

-- the place of its next version
abbrev pub next_place : KeptLane → ℕ → VersionPlace
next_place k b = record { branch = b; position = length k.seconds }

-- branches with their versions of these
pub record AreWith (old : List KeptLane) (versions : List MadeVersion) (new : List KeptLane) : Type 0 where
  pub count : length new ≡ length old
  pub each : (b : ℕ) → b < length old → get_or new b no_kept ≡ record (get_or old b no_kept) { seconds = seconds_of b versions }

-- ---- what the last version of a branch has

-- rows of segments can be seen at a position
pub record CanSeeRows (ks : List KeptRecords) (n : ℕ) (rows : List KeptRow) : Type 0 where
  pub there : (i : ℕ) → i < length rows → IsThere ks n (kept_row_at rows i)
  pub lived : IsLived (lived_seen ks n rows)
  pub keys : (lived_seen ks n rows).count < 2 ^ 32

-- those of each relation can
abbrev pub CanSeeAll : List KeptList → ℕ → List (List KeptRow) → Type 0
CanSeeAll lists n rows = (r : ℕ) → r < length rows → CanSeeRows (list_at lists r) n (get_or rows r [])

-- those of a branch can at its last position
pub record CanSeeLane (lists : List KeptList) (k : KeptLane) : Type 0 where
  pub some : 0 < length k.seconds
  pub few : length k.seconds ≤ most_versions
  pub wide : length lists ≡ length k.rows
  pub can : CanSeeAll lists (length k.seconds - 1) k.rows

-- this is seen of rows at a position
pub record IsSeenAs (ks : List KeptRecords) (n : ℕ) (rows : List KeptRow) (l : Lived) : Type 0 where
  pub seen : l ≡ lived_seen ks n rows
  pub small : All IsSmall l.pieces
  pub lived : IsLived l

-- and this of the first relations
pub record AreSeenBy (lists : List KeptList) (n : ℕ) (rows : List (List KeptRow)) (width : ℕ) (t : List Lived) : Type 0 where
  pub wide : length t ≡ width
  pub each : (r : ℕ) → r < width → IsSeenAs (list_at lists r) n (get_or rows r []) (lived_at t r)

-- a branch that is kept as told, with what is seen of its last version
pub record IsSeenLane (lists : List KeptList) (told k : KeptLane) : Type 0 where
  pub same : bare k ≡ told
  pub seen : AreSeenBy lists (length told.seconds - 1) told.rows (length told.rows) k.head
  pub room : length k.seconds ≤ k.room
