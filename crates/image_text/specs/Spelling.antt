-- The one spelling of each image in a format.
use Rattle.std.specs.Prelude.{◌≡◌, ℕ, zero, suc, ◌^◌, ◌<◌, ◌≤◌, true, List, [], ◌∷◌, ◌++◌, length, map, take, drop, Option, Some, None}
use Rattle.std.specs.List.{flat_map, All}
use Rattle.std.specs.Int.{w32, w64, to_le_bytes}
use Rattle.db_value.specs.Relations.{has_columns}
use Rattle.db_value.specs.declared.record.Record.{Record}
use Rattle.db_value.specs.declared.schema.Column.{Column}
use Rattle.db_value.specs.declared.schema.Relation.{Relation}
use Rattle.db_value.specs.declared.version.VersionPlace.{VersionPlace}
use Rattle.record_page.specs.Page.{page_bytes as page_text}
use Rattle.image_text.specs.declared.image.Format.{Format}
use Rattle.image_text.specs.declared.image.Format.TheVariants.{One, Two}
use Rattle.image_text.specs.declared.image.BranchPart.{BranchPart}
use Rattle.image_text.specs.declared.image.MadeVersion.{MadeVersion}
use Rattle.image_text.specs.declared.image.Delta.{Delta}
use Rattle.image_text.specs.declared.image.RowPart.{RowPart}
use Rattle.image_text.specs.declared.image.SegmentPart.{SegmentPart}
use Rattle.image_text.specs.declared.image.Image.{Image}
use Rattle.segment.specs.Pages.{AreWide}
use Rattle.image_text.specs.Reading.{on_page, pages_for}

-- so many things, one after another
abbrev pub counted : {A : Type 0} → (A → List ℕ) → List A → List ℕ
counted spell xs = to_le_bytes w32 (length xs) ++ flat_map spell xs

-- ---- what has a spelling

-- lengths that fit a byte, and columns of widths
pub record FitsRelation (r : Relation) : Type 0 where
  pub name : length r.name ≤ 32
  pub has : has_columns r ≡ true
  pub columns : All (λ c. length c.name ≤ 32) r.columns

-- numbers of words that fit 32 bits
abbrev pub FitsRow : RowPart → Type 0
FitsRow r = All (λ d. length d.words < 2 ^ 32) r.deltas

-- records that meet the widths, and numbers of records, rows and words that fit 32 bits
pub record FitsSegment (ws : List ℕ) (s : SegmentPart) : Type 0 where
  pub records : length s.records < 2 ^ 32
  pub wide : AreWide ws s.records
  pub few : length s.rows < 2 ^ 32
  pub rows : All FitsRow s.rows

-- so is each segment of a relation, and so is their number
pub record FitsSegments (ws : List ℕ) (ss : List SegmentPart) : Type 0 where
  pub few : length ss < 2 ^ 32
  pub each : All (FitsSegment ws) ss

-- the widths of the columns of a relation
abbrev pub widths_of : Relation → List ℕ
widths_of r = map (λ c. c.width) r.columns

-- so are the segments of each relation
abbrev pub AllFit : List Relation → List (List SegmentPart) → Type 0
AllFit [] sss = Unit {0}
AllFit (r ∷ rs) [] = Unit {0}
AllFit (r ∷ rs) (ss ∷ sss) = FitsSegments (widths_of r) ss × AllFit rs sss

-- an image has a spelling where its numbers fit; each image that is read has one
pub record Fits (i : Image) : Type 0 where
  pub relations_few : length i.relations ≤ 8
  pub relations : All FitsRelation i.relations
  pub branches_few : length i.branches < 2 ^ 32
  pub branches : All (λ b. length b.name ≤ 32) i.branches
  pub versions_few : length i.versions < 2 ^ 32
  pub same_count : length i.segments ≡ length i.relations
  pub segments : AllFit i.relations i.segments

-- ---- relations

-- a name behind its length
abbrev pub name_bytes : List ℕ → List ℕ
name_bytes name = length name ∷ name

-- the width of a column stands in format two alone
abbrev pub width_bytes : Format → ℕ → List ℕ
width_bytes One width = []
width_bytes Two width = width ∷ []

-- a name, and the width behind it
abbrev pub column_bytes : Format → Column → List ℕ
column_bytes format c = name_bytes c.name ++ width_bytes format c.width

-- a name, and the columns behind their number
abbrev pub relation_bytes : Format → Relation → List ℕ
relation_bytes format r = name_bytes r.name ++ (length r.columns ∷ flat_map (column_bytes format) r.columns)

-- all relations behind their number
abbrev pub relations_bytes : Format → List Relation → List ℕ
relations_bytes format rs = length rs ∷ flat_map (relation_bytes format) rs

-- ---- branches and versions

-- a branch and a position
abbrev pub place_bytes : VersionPlace → List ℕ
place_bytes at = to_le_bytes w32 at.branch ++ to_le_bytes w32 at.position

-- a name and the origin
abbrev pub branch_bytes : BranchPart → List ℕ
branch_bytes b = name_bytes b.name ++ place_bytes b.origin

-- a flag, and behind a 1 the second parent
abbrev pub second_bytes : Option VersionPlace → List ℕ
second_bytes None = 0 ∷ []
second_bytes (Some at) = 1 ∷ place_bytes at

-- the branch and the second parent
abbrev pub version_bytes : MadeVersion → List ℕ
version_bytes v = to_le_bytes w32 v.branch ++ second_bytes v.second

-- ---- pages

-- a page of these widths with these records
unfoldable pub page_bytes : List ℕ → List Record → List ℕ
page_bytes ws xs = page_text (record { widths = ws; records = xs })

-- so many pages, full but the last
abbrev pub pages_bytes : List ℕ → ℕ → List Record → List ℕ
pages_bytes ws zero xs = []
pages_bytes ws (suc k) xs = page_bytes ws (take (on_page ws (length xs)) xs) ++ pages_bytes ws k (drop (on_page ws (length xs)) xs)

-- ---- rows and segments

-- a word, the lowest byte first
abbrev pub word_bytes : ℕ → List ℕ
word_bytes w = to_le_bytes w64 w

-- where the words begin, and these behind their number
abbrev pub delta_bytes : Delta → List ℕ
delta_bytes d = to_le_bytes w32 d.first ++ counted word_bytes d.words

-- the branch, the first position and the deltas
abbrev pub row_bytes : RowPart → List ℕ
row_bytes r = to_le_bytes w32 r.branch ++ (to_le_bytes w32 r.from ++ flat_map delta_bytes r.deltas)

-- whose head it is, the number of records, their pages, and the rows behind their number
abbrev pub segment_bytes : List ℕ → SegmentPart → List ℕ
segment_bytes ws s = to_le_bytes w32 s.head ++ (to_le_bytes w32 (length s.records) ++ (pages_bytes ws (pages_for ws (length s.records)) s.records ++ counted row_bytes s.rows))

-- for each relation its segments
abbrev pub segments_bytes : List Relation → List (List SegmentPart) → List ℕ
segments_bytes [] sss = []
segments_bytes (r ∷ rs) [] = []
segments_bytes (r ∷ rs) (ss ∷ sss) = counted (segment_bytes (widths_of r)) ss ++ segments_bytes rs sss

-- ---- the image

-- relations, branches, versions, and the segments of each relation
unfoldable pub spelling : Format → Image → List ℕ
spelling format i = relations_bytes format i.relations ++ (counted branch_bytes i.branches ++ (counted version_bytes i.versions ++ segments_bytes i.relations i.segments))
