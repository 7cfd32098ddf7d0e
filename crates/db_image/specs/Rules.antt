-- The rules of an image, part by part.
use Rattle.std.specs.Prelude.{◌≡◌, ℕ, suc, ◌+◌, ◌-◌, ◌*◌, ◌^◌, ◌<◌, ◌≤◌, ◌==◌, ◌||◌, Bool, true, false, List, [], ◌∷◌, ◌++◌, length, set, take, replicate, Option, Some, None}
use Rattle.std.specs.List.{All, list_all}
use Rattle.db_value.specs.Text.{is_name}
use Rattle.db_value.specs.Schema.{is_declared}
use Rattle.db_value.specs.Width.{is_width}
use Rattle.db_value.specs.Relations.{widths_at}
use Rattle.db_value.specs.declared.schema.Column.{Column}
use Rattle.db_value.specs.declared.schema.Relation.{Relation}
use Rattle.db_value.specs.declared.version.VersionPlace.{VersionPlace}
use Rattle.record_page.specs.Page.{IsRecord}
use Rattle.image_text.specs.declared.image.Format.{Format}
use Rattle.image_text.specs.declared.image.Format.TheVariants.{One, Two}
use Rattle.image_text.specs.declared.image.BranchPart.{BranchPart}
use Rattle.image_text.specs.declared.image.MadeVersion.{MadeVersion}
use Rattle.image_text.specs.declared.image.Delta.{Delta}
use Rattle.image_text.specs.declared.image.RowPart.{RowPart}
use Rattle.image_text.specs.declared.image.SegmentPart.{SegmentPart}
use Rattle.image_text.specs.declared.image.Image.{Image}
use Rattle.image_text.specs.Reading.{has_column, has_turn, is_earlier, is_position, base_of, last_of, is_begun, spans, are_words, rises, are_blank, has_room}
use Rattle.image_parts.specs.Whole.{is_whole}

-- each item keeps a rule that knows what those before it made
abbrev pub EachNext : {S A : Type 0} → (S → A → S) → (S → A → Type 0) → S → List A → Type 0
EachNext next P s [] = Unit {0}
EachNext next P s (x ∷ xs) = P s x × EachNext next P (next s x) xs

-- what items make, one after another
abbrev pub after : {S A : Type 0} → (S → A → S) → S → List A → S
after next s [] = s
after next s (x ∷ xs) = after next (next s x) xs

-- an item after others
abbrev pub onto : {A : Type 0} → List A → A → List A
onto seen x = seen ++ x ∷ []

-- ---- relations

-- a column of a width, with a name that none of those before it has
pub record IsNextColumn (seen : List Column) (c : Column) : Type 0 where
  pub name : is_name c.name ≡ true
  pub fresh : has_column seen c.name ≡ false
  pub width : is_width c.width ≡ true

-- a relation of a new name, with one to 15 columns
pub record IsNextRelation (seen : List Relation) (r : Relation) : Type 0 where
  pub name : is_name r.name ≡ true
  pub fresh : is_declared seen r.name ≡ false
  pub some : 0 < length r.columns
  pub few : length r.columns ≤ 15
  pub columns : EachNext onto IsNextColumn [] r.columns

-- a format tells the widths of the columns: format two always, and format one if all are of numbers
abbrev pub tells : Format → List Relation → Bool
tells One rs = list_all (λ r. list_all (λ c. c.width == 0) r.columns) rs
tells Two rs = true

-- ---- branches and versions

-- a place with numbers of 32 bits
pub record IsPlace (at : VersionPlace) : Type 0 where
  pub branch : at.branch < 2 ^ 32
  pub position : at.position < 2 ^ 32

-- the branches so far and the versions at their positions 0, with one branch more
abbrev pub branch_next : List BranchPart × List VersionPlace → BranchPart → List BranchPart × List VersionPlace
branch_next seen b = (seen.0 ++ b ∷ [], seen.1 ++ base_of seen.1 b.origin ∷ [])

-- a branch may come after those before it
pub record IsNextBranch (seen : List BranchPart × List VersionPlace) (b : BranchPart) : Type 0 where
  pub name : is_name b.name ≡ true
  pub turn : has_turn seen.0 b.name ≡ true
  pub origin : IsPlace b.origin
  pub earlier : is_earlier seen.0 b.origin.branch ≡ true
  pub position : is_position seen.0 b.origin.position ≡ true

-- the last positions and the versions so far, with one version more
abbrev pub version_next : List ℕ × List MadeVersion → MadeVersion → List ℕ × List MadeVersion
version_next seen v = (set seen.0 v.branch (last_of seen.0 v.branch + 1), seen.1 ++ v ∷ [])

-- a second parent, if there is one, was made
abbrev pub IsSecond : List VersionPlace → List ℕ → Option VersionPlace → Type 0
IsSecond bases lasts None = Unit {0}
IsSecond bases lasts (Some at) = IsPlace at × (is_begun bases lasts at.branch ≡ true) × (at.position ≤ last_of lasts at.branch)

-- a version may come after those before it
pub record IsNextVersion (bases : List VersionPlace) (seen : List ℕ × List MadeVersion) (v : MadeVersion) : Type 0 where
  pub branch : v.branch < 2 ^ 32
  pub begun : is_begun bases seen.0 v.branch ≡ true
  pub few : last_of seen.0 v.branch < 65535
  pub second : IsSecond bases seen.0 v.second

-- ---- rows and segments

-- a delta of so many records: its words are those from the first to the last that isn't zero
pub record IsDelta (size : ℕ) (d : Delta) : Type 0 where
  pub first : d.first < 2 ^ 32
  pub few : length d.words < 2 ^ 32
  pub within : spans size d.first (length d.words) ≡ true
  pub words : All (λ w. w < 2 ^ 64) d.words
  pub full : are_words size d.first d.words ≡ true

-- a row of a later branch, with a delta for each position from its first one on; that one has no words, unless it is position 0
pub record IsNextRow (lasts : List ℕ) (size : ℕ) (seen : List RowPart) (r : RowPart) : Type 0 where
  pub branch : r.branch < 2 ^ 32
  pub there : r.branch < length lasts
  pub rises : rises seen r.branch ≡ true
  pub from : r.from < 2 ^ 32
  pub within : r.from ≤ last_of lasts r.branch
  pub full : length r.deltas ≡ suc (last_of lasts r.branch - r.from)
  pub blank : (r.from == 0 || are_blank (take 1 r.deltas)) ≡ true
  pub deltas : All (IsDelta size) r.deltas

-- a segment for records of these widths
pub record IsSegment (ws : List ℕ) (lasts : List ℕ) (s : SegmentPart) : Type 0 where
  pub head : s.head < 2 ^ 32
  pub there : s.head ≤ length lasts
  pub few : length s.records < 2 ^ 32
  pub room : has_room lasts s.head (length s.records) ≡ true
  pub records : All (IsRecord ws) s.records
  pub few_rows : length s.rows < 2 ^ 32
  pub rows_within : length s.rows ≤ length lasts
  pub rows : EachNext onto (IsNextRow lasts (length s.records)) [] s.rows

-- the segments of a relation: fewer than twice as many as branches
pub record AreSegments (ws : List ℕ) (lasts : List ℕ) (ss : List SegmentPart) : Type 0 where
  pub count : length ss < 2 ^ 32
  pub few : length ss < 2 * length lasts
  pub each : All (IsSegment ws lasts) ss

-- ---- the image

-- what its branches make
abbrev pub branches_seen : Image → List BranchPart × List VersionPlace
branches_seen i = after branch_next ([], []) i.branches

-- what its versions make
abbrev pub versions_seen : Image → List ℕ × List MadeVersion
versions_seen i = after version_next (replicate (length (branches_seen i).1) 0, []) i.versions

-- the last position of each branch
abbrev pub lasts_of : Image → List ℕ
lasts_of i = (versions_seen i).0

-- the segments of each relation, from a relation on, keep the rules of segments
abbrev pub AreByRelation : List Relation → List ℕ → ℕ → List (List SegmentPart) → Type 0
AreByRelation relations lasts r [] = Unit {0}
AreByRelation relations lasts r (ss ∷ sss) = AreSegments (widths_at relations r) lasts ss × AreByRelation relations lasts (r + 1) sss

-- an image keeps all rules
pub record IsRuled (i : Image) : Type 0 where
  pub some_relations : 0 < length i.relations
  pub few_relations : length i.relations ≤ 8
  pub relations : EachNext onto IsNextRelation [] i.relations
  pub some_branches : 0 < length i.branches
  pub few_branches : length i.branches ≤ 1024
  pub branches : EachNext branch_next IsNextBranch ([], []) i.branches
  pub few_versions : length i.versions < 2 ^ 32
  pub versions : EachNext version_next (IsNextVersion (branches_seen i).1) (replicate (length (branches_seen i).1) 0, []) i.versions
  pub same_count : length i.segments ≡ length i.relations
  pub segments : AreByRelation i.relations (lasts_of i) 0 i.segments
  pub whole : is_whole i (lasts_of i) ≡ true
