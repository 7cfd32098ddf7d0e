-- The lines of a log, of a graph and of the segments.
use Rattle.std.specs.Prelude.{ℕ, Bool, true, false, List, [], ◌∷◌, ◌++◌, length, Option, Some, None, codes}
use Rattle.std.specs.List.{flat_map, count_by}
use Rattle.std.specs.Fmt.{decimal}
use Rattle.db_value.specs.declared.report.LogLine.{LogLine}
use Rattle.db_value.specs.declared.report.LogLine.TheVariants.{Root, Same, Made}
use Rattle.db_value.specs.declared.report.Live.{Live}
use Rattle.db_value.specs.declared.report.LayoutLine.{LayoutLine}
use Rattle.db_value.specs.declared.version.VersionName.{VersionName}
use Rattle.db_value.specs.Version.{place_text, version_text}
use Rattle.reply_text.specs.Piece.{line_end, numbered_text, count_text}

-- the second parent of a merge
abbrev pub second_text : Option VersionName → List ℕ
second_text None = []
second_text (Some v) = codes " and " ++ version_text v

-- a version, and what it was made of
abbrev pub told_text : LogLine → List ℕ
told_text Root = codes "master@0 root"
told_text (Same branch origin) = place_text branch (Some 0) ++ codes " is " ++ version_text origin
told_text (Made told first second) = version_text told ++ codes " of " ++ version_text first ++ second_text second

-- the line of a version
abbrev pub log_text : LogLine → List ℕ
log_text line = told_text line ++ line_end

-- whether a line tells a version of its own, and not another name of one
abbrev pub is_version : LogLine → Bool
is_version Root = true
is_version (Same branch origin) = false
is_version (Made told first second) = true

-- the last line: of a log the number of its lines, of the whole graph the number of versions
abbrev pub log_end : List LogLine → Bool → List ℕ
log_end lines false = count_text (codes "positions") (length lines)
log_end lines true = count_text (codes "versions") (count_by is_version lines)

-- a branch, and how many records of a segment it has
abbrev pub live_text : Live → List ℕ
live_text l = l.branch ++ 61 ∷ decimal l.bits

-- the same behind a comma
abbrev pub next_live : Live → List ℕ
next_live l = 44 ∷ live_text l

-- every branch of a segment, in order
abbrev pub lives_text : List Live → List ℕ
lives_text [] = []
lives_text (l ∷ ls) = live_text l ++ flat_map next_live ls

-- the branch that a segment is the head of, if any
abbrev pub head_text : Option (List ℕ) → List ℕ
head_text None = codes " internal"
head_text (Some branch) = codes " head " ++ branch

-- the line of a segment
abbrev pub segment_text : LayoutLine → List ℕ
segment_text s = codes "segment " ++ numbered_text s.relation s.index ++ head_text s.head ++ codes " records " ++ decimal s.records ++ codes " live " ++ lives_text s.live ++ line_end
