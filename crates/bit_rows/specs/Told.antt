-- What is told of the segments of a store: whose head each is, how many records it has, and how many of them are live in which branch.
use Rattle.std.specs.Prelude.{◌≡◌, ℕ, ◌<◌, ◌≤◌, ◌==◌, cond, List, [], ◌∷◌, length, map, Option, Some, None}
use Rattle.std.specs.List.{flat_map, range_with_len}
use Rattle.std.proofs.Common.{get_or}
use Rattle.db_value.specs.declared.report.LayoutLine.{LayoutLine}
use Rattle.db_value.specs.declared.report.Live.{Live}
use Rattle.db_value.specs.declared.schema.Relation.{Relation}
use Rattle.plain_bits.specs.Truth.{count_true}
use Rattle.db_store.specs.Report.{relation_name}
use Rattle.hybrid_view.specs.Live.{Piece, lived_at}
use Rattle.bit_rows.specs.Kept.{KeptLane, no_kept}
use Rattle.bit_rows.specs.Segments.{KeptRecords, KeptList, kept_at, list_at}

-- what is told of a piece
abbrev pub told_of : List ℕ → Piece → Live
told_of name p = record { branch = name; bits = count_true p.bits }

-- the same, if it is of the segment
abbrev pub live_of_piece : List ℕ → ℕ → Piece → List Live
live_of_piece name s p = cond (p.segment == s) (told_of name p ∷ []) []

-- how many records of a segment are live in pieces, where one is of it
abbrev pub lives_of : List ℕ → ℕ → List Piece → List Live
lives_of name s [] = []
lives_of name s (p ∷ ps) = cond (p.segment == s) (told_of name p ∷ lives_of name s ps) (lives_of name s ps)

-- the same of a branch in a relation
abbrev pub lives_by : ℕ → ℕ → KeptLane → List Live
lives_by r s k = lives_of k.name s (lived_at k.head r).pieces

-- and of several
abbrev pub lives_among : ℕ → ℕ → List KeptLane → List Live
lives_among r s ks = flat_map (lives_by r s) ks

-- the name of the branch whose head a segment is, if it is one
abbrev pub name_of_head : List KeptLane → Option ℕ → Option (List ℕ)
name_of_head lanes None = None
name_of_head lanes (Some b) = Some (get_or lanes b no_kept).name

-- what is told of a segment
abbrev pub line_told : List ℕ → List KeptLane → ℕ → List KeptRecords → ℕ → LayoutLine
line_told name lanes r ks s = record {
  relation = name;
  index = s;
  head = name_of_head lanes (kept_at ks s).head;
  records = length (kept_at ks s).rows.records;
  live = lives_among r s lanes;
}

-- of all segments of a relation
abbrev pub lines_told : List ℕ → List KeptLane → ℕ → List KeptRecords → List LayoutLine
lines_told name lanes r ks = map (line_told name lanes r ks) (range_with_len 0 (length ks))

-- of those of a relation of a schema
abbrev pub relation_told : List Relation → List KeptLane → List KeptList → ℕ → List LayoutLine
relation_told schema lanes lists r = lines_told (relation_name schema r) lanes r (list_at lists r)

-- of those of all relations
abbrev pub all_told : List Relation → List KeptLane → List KeptList → List LayoutLine
all_told schema lanes lists = flat_map (relation_told schema lanes lists) (range_with_len 0 (length schema))

-- each branch has something of the relation, and the branches whose heads the segments are are there
pub record CanTell (lanes : List KeptLane) (r : ℕ) (ks : List KeptRecords) : Type 0 where
  pub wide : (b : ℕ) → b < length lanes → r < length (get_or lanes b no_kept).head
  pub heads : (s b : ℕ) → s < length ks → (kept_at ks s).head ≡ Some b → b < length lanes
  pub few : length ks ≤ 2048
