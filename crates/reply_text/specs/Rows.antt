-- The rows of a scan with the versions that have them, and the pairs of a join.
use Rattle.std.specs.Prelude.{◌≡◌, ℕ, ◌<◌, List, [], ◌∷◌, ◌++◌, length, codes}
use Rattle.std.specs.List.{All, flat_map}
use Rattle.std.specs.Fmt.{decimal}
use Rattle.std.proofs.Common.{get_or, None}
use Rattle.db_value.specs.declared.record.Marked.{Marked}
use Rattle.db_value.specs.declared.pairs.Pair.{Pair}
use Rattle.db_value.specs.declared.version.VersionName.{VersionName}
use Rattle.db_value.specs.Version.{version_text}
use Rattle.reply_text.specs.Piece.{line_end, field_text, record_text}

-- each position of a row has a name, or it is 0 alone where there are no names
pub record HasNames (names : List VersionName) (positions : List ℕ) : Type 0 where
  pub alone : length names ≡ 0 → positions ≡ 0 ∷ []
  pub within : 0 < length names → All (λ p. p < length names) positions

-- the name of the version at a position
abbrev pub name_at : List VersionName → ℕ → List ℕ
name_at names p = version_text (get_or names p (record { branch = []; position = None }))

-- a name behind a comma
abbrev pub next_name : List VersionName → ℕ → List ℕ
next_name names p = 44 ∷ name_at names p

-- the names of the versions that have a row, where the statement named any
abbrev pub in_text : List VersionName → List ℕ → List ℕ
in_text [] ps = []
in_text (n ∷ ns) [] = []
in_text (n ∷ ns) (p ∷ ps) = codes " in " ++ name_at (n ∷ ns) p ++ flat_map (next_name (n ∷ ns)) ps

-- the line of a row, and which versions have it
abbrev pub marked_text : List VersionName → Marked → List ℕ
marked_text names m = record_text m.row ++ in_text names m.positions ++ line_end

-- the line of two records with one key
abbrev pub pair_text : Pair → List ℕ
pair_text p = codes "pair " ++ decimal p.key ++ flat_map field_text p.left ++ codes " |" ++ flat_map field_text p.right ++ line_end
