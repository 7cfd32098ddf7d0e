-- The bytes of a file with an image.
use Rattle.std.specs.Prelude.{ℕ, List, [], ◌∷◌, ◌++◌, length}
use Rattle.std.specs.Int.{w64, to_le_bytes}
use Rattle.sha2.specs.Sha256.{sha256}

-- behind the gate: the rest of the mark, the generation, the image's length and digest, and the image
abbrev pub behind_gate : ℕ → List ℕ → List ℕ
behind_gate g image = ((((68 ∷ 69 ∷ 67 ∷ 73 ∷ 66 ∷ 69 ∷ 76 ∷ 50 ∷ []) ++ to_le_bytes w64 g) ++ to_le_bytes w64 (length image)) ++ sha256 image) ++ image
