-- What a contract sees of rows of bits.
use Rattle.std.specs.Prelude.{◌≡◌, ℕ, ◌≤◌, Bool, true, List, [], length, set, filter, slice_set, refl}
use Rattle.std.specs.List.{list_any, range_with_len}
use Rattle.std.specs.Coded.{Coded, code_by, coded×, coded_ℕ, coded_list, coded_bool}
use Rattle.std.proofs.Common.{get_or}
use Rattle.plain_bits.specs.Truth.{bit_of}

-- a row of bits for each branch for which there is room, and for how many segments there is room
pub record Marks : Type 0 where
  pub rows : List (List Bool)
  pub segments : ℕ

-- rows of marks can be written as numbers
abbrev pub marks_code : Coded Marks
marks_code = code_by (List (List Bool) × ℕ) (coded× (coded_list (coded_list coded_bool)) coded_ℕ) (λ m. (m.rows, m.segments)) (λ p. record { rows = p.0; segments = p.1 }) (λ _. refl)

-- the bits of a branch: none where there is no room for it
abbrev pub row_at : Marks → ℕ → List Bool
row_at m b = get_or m.rows b []

-- the branch has the segment
abbrev pub is_marked : Marks → ℕ → ℕ → Bool
is_marked m b s = bit_of (row_at m b) s

-- the same rows with one bit set
abbrev pub with_mark : Marks → ℕ → ℕ → Marks
with_mark m b s = record { rows = set m.rows b (slice_set (row_at m b) s true); segments = m.segments }

-- the segments for which a test holds, ascending
abbrev pub ids_where : (ℕ → Bool) → ℕ → List ℕ
ids_where p n = filter p (range_with_len 0 n)

-- one of the branches has the segment
abbrev pub any_marked : Marks → List ℕ → ℕ → Bool
any_marked m branches s = list_any (λ b. is_marked m b s) branches

-- the same bits
abbrev pub SameMarks : Marks → Marks → Type 0
SameMarks old new = (b s : ℕ) → is_marked new b s ≡ is_marked old b s

-- the row with falses after it
pub record IsLonger (old new : List Bool) : Type 0 where
  pub bits : (s : ℕ) → bit_of new s ≡ bit_of old s
  pub longer : length old ≤ length new

-- rows with the same bits
abbrev pub SameRows : List (List Bool) → List (List Bool) → Type 0
SameRows old new = (b s : ℕ) → bit_of (get_or new b []) s ≡ bit_of (get_or old b []) s
