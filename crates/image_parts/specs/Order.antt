-- Keys in order, each with its place, for the private functions.
use Rattle.std.specs.Prelude.{◌≡◌, ℕ, zero, suc, ◌+◌, ◌<◌, ◌≤◌, ◌==◌, cond, List, length}
use Rattle.std.specs.List.{All, Contains}
use Rattle.std.specs.List.Sorted.{IsNonDecreasingBy}
use Rattle.std.proofs.Common.{get_or}

-- each key stands at its place
pub record ArePlaced (keys : List ℕ) (places : List (ℕ × ℕ)) : Type 0 where
  pub len : length places ≡ length keys
  pub at : (i : ℕ) → i < length places → get_or places i (0, 0) ≡ (get_or keys i 0, i)

-- this key stands at this place
abbrev pub IsPlace : List ℕ → ℕ × ℕ → Type 0
IsPlace keys item = (item.1 < length keys) × (get_or keys item.1 0 ≡ item.0)

-- the keys do not fall, and equal ones stand by place
pub record IsOrder (all_keys : List ℕ) (order : List (ℕ × ℕ)) : Type 0 where
  pub len : length order ≡ length all_keys
  pub own : All (IsPlace all_keys) order
  pub all : (place : ℕ) → place < length all_keys → Contains order (get_or all_keys place 0, place)
  pub keys : IsNonDecreasingBy (λ (item : ℕ × ℕ). item.0) order
  pub ties : (i : ℕ) → i + 1 < length order → (get_or order i (0, 0)).0 ≡ (get_or order (i + 1) (0, 0)).0 → (get_or order i (0, 0)).1 ≤ (get_or order (i + 1) (0, 0)).1

-- the number of a key in order: that of the one before it if they are equal, and otherwise its place
abbrev pub number_after : List (ℕ × ℕ) → ℕ → ℕ → ℕ
number_after order zero last = (get_or order zero (0, 0)).1
number_after order (suc i) last = cond ((get_or order i (0, 0)).0 == (get_or order (suc i) (0, 0)).0) last (get_or order (suc i) (0, 0)).1
