-- Changes that are made together, since their keys stand in the same blocks.
use Rattle.std.specs.Prelude.{◌≡◌, ℕ, nat_lt, ◌<◌, ◌≤◌, Bool, true, Option, Some, None, List, [], ◌∷◌, length, take}
use Rattle.key_index.specs.declared.changes.SpotChange.{SpotChange}
use Rattle.key_index.specs.Blocks.{Entry, Block, Surrounds, changed}

-- the entries after changes, from the first to the last
abbrev pub all_changed : List Entry → List SpotChange → List Entry
all_changed entries [] = entries
all_changed entries (change ∷ rest) = all_changed (changed entries change.key change.place) rest

-- the first n of the changes were made, and there is one at least
pub record Makes (changes : List SpotChange) (old new : List Entry) (n : ℕ) : Type 0 where
  pub some : 0 < n
  pub within : n ≤ length changes
  pub entries : new ≡ all_changed old (take n changes)

-- it holds of the key of each change
abbrev pub Each : (ℕ → Type 0) → List SpotChange → Type 0
Each P [] = Unit {0}
Each P (change ∷ rest) = P change.key × Each P rest

-- the key of the first change
abbrev pub first_of : List SpotChange → ℕ
first_of [] = 0
first_of (change ∷ rest) = change.key

-- a key stands below an end, if there is one
abbrev pub is_under : ℕ → Option ℕ → Bool
is_under key None = true
is_under key (Some end) = nat_lt key end

abbrev pub IsUnder : ℕ → Option ℕ → Type 0
IsUnder key end = is_under key end ≡ true

-- and not below another key
pub record IsWithin (low : ℕ) (end : Option ℕ) (key : ℕ) : Type 0 where
  pub above : low ≤ key
  pub under : IsUnder key end

-- the keys of the first n changes can stand only in the blocks from one place up to another
pub record Surround (blocks : List Block) (changes : List SpotChange) (low high n : ℕ) : Type 0 where
  pub ordered : low ≤ high
  pub within : high ≤ length blocks
  pub some : 0 < n
  pub few : n ≤ length changes
  pub around : Each (λ key. Surrounds blocks key low high) (take n changes)
