-- The names of branches, and the versions by number, of what is kept of branches.
use Rattle.std.specs.Prelude.{◌≡◌, ℕ, ◌<◌, ◌^◌, ◌==◌, cond, List, [], ◌++◌, length, map, All, Option, Some, None}
use Rattle.std.proofs.Common.{get_or}
use Rattle.db_value.specs.declared.version.VersionPlace.{VersionPlace}
use Rattle.db_store.specs.Dataset.{Branch, Dataset, root, before, branch_named}
use Rattle.db_store.specs.Order.{numbers_if, StandOnce}
use Rattle.bit_rows.specs.Kept.{KeptLane, no_kept}

-- a branch by its name alone
abbrev pub named_only : KeptLane → Branch
named_only k = record { name = k.name; origin = root; base = root; versions = [] }

-- branches by their names alone
abbrev pub named_of : List KeptLane → Dataset
named_of lanes = record { schema = []; branches = map named_only lanes; order = [] }

-- no two branches have one name
abbrev pub AreNamed : List KeptLane → Type 0
AreNamed lanes = (b : ℕ) → b < length lanes → branch_named (named_of lanes) (get_or lanes b no_kept).name ≡ Some b

-- where the version at a place of these branches was made
abbrev pub proper_in : List KeptLane → VersionPlace → VersionPlace
proper_in lanes at = cond (at.position == 0) (get_or lanes at.branch no_kept).base at

-- the same, if there is a place
abbrev pub proper_if_in : List KeptLane → Option VersionPlace → Option VersionPlace
proper_if_in lanes None = None
proper_if_in lanes (Some at) = Some (proper_in lanes at)

-- the second parent of the version at a place
abbrev pub second_in : List KeptLane → VersionPlace → Option VersionPlace
second_in lanes at = get_or (get_or lanes at.branch no_kept).seconds at.position None

-- the parents of a version after the root, by number
abbrev pub parents_in : List KeptLane → List VersionPlace → VersionPlace → List ℕ
parents_in lanes order at = numbers_if order (Some (proper_in lanes (before at))) ++ numbers_if order (proper_if_in lanes (second_in lanes at))

-- the place is one of the branches
abbrev pub IsPlaceIn : List KeptLane → VersionPlace → Type 0
IsPlaceIn lanes at = (at.branch < length lanes) × (at.position < length (get_or lanes at.branch no_kept).seconds)

-- versions after the first one stand behind their parents, at places of these branches, and none stands twice
pub record CanLine (lanes : List KeptLane) (order : List VersionPlace) : Type 0 where
  pub some : 0 < length order
  pub few : length order < 2 ^ 32
  pub once : StandOnce order
  pub there : (i : ℕ) → 0 < i → i < length order → IsPlaceIn lanes (get_or order i root)
  pub later : (i : ℕ) → 0 < i → i < length order → 0 < (get_or order i root).position
  pub seconds : (i : ℕ) (at : VersionPlace) → 0 < i → i < length order → second_in lanes (get_or order i root) ≡ Some at → at.branch < length lanes
  pub earlier : (i : ℕ) → 0 < i → i < length order → All (λ p. p < i) (parents_in lanes order (get_or order i root))

-- the first versions, each as its parents
pub record AreLined (lanes : List KeptLane) (order : List VersionPlace) (n : ℕ) (versions : List (List ℕ)) : Type 0 where
  pub count : length versions ≡ n
  pub first : get_or versions 0 [] ≡ []
  pub each : (i : ℕ) → 0 < i → i < n → get_or versions i [] ≡ parents_in lanes order (get_or order i root)
