-- Versions with their parents, and which version is an ancestor of which.
use Rattle.std.specs.Prelude.{ℕ, ◌<◌, ◌≤◌, List, [], Contains, slice_index_or}

-- the versions by number, each as its list of parents, and how many more there is room for
pub record Lineage : Type 0 where
  pub versions : List (List ℕ)
  pub spare : ℕ

-- the parents of a version
abbrev pub parents_of : List (List ℕ) → ℕ → List ℕ
parents_of versions version = slice_index_or versions version []

-- from a version one comes to an ancestor: it is the version itself, or is reached from a parent
pub data Reaches (versions : List (List ℕ)) : ℕ → ℕ → Type 0 where
  Itself : (version : ℕ) → Reaches versions version version
  Through : (version parent ancestor : ℕ) → Contains (parents_of versions version) parent → Reaches versions parent ancestor → Reaches versions version ancestor

-- each parent was made before its version
abbrev pub AllEarlier : List (List ℕ) → Type 0
AllEarlier versions = (version parent : ℕ) → Contains (parents_of versions version) parent → parent < version

-- an ancestor of both, and no other was made after it
pub record IsLastCommon (versions : List (List ℕ)) (left right common : ℕ) : Type 0 where
  pub of_left : Reaches versions left common
  pub of_right : Reaches versions right common
  pub last : (other : ℕ) → Reaches versions left other → Reaches versions right other → other ≤ common

-- from this version on there is no ancestor of both
abbrev pub NoneFrom : List (List ℕ) → ℕ → ℕ → ℕ → Type 0
NoneFrom versions left right low = (other : ℕ) → low ≤ other → Reaches versions left other → Reaches versions right other → ⊥
