-- How the graph keeps its versions.
use Rattle.std.specs.Prelude.{ℕ, ◌+◌, ◌^◌, ◌<◌, ◌≤◌, List, [], ◌∷◌, length, map}
use Rattle.version_graph.specs.declared.parents.Parents.{Parents}
use Rattle.version_graph.specs.declared.parents.Parents.TheVariants.{Root, One, Two}
use Rattle.version_graph.specs.Ancestors.{AllEarlier}

-- the parents of one version: none of a root, and two of a merge
abbrev pub list_of : Parents → List ℕ
list_of Root = []
list_of (One parent) = parent ∷ []
list_of (Two first second) = first ∷ second ∷ []

-- the versions can be numbered, and as many as are spare find room
pub record IsKept (versions : List Parents) (spare room : ℕ) : Type 0 where
  pub earlier : AllEarlier (map list_of versions)
  pub few : length versions + spare < 2 ^ 32
  pub roomy : length versions + spare ≤ room
