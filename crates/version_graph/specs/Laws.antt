-- What reaching says when a graph grows.
use Rattle.std.specs.Prelude.{◌≡◌, ◌↔◌, ℕ, ◌<◌, ◌≤◌, List, [], ◌∷◌, ◌++◌, length, Contains}
use Rattle.version_graph.specs.Ancestors.{Reaches, AllEarlier, IsLastCommon}
use Rattle.version_graph.specs.LastCommon.{last_common}

-- an ancestor's ancestor is one
abbrev pub StepsLaw : Type 0
StepsLaw = (versions : List (List ℕ)) (a b c : ℕ) → Reaches versions a b → Reaches versions b c → Reaches versions a c

-- an ancestor is made no later
abbrev pub OrderLaw : Type 0
OrderLaw = (versions : List (List ℕ)) (a b : ℕ) → AllEarlier versions → Reaches versions a b → b ≤ a

-- a new version changes no ancestor of the older ones
abbrev pub GrowthLaw : Type 0
GrowthLaw = (versions : List (List ℕ)) (parents : List ℕ) (a b : ℕ) → AllEarlier versions → a < length versions
    → Reaches (versions ++ parents ∷ []) a b ↔ Reaches versions a b

-- the ancestors of a new version are itself and those of its parents
abbrev pub NewLaw : Type 0
NewLaw = (versions : List (List ℕ)) (parents : List ℕ) (parent b : ℕ) → Contains parents parent → Reaches versions parent b
    → Reaches (versions ++ parents ∷ []) (length versions) b

-- there is one last common ancestor at most
abbrev pub OneLaw : Type 0
OneLaw = (versions : List (List ℕ)) (left right c d : ℕ) → IsLastCommon versions left right c → IsLastCommon versions left right d → c ≡ d

-- the pass from the newest version down finds it
abbrev pub LastLaw : Type 0
LastLaw = (versions : List (List ℕ)) (left right : ℕ) → AllEarlier versions → left < length versions → right < length versions → Reaches versions left 0 → Reaches versions right 0
    → IsLastCommon versions left right (last_common versions left right)

-- and a new version changes none of the older ones
abbrev pub StaysLaw : Type 0
StaysLaw = (versions : List (List ℕ)) (parents : List ℕ) (left right : ℕ) → left < length versions → right < length versions
    → last_common (versions ++ parents ∷ []) left right ≡ last_common versions left right
