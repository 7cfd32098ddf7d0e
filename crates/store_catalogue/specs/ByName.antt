-- The numbers of branches by name.
use Rattle.std.specs.Prelude.{◌≡◌, ℕ, List, refl}
use Rattle.std.specs.Ordering.{nat_cmp}
use Rattle.std.specs.declared.cmp.Ordering.{Ordering}
use Rattle.std.specs.Cmp.Lexicographic.{slice_cmp}
use Rattle.std.specs.FinMap as finite
use Rattle.std.specs.Coded.{Coded, code_by, coded×, coded_ℕ, coded_list}
use Rattle.db_store.specs.Dataset.{Dataset, branch_named}
use Rattle.store_catalogue.specs.declared.names.NamedBranch.{NamedBranch}

-- names in the order of their bytes
abbrev pub name_cmp : List ℕ → List ℕ → Ordering
name_cmp = slice_cmp nat_cmp

-- a number for each name
abbrev pub Numbers : Type 0
Numbers = finite.FinMap name_cmp ℕ

-- a name and its number
abbrev pub entry_of : NamedBranch → List ℕ × ℕ
entry_of n = (n.name, n.branch)

-- numbers by name, and for how many in all there is room
pub record KeptNames : Type 0 where
  pub numbers : Numbers
  pub room : ℕ

-- these can be told apart
abbrev pub names_code : Coded KeptNames
names_code = code_by (Numbers × ℕ) (coded× (finite.code (coded_list coded_ℕ) coded_ℕ) coded_ℕ) (λ k. (k.numbers, k.room)) (λ p. record { numbers = p.0; room = p.1 }) (λ _. refl)

-- a name has the number of the branch with that name, or none where there is none
abbrev pub AreNumbers : Numbers → Dataset → Type 0
AreNumbers numbers d = (name : List ℕ) → finite.get numbers name ≡ branch_named d name
