-- What entries have.
use Rattle.std.specs.Prelude.{ℕ, List, []}
use Rattle.db_value.specs.declared.version.VersionPlace.{VersionPlace}
use Rattle.db_value.specs.declared.entry.Entry.{Entry}
use Rattle.db_value.specs.declared.entry.Entry.TheVariants.{Commit, Branch}
use Rattle.db_store.specs.Dataset.{root}

-- the branch of a commit
abbrev pub branch_of : Entry → ℕ
branch_of (Commit b second changes) = b
branch_of (Branch name origin) = 0

-- the name of a new branch
abbrev pub name_of : Entry → List ℕ
name_of (Commit b second changes) = []
name_of (Branch name origin) = name

-- and its origin
abbrev pub origin_of : Entry → VersionPlace
origin_of (Commit b second changes) = root
origin_of (Branch name origin) = origin
