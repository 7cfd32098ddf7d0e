-- The log of a branch, and a version as a log tells it.
use Rattle.std.specs.Prelude.{ℕ, zero, suc, ◌==◌, cond, false, List, [], ◌∷◌, Option, Some, None}
use Rattle.db_value.specs.declared.version.VersionName.{VersionName}
use Rattle.db_value.specs.declared.version.VersionPlace.{VersionPlace}
use Rattle.db_value.specs.declared.report.LogLine.{LogLine}
use Rattle.db_value.specs.declared.report.LogLine.TheVariants.{Root, Same as SameAs, Made as MadeAt}
use Rattle.db_value.specs.declared.reply.Reply.{Reply}
use Rattle.db_value.specs.declared.reply.Reply.TheVariants.{Versions, Refused}
use Rattle.db_value.specs.declared.reply.Refusal.TheVariants.{NoBranch as RefusedBranch}
use Rattle.db_store.specs.Dataset.{Dataset, branch_at, last_of, first_parent, second_parent}

-- the name of a version by its place
abbrev pub name_of : Dataset → VersionPlace → VersionName
name_of d at = record { branch = (branch_at d at.branch).name; position = Some at.position }

-- the name of a place, if there is a place
abbrev pub name_if : Dataset → Option VersionPlace → Option VersionName
name_if d None = None
name_if d (Some at) = Some (name_of d at)

-- a version that a commit made, where its first parent is told
abbrev pub made_line : Dataset → VersionPlace → Option VersionPlace → LogLine
made_line d at None = Root
made_line d at (Some parent) = MadeAt (name_of d at) (name_of d parent) (name_if d (second_parent d at))

-- the version at a position of a branch, as a log tells it
abbrev pub log_line : Dataset → ℕ → ℕ → LogLine
log_line d b zero = cond (b == 0) Root (SameAs (branch_at d b).name (name_of d (branch_at d b).base))
log_line d b (suc n) = made_line d (record { branch = b; position = suc n }) (first_parent d (record { branch = b; position = suc n }))

-- the versions of a branch from a position down to 0
abbrev pub log_down : Dataset → ℕ → ℕ → List LogLine
log_down d b zero = log_line d b zero ∷ []
log_down d b (suc n) = log_line d b (suc n) ∷ log_down d b n

-- the log of a branch: all its versions, from the last one down
abbrev pub branch_log : Dataset → ℕ → List LogLine
branch_log d b = log_down d b (last_of d b)

-- the reply to `log` of a name, which is that of a branch or of none
abbrev pub log_of : Dataset → List ℕ → Option ℕ → Reply
log_of d name None = Refused (RefusedBranch name)
log_of d name (Some b) = Versions (branch_log d b) false
