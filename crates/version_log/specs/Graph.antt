-- The graph of a dataset: every version with its parents, branch by branch.
use Rattle.std.specs.Prelude.{ℕ, zero, suc, true, List, [], ◌++◌, length}
use Rattle.db_value.specs.declared.report.LogLine.{LogLine}
use Rattle.db_value.specs.declared.reply.Reply.{Reply}
use Rattle.db_value.specs.declared.reply.Reply.TheVariants.{Versions}
use Rattle.db_store.specs.Dataset.{Dataset}
use Rattle.version_log.specs.Log.{branch_log}

-- the logs of the first n branches, in the order made
abbrev pub first_logs : Dataset → ℕ → List LogLine
first_logs d zero = []
first_logs d (suc n) = first_logs d n ++ branch_log d n

-- the reply to `graph`: the logs of all branches, in the order made
abbrev pub graph_of : Dataset → Reply
graph_of d = Versions (first_logs d (length d.branches)) true
