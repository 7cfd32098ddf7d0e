use Rattle.std.proofs.Common.{◌≡◌}
use Rattle.db_store.specs.State.{dataset_of}
use Rattle.version_log.specs.Graph.{first_logs}
use Rattle.version_log.proofs.all_logs.graph.Given as goal

-- the logs of the branches so far
abbrev pub invariant-loop-branch : goal.invariant-loop-branch
invariant-loop-branch g l = l.lines.items ≡ first_logs (dataset_of (g.St.Store.state l.store)) l.branch
