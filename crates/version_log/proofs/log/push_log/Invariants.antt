use Rattle.std.proofs.Common.{◌≡◌, ◌≤◌, ◌++◌}
use Rattle.db_store.specs.Dataset.{last_of}
use Rattle.db_store.specs.State.{dataset_of}
use Rattle.version_log.proofs.LogLemmas.{below}
use Rattle.version_log.proofs.log.push_log.Given as goal

-- the lines so far and those below are what the last one and those below it were
abbrev pub invariant-loop-left : goal.invariant-loop-left
invariant-loop-left g l =
    let d = dataset_of (g.St.Store.state l.store) in
    record {
      lines : l.initial.lines.items ++ below d l.branch (last_of d l.branch) ≡ l.lines.items ++ below d l.branch l.left;
      within : l.left ≤ last_of d l.branch;
    }

abbrev pub decreases-loop-left : goal.decreases-loop-left
decreases-loop-left g l = l.left
