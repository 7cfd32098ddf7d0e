use Rattle.std.proofs.Common.{◌≡◌, ◌+◌, ◌≤◌, ◌++◌, drop}
use Rattle.db_store.specs.Table.{relation_at}
use Rattle.version_join.specs.Join.{unlike}
use Rattle.version_join.proofs.differences.all_unlike.Given as goal

-- the rows so far with those that are left and kept are all
abbrev pub invariant-loop-at : goal.invariant-loop-at
invariant-loop-at g l =
    let right = relation_at (g.V.View.table l.right) l.relation in
    record {
      rows : l.kept ++ unlike (drop l.at l.rows) right ≡ unlike l.rows right;
      cost : l.steps ≤ l.initial.steps + l.at;
    }
