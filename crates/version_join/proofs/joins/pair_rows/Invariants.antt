use Rattle.std.proofs.Common.{◌≡◌, ◌+◌, ◌≤◌, ◌++◌, length, drop}
use Rattle.db_value.specs.Pairs.{paired}
use Rattle.db_store.specs.Table.{relation_at}
use Rattle.version_join.specs.Join.{pairs_of}
use Rattle.version_join.proofs.joins.pair_rows.Given as goal

-- the pairs so far with those of the rows that are left are all
abbrev pub invariant-loop-at : goal.invariant-loop-at
invariant-loop-at g l =
    let right = relation_at (g.V.View.table l.right) l.relation in
    record {
      even : length l.rights ≡ length l.lefts;
      pairs : paired l.lefts l.rights ++ pairs_of (drop l.at l.rows) right ≡ pairs_of l.rows right;
      cost : l.steps ≤ l.initial.steps + l.at;
    }
