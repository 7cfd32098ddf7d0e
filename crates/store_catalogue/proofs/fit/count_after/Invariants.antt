use Rattle.std.proofs.Common.{◌≡◌, ◌+◌, ◌≤◌, ◌^◌, drop}
use Rattle.std.specs.FinMap.{len}
use Rattle.db_store.specs.Table.{relation_at}
use Rattle.db_store.specs.Counts.{counted}
use Rattle.store_catalogue.proofs.fit.count_after.Given as goal

-- the count so far, with the changes that are left, gives what all give
abbrev pub invariant-loop-at : goal.invariant-loop-at
invariant-loop-at g l =
    let m = relation_at (g.T.KeyedTable.table_of l.table) l.relation in
    record {
      counts : counted l.relation m l.count (drop l.at l.changes) ≡ counted l.relation m (len m) l.changes;
      few : l.count ≤ 2 ^ 32 + l.at;
    }
