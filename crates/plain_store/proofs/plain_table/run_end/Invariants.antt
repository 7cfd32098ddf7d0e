use Rattle.std.proofs.Common.{◌<◌, ◌-◌, take, drop}
use Rattle.plain_store.specs.Merge.{AllOf}
use Rattle.plain_store.proofs.plain_table.run_end.Given as goal

-- the changes in front of the place are of the relation
abbrev pub invariant-loop-at : goal.invariant-loop-at
invariant-loop-at l = record {
  some : l.from < l.at;
  same : AllOf l.relation (take (l.at - l.from) (drop l.from l.changes));
}
