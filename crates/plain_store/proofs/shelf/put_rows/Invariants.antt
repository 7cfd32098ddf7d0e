use Rattle.std.proofs.Common.{◌≡◌, ◌++◌, ◌-◌, ◌≤◌, take, drop}
use Rattle.plain_store.proofs.shelf.put_rows.Given as goal

-- the records in front of the place were put
abbrev pub invariant-loop-at : goal.invariant-loop-at
invariant-loop-at l = record {
  all : l.all ≡ l.initial.all ++ take (l.at - l.from) (drop l.from l.rows);
  from : l.from ≤ l.at;
  to : l.at ≤ l.to;
}
