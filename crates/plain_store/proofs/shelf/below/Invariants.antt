use Rattle.std.proofs.Common.{◌<◌, ◌≤◌, ◌-◌, length, take, drop}
use Rattle.plain_store.specs.Sorted.{AllKeysLess, row_at}
use Rattle.plain_store.proofs.shelf.below.Given as goal

-- in front of low each key is less, and none from high on is
abbrev pub invariant-halves : goal.invariant-halves
invariant-halves l = record {
  order : l.low ≤ l.high;
  from : l.from ≤ l.low;
  within : l.high ≤ length l.rows;
  less : AllKeysLess (take (l.low - l.from) (drop l.from l.rows)) l.key;
  next : l.high < length l.rows → l.key ≤ (row_at l.rows l.high).key;
}

abbrev pub decreases-halves : goal.decreases-halves
decreases-halves l = l.high - l.low
