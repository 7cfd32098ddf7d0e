use Rattle.std.proofs.Common.{◌≡◌, ◌++◌, ◌+◌, ◌≤◌, drop}
use Rattle.hybrid_view.specs.RowPlaces.{spots}
use Rattle.bit_rows.proofs.changed.spots_of.Given as goal

abbrev pub invariant-loop-at : goal.invariant-loop-at
invariant-loop-at l = record {
  spots : l.all.items ++ spots l.head l.next (drop l.at l.changes) l.relation ≡ spots l.head l.from l.changes l.relation;
  few : l.next ≤ l.from + l.at;
}
