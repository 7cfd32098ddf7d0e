use Rattle.std.proofs.Common.{◌≡◌, ◌≤◌, length, map, get_or}
use Rattle.std.specs.Arc.{arc_value}
use Rattle.bit_rows.specs.Kept.{no_kept}
use Rattle.hybrid_store.proofs.ViewLemmas.{AreSeen}
use Rattle.hybrid_store.proofs.store.HybridStore.table_seen.Given as goal

abbrev pub invariant-loop-relation : goal.invariant-loop-relation
invariant-loop-relation l = record {
  wide : length (map arc_value l.relations.items) ≡ l.relation;
  seen : AreSeen l.self.schema l.self.segments.items (get_or l.self.lanes.items l.at.branch no_kept) l.at.position l.relation (map arc_value l.relations.items);
  within : l.relation ≤ length l.self.schema;
}
