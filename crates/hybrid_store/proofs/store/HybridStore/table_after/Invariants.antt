use Rattle.std.proofs.Common.{◌≡◌, ℕ, ◌<◌, length, map, get_or}
use Rattle.std.specs.Arc.{arc_value}
use Rattle.hybrid_view.specs.Live.{lived_at, IsLived}
use Rattle.bit_rows.specs.Kept.{no_kept}
use Rattle.hybrid_store.specs.Stored.{head_number, AllNextIn, AllDifferences, AreSmall}
use Rattle.hybrid_store.proofs.store.HybridStore.table_after.Given as goal

abbrev pub invariant-loop-relation : goal.invariant-loop-relation
invariant-loop-relation l = record {
  count : length (map arc_value l.relations.items) ≡ l.relation;
  ready : length l.deltas.items ≡ l.relation;
  next : AllNextIn (head_number l.self.segments.items l.branch) (get_or l.self.lanes.items l.branch no_kept) l.changes l.relation (map arc_value l.relations.items);
  deltas : AllDifferences (get_or l.self.lanes.items l.branch no_kept) l.deltas.items l.relation (map arc_value l.relations.items);
  lived : (q : ℕ) → q < l.relation → IsLived (lived_at (map arc_value l.relations.items) q);
  small : (q : ℕ) → q < l.relation → AreSmall (lived_at (map arc_value l.relations.items) q);
}
