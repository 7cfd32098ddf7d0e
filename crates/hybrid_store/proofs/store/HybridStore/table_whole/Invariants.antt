use Rattle.std.proofs.Common.{◌≡◌, ◌≤◌, ◌<◌, ℕ, length, map, get_or}
use Rattle.std.specs.Arc.{arc_value}
use Rattle.hybrid_view.specs.Live.{lived_at}
use Rattle.bit_rows.specs.Kept.{no_kept}
use Rattle.bit_rows.specs.Segments.{list_at}
use Rattle.hybrid_store.specs.Whole.{AreWhole}
use Rattle.hybrid_store.proofs.ViewLemmas.{AreSeen}
use Rattle.hybrid_store.proofs.store.HybridStore.table_whole.Given as goal

abbrev pub invariant-loop-relation : goal.invariant-loop-relation
invariant-loop-relation l = record {
  wide : length (map arc_value l.relations.items) ≡ l.relation;
  seen : AreSeen l.self.schema l.self.segments.items (get_or l.self.lanes.items l.fn.at.branch no_kept) l.fn.at.position l.relation (map arc_value l.relations.items);
  whole : (r : ℕ) → r < l.relation → AreWhole (list_at l.self.segments.items r) (lived_at (map arc_value l.relations.items) r).pieces;
  within : l.relation ≤ length l.self.schema;
}
