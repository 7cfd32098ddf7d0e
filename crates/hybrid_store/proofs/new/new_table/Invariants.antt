use Rattle.std.proofs.Common.{◌≡◌, ℕ, ◌<◌, length, map}
use Rattle.std.specs.Arc.{arc_value}
use Rattle.hybrid_view.specs.Live.{lived_at, IsLived}
use Rattle.hybrid_store.specs.New.{own_at, first_lived}
use Rattle.hybrid_store.proofs.new.new_table.Given as goal

abbrev pub invariant-loop-head : goal.invariant-loop-head
invariant-loop-head l = record {
  count : length l.relations.items ≡ l.head-index;
  each : (r : ℕ) → r < l.head-index → lived_at (map arc_value l.relations.items) r ≡ first_lived (own_at (map arc_value l.heads) r);
  lived : (r : ℕ) → r < l.head-index → IsLived (lived_at (map arc_value l.relations.items) r);
}
