use Rattle.std.proofs.Common.{◌<◌, ℕ}
use Rattle.hybrid_view.specs.Live.{lived_at}
use Rattle.bit_rows.specs.Segments.{list_at}
use Rattle.hybrid_store.specs.Whole.{AreWhole}
use Rattle.hybrid_store.proofs.store.HybridStore.shows_whole.Given as goal

abbrev pub invariant-loop-relation : goal.invariant-loop-relation
invariant-loop-relation l = (r : ℕ) → r < l.relation → AreWhole (list_at l.self.segments.items r) (lived_at l.table r).pieces
