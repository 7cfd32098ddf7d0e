use Rattle.std.proofs.Common.{◌-◌, ◌≤◌, map, length, get_or}
use Rattle.std.specs.Arc.{arc_value}
use Rattle.bit_rows.specs.Kept.{no_kept}
use Rattle.hybrid_store.specs.Begun.{AreTurned}
use Rattle.hybrid_store.proofs.store.HybridStore.table_turned.Given as goal

abbrev pub invariant-loop-relation : goal.invariant-loop-relation
invariant-loop-relation l = AreTurned l.self.segments.items (get_or l.self.lanes.items l.branch no_kept) (length (get_or l.self.lanes.items l.branch no_kept).seconds - 1) (map arc_value l.heads) l.relation l.more.items (map arc_value l.relations.items) × (l.relation ≤ length l.self.schema)
