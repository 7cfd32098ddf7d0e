use Rattle.std.proofs.Common.{◌≤◌, length, map}
use Rattle.std.specs.Arc.{arc_value}
use Rattle.hybrid_store.specs.Begun.{AreBegun}
use Rattle.hybrid_store.proofs.store.HybridStore.table_begun.Given as goal

abbrev pub invariant-loop-relation : goal.invariant-loop-relation
invariant-loop-relation l = AreBegun l.self.segments.items l.more (map arc_value l.heads) l.view l.relation l.rows.items (map arc_value l.relations.items) × (l.relation ≤ length l.self.schema)
