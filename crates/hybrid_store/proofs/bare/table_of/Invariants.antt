use Rattle.std.proofs.Common.{map}
use Rattle.std.specs.Arc.{arc_value}
use Rattle.hybrid_store.specs.Assembled.{AreSeenBy}
use Rattle.hybrid_store.proofs.bare.table_of.Given as goal

abbrev pub invariant-loop-relation : goal.invariant-loop-relation
invariant-loop-relation l = AreSeenBy l.lists l.position l.rows l.relation (map arc_value l.relations.items)
