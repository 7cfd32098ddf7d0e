use Rattle.std.proofs.Common.{◌≡◌, length, map}
use Rattle.std.specs.Arc.{arc_value}
use Rattle.hybrid_store.specs.Ready.{AreOwn}
use Rattle.hybrid_store.specs.Stored.{head_number}
use Rattle.hybrid_store.proofs.store.HybridStore.head_records.Given as goal

abbrev pub invariant-loop-relation : goal.invariant-loop-relation
invariant-loop-relation l = record {
  count : length (map arc_value l.all.items) ≡ l.relation;
  done : AreOwn (head_number l.self.segments.items l.branch) l.table l.relation (map arc_value l.all.items);
}
