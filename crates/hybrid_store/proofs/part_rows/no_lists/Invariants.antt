use Rattle.std.proofs.Common.{[]}
use Rattle.hybrid_store.specs.Assembled.{AreLists}
use Rattle.hybrid_store.proofs.part_rows.no_lists.Given as goal

abbrev pub invariant-loop-relation : goal.invariant-loop-relation
invariant-loop-relation l = AreLists l.relation [] l.lists.items
