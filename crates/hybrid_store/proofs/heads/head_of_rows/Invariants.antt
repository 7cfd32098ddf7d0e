use Rattle.hybrid_store.proofs.OwnLemmas.{HeadBy}
use Rattle.hybrid_store.proofs.heads.head_of_rows.Given as goal

abbrev pub invariant-loop-index : goal.invariant-loop-index
invariant-loop-index l = HeadBy l.branch l.kept.all l.rows l.index

abbrev pub decreases-loop-index : goal.decreases-loop-index
decreases-loop-index l = l.index
