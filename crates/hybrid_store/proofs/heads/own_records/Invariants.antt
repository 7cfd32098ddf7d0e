use Rattle.hybrid_store.proofs.OwnLemmas.{PieceBy}
use Rattle.hybrid_store.proofs.heads.own_records.Given as goal

abbrev pub invariant-loop-index : goal.invariant-loop-index
invariant-loop-index l = PieceBy l.segment l.live.pieces l.index

abbrev pub decreases-loop-index : goal.decreases-loop-index
decreases-loop-index l = l.index
