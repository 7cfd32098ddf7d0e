use Rattle.hybrid_view.proofs.WalkLemmas.{IsAhead}
use Rattle.hybrid_view.proofs.live.found_in.Given as goal

abbrev pub invariant-loop-part : goal.invariant-loop-part
invariant-loop-part l = IsAhead l.parts l.key l.part-index
