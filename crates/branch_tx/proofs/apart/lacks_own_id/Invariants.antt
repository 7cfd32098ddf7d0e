use Rattle.branch_tx.specs.SeenFrom.{LackOwnId}
use Rattle.branch_tx.proofs.apart.lacks_own_id.Given as goal

-- none so far has it
abbrev pub invariant-loop-index : goal.invariant-loop-index
invariant-loop-index g l = LackOwnId (g.V.View.parts_of l.view l.relation) l.index
