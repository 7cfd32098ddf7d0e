use Rattle.std.proofs.Common.{take}
use Rattle.std.specs.List.{All}
use Rattle.branch_tx.specs.SeenFrom.{IsApart}
use Rattle.branch_tx.proofs.apart.are_apart.Given as goal

-- all so far are apart
abbrev pub invariant-loop-seen : goal.invariant-loop-seen
invariant-loop-seen g l = All (λ s. IsApart s l.relation) (take l.seen-index l.views)
