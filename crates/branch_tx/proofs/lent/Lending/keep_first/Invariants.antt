use Rattle.std.proofs.Common.{◌≡◌, length}
use Rattle.branch_tx.specs.Lending.{first_views}
use Rattle.branch_tx.proofs.lent.Lending.keep_first.Given as goal

-- the first few are those of before
abbrev pub invariant-loop-self : goal.invariant-loop-self
invariant-loop-self g l = first_views l.count l.self ≡ first_views l.count l.initial.self

abbrev pub decreases-loop-self : goal.decreases-loop-self
decreases-loop-self g l = length l.self.0
