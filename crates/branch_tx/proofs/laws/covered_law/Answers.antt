use Rattle.branch_tx.proofs.laws.covered_law.Goals as goal
use Rattle.branch_tx.proofs.Covered.{covered_is}

pub returns : goal.returns
returns c = covered_is
