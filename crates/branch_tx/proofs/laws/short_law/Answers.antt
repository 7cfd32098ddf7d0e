use Rattle.branch_tx.proofs.laws.short_law.Goals as goal
use Rattle.branch_tx.proofs.Ends.{short_is}

pub returns : goal.returns
returns c = short_is
