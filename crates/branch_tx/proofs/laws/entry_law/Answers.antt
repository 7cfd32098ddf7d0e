use Rattle.branch_tx.proofs.laws.entry_law.Goals as goal
use Rattle.branch_tx.proofs.Ends.{entry_is}

pub returns : goal.returns
returns c = entry_is
