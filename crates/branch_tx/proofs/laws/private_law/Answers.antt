use Rattle.branch_tx.proofs.laws.private_law.Goals as goal
use Rattle.branch_tx.proofs.Alike.{private_is}

pub returns : goal.returns
returns c = private_is
