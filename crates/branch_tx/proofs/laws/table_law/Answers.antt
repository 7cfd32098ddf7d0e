use Rattle.branch_tx.proofs.laws.table_law.Goals as goal
use Rattle.branch_tx.proofs.Ends.{table_is}

pub returns : goal.returns
returns c = table_is
