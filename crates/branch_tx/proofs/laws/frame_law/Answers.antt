use Rattle.branch_tx.proofs.laws.frame_law.Goals as goal
use Rattle.branch_tx.proofs.FrameLemmas.{frame_law}

pub returns : goal.returns
returns c = frame_law
