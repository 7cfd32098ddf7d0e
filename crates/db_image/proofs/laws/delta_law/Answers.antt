use Rattle.db_image.proofs.DeltaBack.{delta_back}
use Rattle.db_image.proofs.RuledDelta.{delta_ruled}
use Rattle.db_image.proofs.laws.delta_law.Goals as goal

pub returns-clause-rules : goal.returns-clause-rules
returns-clause-rules c = delta_ruled

pub returns-clause-slots : goal.returns-clause-slots
returns-clause-slots c = delta_back
