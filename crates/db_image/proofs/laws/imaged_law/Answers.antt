use Rattle.db_image.proofs.SegmentsKept.{new_imaged, imaged_stays}
use Rattle.db_image.proofs.laws.imaged_law.Goals as goal

pub returns-clause-first : goal.returns-clause-first
returns-clause-first c = new_imaged

pub returns-clause-stays : goal.returns-clause-stays
returns-clause-stays c = imaged_stays
