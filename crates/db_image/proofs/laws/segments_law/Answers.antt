use Rattle.db_image.proofs.RuledRows.{all_ruled}
use Rattle.db_image.proofs.laws.segments_law.Goals as goal

pub returns : goal.returns
returns c = all_ruled
