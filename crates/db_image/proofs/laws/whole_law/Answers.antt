use Rattle.db_image.proofs.RuledWhole.{whole_ruled}
use Rattle.db_image.proofs.laws.whole_law.Goals as goal

pub returns : goal.returns
returns c = whole_ruled
