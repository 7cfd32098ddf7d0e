use Rattle.db_image.proofs.ReadWhole.{image_back}
use Rattle.db_image.proofs.laws.rules_law.Goals as goal

pub returns : goal.returns
returns c = image_back
