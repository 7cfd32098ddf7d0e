use Rattle.db_image.proofs.LayoutBack.{layout_back}
use Rattle.db_image.proofs.laws.layout_law.Goals as goal

pub returns : goal.returns
returns c = layout_back
