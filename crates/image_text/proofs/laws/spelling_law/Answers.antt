use Rattle.image_text.proofs.WholeLaw.{parts_are}
use Rattle.image_text.proofs.laws.spelling_law.Goals as goal

pub returns : goal.returns
returns c = parts_are
