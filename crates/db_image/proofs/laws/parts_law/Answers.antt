use Rattle.db_image.proofs.Laid.{image_sound}
use Rattle.db_image.proofs.laws.parts_law.Goals as goal

pub returns : goal.returns
returns c = image_sound
