use Rattle.db_image.proofs.FitLaw.{image_fits}
use Rattle.db_image.proofs.laws.fit_law.Goals as goal

pub returns : goal.returns
returns c = image_fits
