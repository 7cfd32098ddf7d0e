use Rattle.image_parts.proofs.ImageLaw.{image_is, one_spelling, read_again}
use Rattle.image_parts.proofs.laws.image_law.Goals as goal

pub returns-clause-spelled : goal.returns-clause-spelled
returns-clause-spelled c = image_is

pub returns-clause-one : goal.returns-clause-one
returns-clause-one c = one_spelling

pub returns-clause-again : goal.returns-clause-again
returns-clause-again c = read_again
