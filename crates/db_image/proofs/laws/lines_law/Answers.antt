use Rattle.db_image.proofs.LinesKept.{new_lines, lines_stay}
use Rattle.db_image.proofs.laws.lines_law.Goals as goal

pub returns-clause-first : goal.returns-clause-first
returns-clause-first c = new_lines

pub returns-clause-stays : goal.returns-clause-stays
returns-clause-stays c = lines_stay
