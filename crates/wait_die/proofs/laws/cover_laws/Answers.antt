use Rattle.wait_die.proofs.Covering.{needs_law, conflict_law, cover_law, stays_law, lines_law}
use Rattle.wait_die.proofs.laws.cover_laws.Goals as goal

pub returns-clause-needs : goal.returns-clause-needs
returns-clause-needs c = needs_law

pub returns-clause-conflict : goal.returns-clause-conflict
returns-clause-conflict c = conflict_law

pub returns-clause-cover : goal.returns-clause-cover
returns-clause-cover c = cover_law

pub returns-clause-stays : goal.returns-clause-stays
returns-clause-stays c = stays_law

pub returns-clause-lines : goal.returns-clause-lines
returns-clause-lines c = lines_law
