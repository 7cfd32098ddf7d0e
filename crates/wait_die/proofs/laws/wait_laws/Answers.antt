use Rattle.wait_die.proofs.Losing.{turn_law}
use Rattle.wait_die.proofs.Adding.{added_law, includes_law, ended_law}
use Rattle.wait_die.proofs.laws.wait_laws.Goals as goal

pub returns-clause-turn : goal.returns-clause-turn
returns-clause-turn c = turn_law

pub returns-clause-added : goal.returns-clause-added
returns-clause-added c = added_law

pub returns-clause-includes : goal.returns-clause-includes
returns-clause-includes c = includes_law

pub returns-clause-ended : goal.returns-clause-ended
returns-clause-ended c = ended_law
