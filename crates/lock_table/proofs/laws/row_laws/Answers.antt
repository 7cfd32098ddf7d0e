use Rattle.lock_table.proofs.Least.{holder_law, cover_law}
use Rattle.lock_table.proofs.Added.{added_law, without_law}
use Rattle.lock_table.proofs.laws.row_laws.Goals as goal

pub returns-clause-holder : goal.returns-clause-holder
returns-clause-holder c = holder_law

pub returns-clause-cover : goal.returns-clause-cover
returns-clause-cover c = cover_law

pub returns-clause-added : goal.returns-clause-added
returns-clause-added c = added_law

pub returns-clause-without : goal.returns-clause-without
returns-clause-without c = without_law
