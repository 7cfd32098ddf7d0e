use Rattle.db_core.proofs.session.needs_by.Goals as goal

pub returns : goal.returns
returns g c = c.in_ok-needs.ensures _ _ c.requires.known
