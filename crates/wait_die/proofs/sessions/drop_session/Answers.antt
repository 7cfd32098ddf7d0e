use Rattle.std.proofs.Common.{rules}
use Rattle.wait_die.specs.Waiting.{is_other}
use Rattle.wait_die.proofs.Retained.{retained}
use Rattle.wait_die.proofs.sessions.drop_session.Goals as goal

pub returns-clause-items : goal.returns-clause-items
returns-clause-items c = retained _ (is_other c.args.session) _ (λ x b q k. search rules) _ _ c.retain.ensures.filtered
