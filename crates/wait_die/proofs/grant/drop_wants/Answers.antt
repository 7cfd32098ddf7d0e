use Rattle.std.proofs.Common.{rules}
use Rattle.wait_die.specs.Waiting.{is_of_other}
use Rattle.wait_die.proofs.Retained.{retained}
use Rattle.wait_die.proofs.grant.drop_wants.Goals as goal

pub returns : goal.returns
returns c = retained _ (is_of_other c.args.session) _ (λ x b q k. search rules) _ _ c.retain.ensures.filtered
