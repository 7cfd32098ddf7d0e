use Rattle.std.proofs.Common.{rules}
use Rattle.wait_die.specs.Waiting.{is_apart}
use Rattle.wait_die.proofs.Retained.{retained}
use Rattle.wait_die.proofs.grant.drop_waits.Goals as goal

pub returns : goal.returns
returns c = retained _ (is_apart c.args.session) _ (λ x b q k. search rules) _ _ c.retain.ensures.filtered
