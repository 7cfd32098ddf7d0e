use Rattle.std.proofs.Common.{ap, ◌∙◌}
use Rattle.commit_history.specs.Sparse.{bit_in}
use Rattle.commit_history.proofs.Places.{bit_in-push}
use Rattle.commit_history.proofs.delta.push_word.Goals as goal

pub returns-in_ok-push-clause-bits : goal.returns-in_ok-push-clause-bits
returns-in_ok-push-clause-bits c = λ place.
    ap (λ words. bit_in words place) c.in_ok-push.ensures.items ∙ bit_in-push c.args.words.now.items _ place
