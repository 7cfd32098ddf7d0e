use Rattle.std.proofs.Common.{ap, ◌∙◌}
use Rattle.commit_history.specs.Combined.{xor_of}
use Rattle.commit_history.proofs.Exclusive.{xor_of-nil}
use Rattle.commit_history.proofs.delta.Delta.bits.Goals as goal

pub returns : goal.returns
returns c = c.in_ok-combine.ensures.combined ∙ ap (xor_of c.args.self.now) c.new-bits.ensures ∙ xor_of-nil c.args.self.now
