use Rattle.std.proofs.Common.{length, sym, ap, ◌∙◌}
use Rattle.commit_history.proofs.Places.{length-values_of}
use Rattle.commit_history.proofs.delta.Delta.len.Goals as goal

pub returns : goal.returns
returns c = sym (length-values_of c.self.inside.len c.self.inside.words.items) ∙ ap length c.self.view_is
