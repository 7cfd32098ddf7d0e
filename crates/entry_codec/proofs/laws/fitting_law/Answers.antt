use Rattle.entry_codec.proofs.Fitting.{fitting}
use Rattle.entry_codec.proofs.laws.fitting_law.Goals as goal

pub returns : goal.returns
returns c = fitting
