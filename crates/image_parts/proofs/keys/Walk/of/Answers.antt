use Rattle.std.proofs.Common.{◌≡◌, ℕ, refl}
use Rattle.image_parts.proofs.Turns.{none_set}
use Rattle.image_parts.proofs.keys.Walk.of.Goals as goal

pub returns-clause-agrees : goal.returns-clause-agrees
returns-clause-agrees c = λ numbers len small. none_set numbers _ c.args.size len small c.in_ok-clear_bits.ensures c.in_ok-no_counts.ensures refl refl
