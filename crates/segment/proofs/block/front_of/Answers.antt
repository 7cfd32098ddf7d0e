use Rattle.std.proofs.Common.{arith}
use Rattle.std.proofs.lemmas.List.{take-map}
use Rattle.std.proofs.lemmas.Grind.{common_steps}
use Rattle.segment.proofs.block.front_of.Goals as goal

pub returns : goal.returns
returns c = grind (arith, common_steps, take-map)
