use Rattle.std.proofs.Common.{take}
use Rattle.std.specs.List.{All}
use Rattle.db_image.specs.Imaged.{IsRanged}
use Rattle.db_image.proofs.image_segments.fit_their_types.Given as goal

abbrev pub invariant-loop-slot : goal.invariant-loop-slot
invariant-loop-slot g l = All IsRanged (take l.slot l.segment.records)
