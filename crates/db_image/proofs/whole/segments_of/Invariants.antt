use Rattle.std.proofs.Common.{◌≡◌, take}
use Rattle.db_image.specs.Parts.{segments_from}
use Rattle.db_image.proofs.whole.segments_of.Given as goal

abbrev pub invariant-loop-r : goal.invariant-loop-r
invariant-loop-r l = l.made.items ≡ segments_from l.relations 0 (take l.r l.lists)
