use Rattle.std.proofs.Common.{◌≡◌, take}
use Rattle.hybrid_view.specs.Spots.{spots_of_pieces}
use Rattle.hybrid_view.proofs.spots.index_anew.Given as goal

abbrev pub invariant-loop-part : goal.invariant-loop-part
invariant-loop-part l = l.spots.items ≡ spots_of_pieces (take l.part-index l.parts)
