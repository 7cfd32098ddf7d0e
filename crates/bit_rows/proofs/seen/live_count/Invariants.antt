use Rattle.std.proofs.Common.{◌≡◌, ◌+◌, length, drop}
use Rattle.hybrid_view.specs.Spots.{spots_of_pieces}
use Rattle.bit_rows.proofs.seen.live_count.Given as goal

abbrev pub invariant-loop-part : goal.invariant-loop-part
invariant-loop-part l = l.count + length (spots_of_pieces (drop l.part-index l.parts)) ≡ length (spots_of_pieces l.parts)
