use Rattle.std.proofs.Common.{◌≡◌, map, take}
use Rattle.db_image.specs.Parts.{bits_of}
use Rattle.db_image.proofs.rows.history_of.Given as goal

abbrev pub invariant-loop-delta : goal.invariant-loop-delta
invariant-loop-delta l = l.history ≡ map (bits_of l.size) (take l.delta-index l.deltas)
