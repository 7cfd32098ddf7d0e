use Rattle.std.proofs.Common.{◌-◌, ◌*◌}
use Rattle.plain_bits.specs.Truth.{IsClearFrom}
use Rattle.db_image.proofs.image_deltas.end_word.Given as goal

abbrev pub invariant-loop-index : goal.invariant-loop-index
invariant-loop-index l = IsClearFrom l.bits (64 * (l.count - l.index))
