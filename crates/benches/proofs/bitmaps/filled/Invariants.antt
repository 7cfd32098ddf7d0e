use Rattle.std.proofs.Common.{◌≡◌, length}
use Rattle.benches.proofs.bitmaps.filled.Given as goal

abbrev pub invariant-loop-place : goal.invariant-loop-place
invariant-loop-place l = length l.bits ≡ 262144
