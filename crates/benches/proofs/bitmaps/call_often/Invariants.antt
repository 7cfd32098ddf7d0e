use Rattle.std.proofs.Common.{◌≡◌, length}
use Rattle.benches.proofs.bitmaps.call_often.Given as goal

abbrev pub invariant-loop-turn : goal.invariant-loop-turn
invariant-loop-turn l = length l.into ≡ 262144
