use Rattle.std.proofs.Common.{◌≡◌, length}
use Rattle.store_tests.proofs.plain_bits_tests.bits_of.Given as goal

abbrev pub invariant-loop-place : goal.invariant-loop-place
invariant-loop-place l = length l.bits ≡ l.len
