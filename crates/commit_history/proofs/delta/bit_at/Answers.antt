use Rattle.std.proofs.Common.{◌≡◌, ℕ, ◌*◌, ◌^◌, ◌%◌, ◌<◌, arith}
use Rattle.std.proofs.lemmas.Nat.{one_shl}
use Rattle.commit_history.proofs.Places.{place_bit, place_fits}
use Rattle.commit_history.proofs.delta.bit_at.Goals as goal

shifted : (place : ℕ) → 1 * 2 ^ (place % 64) % 2 ^ 64 ≡ 2 ^ (place % 64)
shifted place = one_shl (place % 64) 64 (omega arith)

pub returns-clause-bit : goal.returns-clause-bit
returns-clause-bit c = λ k. place_bit c.args.place _ k (shifted c.args.place)

pub returns-clause-fits : goal.returns-clause-fits
returns-clause-fits c = λ len lt. place_fits c.args.place _ len (shifted c.args.place) lt
