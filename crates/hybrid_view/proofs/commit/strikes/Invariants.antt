use Rattle.std.proofs.Common.{◌≡◌, ℕ, false, take}
use Rattle.hybrid_view.specs.Struck.{struck}
use Rattle.hybrid_view.proofs.commit.strikes.Given as goal

abbrev pub invariant-loop-place : goal.invariant-loop-place
invariant-loop-place l = (slot : ℕ) → struck (take l.place-index l.places) l.segment slot ≡ false
