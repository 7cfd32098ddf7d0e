use Rattle.std.proofs.Common.{◌≡◌, take}
use Rattle.commit_history.specs.Combined.{xor_of, combined}
use Rattle.commit_history.proofs.history.combine_all.Given as goal

-- the bitmap has the deltas so far
abbrev pub invariant-loop-delta : goal.invariant-loop-delta
invariant-loop-delta l = l.bits ≡ xor_of (combined (take l.delta-index l.deltas)) l.fn.bits
