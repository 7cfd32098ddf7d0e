use Rattle.std.proofs.Common.{◌≡◌, ◌≤◌, take, vec_capacity}
use Rattle.commit_history.proofs.level.copies.Given as goal

-- the copies so far are the deltas so far
abbrev pub invariant-loop-delta : goal.invariant-loop-delta
invariant-loop-delta l = record {
  items : l.copies.items ≡ take l.delta-index l.deltas;
  room : l.room ≤ vec_capacity l.copies;
}
