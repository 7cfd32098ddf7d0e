use Rattle.std.proofs.Common.{◌≡◌, ◌++◌, ◌<◌, ◌≤◌, ℕ, List, length, get_or, reverse, vec_len, vec_capacity}
use Rattle.db_store.specs.Fits.{most_branches}
use Rattle.bit_rows.specs.Kept.{KeptLane, no_kept}
use Rattle.hybrid_store.specs.Assembled.{IsSeenLane}
use Rattle.hybrid_store.proofs.part_lanes.seen_lanes.Given as goal

abbrev pub invariant-loop-lane : goal.invariant-loop-lane
invariant-loop-lane l = record {
  rest : (done : List KeptLane) × ((done ++ reverse l.rest.items ≡ l.fn.bare.items) × (length done ≡ length l.lanes.items));
  each : (b : ℕ) → b < length l.lanes.items → IsSeenLane l.lists (get_or l.fn.bare.items b no_kept) (get_or l.lanes.items b no_kept);
  room : most_branches ≤ vec_capacity l.lanes;
}

abbrev pub decreases-loop-lane : goal.decreases-loop-lane
decreases-loop-lane l = vec_len l.rest
