use Rattle.std.proofs.Common.{◌≡◌, ◌≤◌, take, map}
use Rattle.std.specs.Prelude.{vec_capacity}
use Rattle.std.specs.List.{All}
use Rattle.db_store.specs.Fits.{most_branches}
use Rattle.hybrid_store.specs.Stored.{HasRoom, roomless}
use Rattle.hybrid_store.proofs.same.same_lanes.Given as goal

abbrev pub invariant-loop-lane : goal.invariant-loop-lane
invariant-loop-lane l = record {
  same : map roomless l.all.items ≡ map roomless (take l.lane-index l.lanes);
  rooms : All (HasRoom 0) l.all.items;
  room : most_branches ≤ vec_capacity l.all;
}
