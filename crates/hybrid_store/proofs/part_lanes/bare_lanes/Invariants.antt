use Rattle.std.proofs.Common.{◌≡◌, ◌<◌, ℕ, [], length, map, take, get_or}
use Rattle.std.specs.List.{range_with_len}
use Rattle.bit_rows.specs.Kept.{KeptLane, no_kept}
use Rattle.hybrid_store.specs.Parts.{no_branch_part, bases_from}
use Rattle.hybrid_store.specs.Assembled.{rows_of_parts, begun_bare}
use Rattle.hybrid_store.proofs.part_lanes.bare_lanes.Given as goal

abbrev pub invariant-loop-index : goal.invariant-loop-index
invariant-loop-index l = record {
  count : length l.lanes.items ≡ l.index;
  bases : map (λ (k : KeptLane). k.base) l.lanes.items ≡ bases_from [] (take l.index l.branches);
  each : (b : ℕ) → b < l.index → get_or l.lanes.items b no_kept ≡ begun_bare (get_or l.branches b no_branch_part) (get_or l.lanes.items b no_kept).base (map (λ r. rows_of_parts l.segments b r) (range_with_len 0 l.width));
}
