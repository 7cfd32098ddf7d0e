use Rattle.std.proofs.Common.{◌<◌, length, arith, None}
use Rattle.key_index.specs.declared.changes.SpotChange.{SpotChange}
use Rattle.key_index.specs.Links.{entries_of}
use Rattle.key_index.proofs.Order.{sorted_changed}
use Rattle.key_index.proofs.Runs.{made_one}
use Rattle.key_index.proofs.leaf.change_spots.Goals as goal

pub loop-change-preserved : goal.loop-change-preserved
loop-change-preserved c =
    let here : c.loop-change.change-index < length c.args.changes.now = omega arith in
    let d : SpotChange = record { key = 0; place = None } in
    record {
      sorted = rw c.in_ok-change_spot.ensures (sorted_changed (entries_of c.loop-change.spots.items) _ _ c.loop-change.invariant.sorted);
      told = made_one c.args.changes.now c.loop-change.change-index d (entries_of c.loop-change.spots.items) (entries_of c.change_spot.new.spots.items) _ here c.in_ok-change_spot.ensures c.loop-change.invariant.told;
    }
