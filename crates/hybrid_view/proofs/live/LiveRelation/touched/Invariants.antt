use Rattle.std.proofs.Common.{◌≡◌, ◌+◌, ◌≤◌, ◌^◌, take, drop, length}
use Rattle.std.specs.FinMap.{len}
use Rattle.db_store.specs.Counts.{counted}
use Rattle.db_store.specs.LayoutGrowth.{puts}
use Rattle.hybrid_view.specs.Live.{contents_in}
use Rattle.hybrid_view.specs.Struck.{touched_places}
use Rattle.hybrid_view.proofs.live.LiveRelation.touched.Given as goal

abbrev pub invariant-loop-at : goal.invariant-loop-at
invariant-loop-at l =
    let m = contents_in l.self in
    record {
      places : l.places.items ≡ touched_places l.self.pieces (take l.at l.changes) l.relation;
      keys : counted l.relation m l.keys (drop l.at l.changes) ≡ counted l.relation m (len m) l.changes;
      few_keys : l.keys ≤ 2 ^ 32 + l.at;
      puts : l.puts + length (puts (drop l.at l.changes) l.relation) ≡ length (puts l.changes l.relation);
      few : l.puts ≤ l.at;
    }
