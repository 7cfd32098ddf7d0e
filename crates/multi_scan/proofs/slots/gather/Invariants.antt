use Rattle.std.proofs.Common.{◌+◌, ◌≤◌, ◌++◌, map, length}
use Rattle.std.specs.List.{AllByRecursion}
use Rattle.db_value.specs.Pred.{pred_holds}
use Rattle.db_store.specs.Rows.{slots_of}
use Rattle.multi_scan.specs.Found.{AreSame, HasPositions, spread}
use Rattle.multi_scan.specs.Places.{shown, part_of, IsPlace, found_at_places}
use Rattle.multi_scan.specs.Cost.{distinct_parts}
use Rattle.multi_scan.proofs.PlaceLemmas.{ById}
use Rattle.multi_scan.proofs.slots.gather.Given as goal

-- what was found with what the other places have is all
abbrev pub invariant-loop-rest : goal.invariant-loop-rest
invariant-loop-rest g l =
    let views = shown g.V.View.parts_of l.relation l.views in
    record {
      found : AreSame (spread l.found ++ found_at_places (pred_holds l.pred) views l.rest) (found_at_places (pred_holds l.pred) views l.places);
      positions : AllByRecursion HasPositions l.found;
      places : AllByRecursion (IsPlace views) l.rest;
      sorted : ById l.rest;
      cost : l.steps + slots_of (distinct_parts (map (part_of views) l.rest)) ≤ l.initial.steps + slots_of (distinct_parts (map (part_of views) l.places));
    }

abbrev pub decreases-loop-rest : goal.decreases-loop-rest
decreases-loop-rest g l = length l.rest
