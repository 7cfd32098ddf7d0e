use Rattle.std.proofs.Common.{◌≡◌, ◌+◌, ◌≤◌, ◌++◌}
use Rattle.db_value.specs.Pred.{pred_holds}
use Rattle.multi_scan.specs.Places.{shown, part_of, found_shared}
use Rattle.multi_scan.proofs.slots.gather_part.Given as goal

abbrev pub invariant-loop-slot : goal.invariant-loop-slot
invariant-loop-slot g l =
    let views = shown g.V.View.parts_of l.relation l.views in
    record {
      found : l.found ≡ l.initial.found ++ found_shared (pred_holds l.pred) views (part_of views l.first) l.places l.slot;
      cost : l.steps ≤ l.initial.steps + l.slot;
    }
