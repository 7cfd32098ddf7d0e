use Rattle.std.proofs.Common.{◌++◌, ap, arith, subst, sym}
use Rattle.std.specs.List.{AllByRecursion}
use Rattle.std.proofs.lemmas.List.Elements.{recursion_from_All, All-from_recursion}
use Rattle.db_value.specs.Pred.{pred_holds}
use Rattle.multi_scan.specs.Found.{HasPositions, spread, times}
use Rattle.multi_scan.specs.Places.{shown, IsPlace, found_at_places}
use Rattle.multi_scan.proofs.PlaceLemmas.{by_ids}
use Rattle.multi_scan.proofs.Agreeing.{front, next_positions, Run, run_front, next_found, found_all}
use Rattle.multi_scan.proofs.slots.gather.Goals as goal

pub loop-rest-init : goal.loop-rest-init
loop-rest-init g c =
    let views = shown g.V.View.parts_of c.args.relation c.args.views.now in
    record {
      found = λ q. ap (λ fs. times q (spread fs ++ found_at_places (pred_holds c.args.pred.now) views c.args.places.now)) c.new-found.ensures;
      positions = subst (AllByRecursion HasPositions) (sym c.new-found.ensures) tt;
      places = recursion_from_All (IsPlace views) c.args.places.now c.requires.places.there;
      sorted = by_ids c.args.places.now c.requires.places.sorted;
      cost = omega arith;
    }

pub gather_part-requires-clause-records : goal.gather_part-requires-clause-records
gather_part-requires-clause-records g c =
    let views = shown g.V.View.parts_of c.args.relation c.args.views.now in
    let run : Run views c.requires.agree (pred_holds c.args.pred.now) (front c.loop-rest.rest.now) c.loop-rest.rest.now c.split_at.result.0.now c.split_at.result.1.now = run_front views c.requires.agree (pred_holds c.args.pred.now) c.loop-rest.rest.now _ _ _ c.in-len1-up.len_at_least c.count_id.ensures.value c.split_at.ensures.front c.split_at.ensures.back c.loop-rest.invariant.places c.loop-rest.invariant.sorted in
    All-from_recursion _ _ run.shows

pub returns-in_err-gather_part-clause-cost : goal.returns-in_err-gather_part-clause-cost
returns-in_err-gather_part-clause-cost g c =
    let views = shown g.V.View.parts_of c.args.relation c.args.views.now in
    let run : Run views c.requires.agree (pred_holds c.args.pred.now) (front c.loop-rest.rest.now) c.loop-rest.rest.now c.split_at.result.0.now c.split_at.result.1.now = run_front views c.requires.agree (pred_holds c.args.pred.now) c.loop-rest.rest.now _ _ _ c.in-len1-up.len_at_least c.count_id.ensures.value c.split_at.ensures.front c.split_at.ensures.back c.loop-rest.invariant.places c.loop-rest.invariant.sorted in
    omega (arith, run.cost, c.gather_part.ensures.cost, c.loop-rest.invariant.cost)

pub loop-rest-preserved : goal.loop-rest-preserved
loop-rest-preserved g c =
    let views = shown g.V.View.parts_of c.args.relation c.args.views.now in
    let run : Run views c.requires.agree (pred_holds c.args.pred.now) (front c.loop-rest.rest.now) c.loop-rest.rest.now c.split_at.result.0.now c.split_at.result.1.now = run_front views c.requires.agree (pred_holds c.args.pred.now) c.loop-rest.rest.now _ _ _ c.in-len1-up.len_at_least c.count_id.ensures.value c.split_at.ensures.front c.split_at.ensures.back c.loop-rest.invariant.places c.loop-rest.invariant.sorted in
    record {
      found = next_found views c.requires.agree (pred_holds c.args.pred.now) (front c.loop-rest.rest.now) c.args.places.now c.loop-rest.rest.now _ _ c.loop-rest.found _ run c.in_ok-gather_part.ensures.found c.loop-rest.invariant.found;
      positions = next_positions views c.requires.agree (pred_holds c.args.pred.now) (front c.loop-rest.rest.now) c.loop-rest.rest.now _ _ c.loop-rest.found _ run c.in_ok-gather_part.ensures.found c.loop-rest.invariant.positions;
      places = run.places;
      sorted = run.sorted;
      cost = omega (arith, run.cost, c.gather_part.ensures.cost, c.loop-rest.invariant.cost);
    }

pub returns-clause-found : goal.returns-clause-found
returns-clause-found g c = found_all (pred_holds c.args.pred.now) (shown g.V.View.parts_of c.args.relation c.args.views.now) c.loop-rest.rest.now c.args.places.now (spread c.loop-rest.found) c.in_default.len_below c.loop-rest.invariant.found
