use Rattle.std.proofs.Common.{◌≤◌, List, map, sym, subst, arith}
use Rattle.std.specs.List.{All}
use Rattle.std.specs.List.Sorted.{IsPermutation, IsSorted}
use Rattle.db_value.specs.Pred.{pred_holds}
use Rattle.multi_scan.specs.declared.places.Place.{Place}
use Rattle.multi_scan.specs.Found.{AreSame, HasPositions, spread}
use Rattle.multi_scan.specs.Places.{shown, part_of, place_cmp, places_in, IsPlace, found_at_places}
use Rattle.multi_scan.specs.Cost.{slots_of_distinct}
use Rattle.multi_scan.proofs.Distinct.{distinct_slots}
use Rattle.multi_scan.proofs.Agreeing.{places_there, scan_cost}
use Rattle.multi_scan.proofs.Totals.{all_moved}
use Rattle.multi_scan.proofs.Views.{scanned}
use Rattle.multi_scan.proofs.scans.scan.Goals as goal

pub gather-requires-clause-places : goal.gather-requires-clause-places
gather-requires-clause-places g c =
    let views = shown g.V.View.parts_of c.args.relation c.args.views.now in
    record {
      there = subst (All (IsPlace views)) (sym c.deref.ensures.value) (places_there views c.by_id-places.result.items (subst (λ (t : List Place). IsPermutation t c.by_id-places.result.items) c.in_ok-list_places.ensures c.by_id-places.ensures.permutation));
      sorted = subst (IsSorted place_cmp) (sym c.deref.ensures.value) c.by_id-places.ensures.sorted;
    }

pub returns-in_err-found-clause-cost : goal.returns-in_err-found-clause-cost
returns-in_err-found-clause-cost g c =
    let views = shown g.V.View.parts_of c.args.relation c.args.views.now in
    let moved : IsPermutation (places_in 0 views) c.by_id-places.result.items = subst (λ (t : List Place). IsPermutation t c.by_id-places.result.items) c.in_ok-list_places.ensures c.by_id-places.ensures.permutation in
    let cost : distinct_slots (map (part_of views) c.deref.result.now) ≤ slots_of_distinct views = subst (λ (t : List Place). distinct_slots (map (part_of views) t) ≤ slots_of_distinct views) (sym c.deref.ensures.value) (scan_cost views c.requires.agree c.by_id-places.result.items moved) in
    omega (arith, cost, c.gather.ensures.cost)

pub returns-in_err-rows-clause-cost : goal.returns-in_err-rows-clause-cost
returns-in_err-rows-clause-cost g c =
    let views = shown g.V.View.parts_of c.args.relation c.args.views.now in
    let moved : IsPermutation (places_in 0 views) c.by_id-places.result.items = subst (λ (t : List Place). IsPermutation t c.by_id-places.result.items) c.in_ok-list_places.ensures c.by_id-places.ensures.permutation in
    let cost : distinct_slots (map (part_of views) c.deref.result.now) ≤ slots_of_distinct views = subst (λ (t : List Place). distinct_slots (map (part_of views) t) ≤ slots_of_distinct views) (sym c.deref.ensures.value) (scan_cost views c.requires.agree c.by_id-places.result.items moved) in
    omega (arith, cost, c.gather.ensures.cost)

pub join-requires : goal.join-requires
join-requires g c = all_moved HasPositions c.in_ok-found.found c.sort.new.self c.sort.ensures.permutation c.in_ok-found.ensures.positions

pub returns-clause-rows : goal.returns-clause-rows
returns-clause-rows g c =
    let views = shown g.V.View.parts_of c.args.relation c.args.views.now in
    let p = pred_holds c.args.pred.now in
    let moved : IsPermutation (places_in 0 views) c.by_id-places.result.items = subst (λ (t : List Place). IsPermutation t c.by_id-places.result.items) c.in_ok-list_places.ensures c.by_id-places.ensures.permutation in
    let same : AreSame (spread c.in_ok-found.found) (found_at_places p views c.by_id-places.result.items) = subst (λ (t : List Place). AreSame (spread c.in_ok-found.found) (found_at_places p views t)) c.deref.ensures.value c.in_ok-found.ensures.found in
    scanned g.V.View.table g.V.View.parts_of c.args.relation p g.met.V.View.rows_are c.args.views.now c.by_id-places.result.items c.in_ok-found.found c.sort.new.self c.in_ok-rows.rows c.requires.relation moved same c.sort.ensures.permutation c.sort.ensures.sorted c.in_ok-rows.ensures

pub returns-clause-cost : goal.returns-clause-cost
returns-clause-cost g c =
    let views = shown g.V.View.parts_of c.args.relation c.args.views.now in
    let moved : IsPermutation (places_in 0 views) c.by_id-places.result.items = subst (λ (t : List Place). IsPermutation t c.by_id-places.result.items) c.in_ok-list_places.ensures c.by_id-places.ensures.permutation in
    let cost : distinct_slots (map (part_of views) c.deref.result.now) ≤ slots_of_distinct views = subst (λ (t : List Place). distinct_slots (map (part_of views) t) ≤ slots_of_distinct views) (sym c.deref.ensures.value) (scan_cost views c.requires.agree c.by_id-places.result.items moved) in
    omega (arith, cost, c.gather.ensures.cost)
