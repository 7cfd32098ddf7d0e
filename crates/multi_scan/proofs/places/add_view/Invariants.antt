use Rattle.std.proofs.Common.{◌≡◌, ◌++◌, drop}
use Rattle.multi_scan.specs.Places.{places_from}
use Rattle.multi_scan.proofs.places.add_view.Given as goal

abbrev pub invariant-loop-index : goal.invariant-loop-index
invariant-loop-index g l =
    let parts = g.V.View.parts_of l.view l.relation in
    l.places.items ++ places_from l.position l.index (drop l.index parts) ≡ l.initial.places.items ++ places_from l.position 0 parts
