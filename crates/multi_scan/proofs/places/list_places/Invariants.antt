use Rattle.std.proofs.Common.{◌≡◌, ◌++◌, map, drop}
use Rattle.multi_scan.specs.Places.{places_in}
use Rattle.multi_scan.proofs.places.list_places.Given as goal

-- the places so far with those of the other views are all
abbrev pub invariant-loop-index : goal.invariant-loop-index
invariant-loop-index g l =
    l.places.items ++ places_in l.index (map (λ v. g.V.View.parts_of v l.relation) (drop l.index l.views)) ≡ places_in 0 (map (λ v. g.V.View.parts_of v l.relation) l.views)
