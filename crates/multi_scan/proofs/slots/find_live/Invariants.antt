use Rattle.std.proofs.Common.{◌≡◌, ◌++◌, drop}
use Rattle.multi_scan.specs.Places.{shown, live_at}
use Rattle.multi_scan.proofs.slots.find_live.Given as goal

-- the positions so far with those of the other places are all
abbrev pub invariant-loop-place : goal.invariant-loop-place
invariant-loop-place g l =
    let views = shown g.V.View.parts_of l.relation l.views in
    l.live.items ++ live_at views l.slot (drop l.place-index l.places) ≡ live_at views l.slot l.places
