use Rattle.std.proofs.Common.{ap, length, arith}
use Rattle.key_index.proofs.Trails.{none_there}
use Rattle.key_index.proofs.overlay.Overlay.with_room.Goals as goal

pub invariant_of-result : goal.invariant_of-result
invariant_of-result g c =
    let none = ap length c.in_ok-with_capacity.ensures.items in
    (none_there _ c.in_ok-with_capacity.ensures.items, omega (arith, none, c.in_ok-with_capacity.ensures.capacity), omega (arith, none, c.ranges.n.fits))
