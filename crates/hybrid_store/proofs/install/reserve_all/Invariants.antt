use Rattle.std.proofs.Common.{take}
use Rattle.std.specs.List.{All, AllZip}
use Rattle.hybrid_store.specs.Stored.{HasRoom, Widens}
use Rattle.hybrid_store.proofs.install.reserve_all.Given as goal

abbrev pub invariant-loop-lane : goal.invariant-loop-lane
invariant-loop-lane l = AllZip Widens l.initial.lane-items l.lane-items × All (HasRoom l.more) (take l.lane-index l.lane-items)
