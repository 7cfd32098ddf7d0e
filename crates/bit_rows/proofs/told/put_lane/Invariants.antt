use Rattle.std.proofs.Common.{◌≡◌, ◌++◌, take}
use Rattle.hybrid_view.specs.Live.{lived_at}
use Rattle.bit_rows.specs.Told.{lives_of}
use Rattle.bit_rows.proofs.told.put_lane.Given as goal

abbrev pub invariant-loop-index : goal.invariant-loop-index
invariant-loop-index l = l.lives.items ≡ l.initial.lives.items ++ lives_of l.lane.name l.segment (take l.index (lived_at l.lane.head l.relation).pieces)
