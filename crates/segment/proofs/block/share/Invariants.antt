use Rattle.std.proofs.Common.{◌≡◌, ◌++◌, map, take}
use Rattle.std.specs.Arc.{arc_value}
use Rattle.segment.proofs.block.share.Given as goal

abbrev pub invariant-loop-link : goal.invariant-loop-link
invariant-loop-link g l = map arc_value l.to.items ≡ map arc_value l.initial.to.items ++ map arc_value (take l.link-index l.links)
