use Rattle.std.proofs.Common.{take}
use Rattle.segment.specs.Slots.{IsGreatest}
use Rattle.segment.proofs.slot.look_through.Given as goal

abbrev pub invariant-loop-keyed : goal.invariant-loop-keyed
invariant-loop-keyed l = IsGreatest (take l.keyed-index l.slots) l.key l.bound l.last
