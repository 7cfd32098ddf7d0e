use Rattle.std.proofs.Common.{◌≤◌, ◌-◌, length, drop}
use Rattle.key_index.specs.Links.{blocks_of, entries_of}
use Rattle.key_index.proofs.Linked.{Pushed}
use Rattle.key_index.proofs.leaf.push_parts.Given as goal

abbrev pub invariant-loop-from : goal.invariant-loop-from
invariant-loop-from l = record {
  within : l.from ≤ length l.spots;
  pushed : Pushed (blocks_of l.fn.to.items) (blocks_of l.to.items) (entries_of l.spots) (entries_of (drop l.from l.spots));
}

abbrev pub decreases-loop-from : goal.decreases-loop-from
decreases-loop-from l = length l.spots - l.from
