use Rattle.std.proofs.Common.{◌≡◌, ◌≤◌, ◌-◌, length, drop}
use Rattle.key_index.specs.Blocks.{IsOrdered, entries_in}
use Rattle.key_index.specs.Links.{blocks_of}
use Rattle.key_index.specs.Runs.{all_changed}
use Rattle.key_index.proofs.node.change_leaves.Given as goal

abbrev pub invariant-loop-made : goal.invariant-loop-made
invariant-loop-made l = record {
  within : l.made ≤ length l.changes;
  ordered : IsOrdered (blocks_of l.leaves.items);
  told : all_changed (entries_in (blocks_of l.leaves.items)) (drop l.made l.changes) ≡ all_changed (entries_in (blocks_of l.fn.leaves.items)) l.changes;
}

abbrev pub decreases-loop-made : goal.decreases-loop-made
decreases-loop-made l = length l.changes - l.made
