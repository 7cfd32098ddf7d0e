use Rattle.std.proofs.Common.{◌≡◌, T, drop, nat_cmp}
use Rattle.std.specs.FinMap.{is_sorted}
use Rattle.key_index.specs.Links.{entries_of}
use Rattle.key_index.specs.Runs.{all_changed}
use Rattle.key_index.proofs.leaf.change_spots.Given as goal

abbrev pub invariant-loop-change : goal.invariant-loop-change
invariant-loop-change l = record {
  sorted : T (is_sorted nat_cmp (entries_of l.spots.items));
  told : all_changed (entries_of l.spots.items) (drop l.change-index l.changes) ≡ all_changed (entries_of l.fn.spots.items) l.changes;
}
