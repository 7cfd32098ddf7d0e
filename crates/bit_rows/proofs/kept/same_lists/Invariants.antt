use Rattle.std.proofs.Common.{◌≡◌, take, map}
use Rattle.std.specs.List.{All}
use Rattle.bit_rows.specs.Segments.{all_of, HasMost}
use Rattle.bit_rows.proofs.kept.same_lists.Given as goal

abbrev pub invariant-loop-list : goal.invariant-loop-list
invariant-loop-list l = record {
  same : map all_of l.all.items ≡ map all_of (take l.list-index l.lists);
  rooms : All HasMost l.all.items;
}
