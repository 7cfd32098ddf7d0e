use Rattle.std.proofs.Common.{◌≡◌, ◌∷◌, [], ℕ, ◌<◌, ◌≤◌, Some, length, map, get_or}
use Rattle.std.specs.Arc.{arc_value}
use Rattle.bit_rows.specs.Segments.{no_list, most_segments}
use Rattle.hybrid_store.specs.New.{own_at}
use Rattle.hybrid_store.proofs.new.new_segments.Given as goal

abbrev pub invariant-loop-head : goal.invariant-loop-head
invariant-loop-head l = record {
  count : length l.lists.items ≡ l.head-index;
  all : (r : ℕ) → r < l.head-index → (get_or l.lists.items r no_list).all ≡ record { head = Some 0; rows = own_at (map arc_value l.heads) r } ∷ [];
  room : (r : ℕ) → r < l.head-index → most_segments ≤ (get_or l.lists.items r no_list).room;
}
