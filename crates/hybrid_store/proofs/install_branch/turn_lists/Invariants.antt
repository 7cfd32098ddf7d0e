use Rattle.std.proofs.Common.{◌≡◌, ◌≤◌, ◌<◌, ℕ, map, length, get_or, vec_len}
use Rattle.std.specs.Arc.{arc_value}
use Rattle.bit_rows.specs.Segments.{no_list, turned_list}
use Rattle.hybrid_store.specs.Ready.{no_own}
use Rattle.hybrid_store.specs.Stored.{head_number}
use Rattle.hybrid_store.proofs.install_branch.turn_lists.Given as goal

abbrev pub invariant-loop-own : goal.invariant-loop-own
invariant-loop-own l = record {
  count : length l.segments.items ≡ length l.initial.segments.items;
  within : length l.heads.items ≤ length l.initial.segments.items;
  left : (r : ℕ) → r < length l.heads.items → get_or (map arc_value l.heads.items) r no_own ≡ get_or (map arc_value l.initial.heads.items) r no_own;
  same : (r : ℕ) → r < length l.heads.items → get_or l.segments.items r no_list ≡ get_or l.initial.segments.items r no_list;
  done : (r : ℕ) → length l.heads.items ≤ r → r < length l.initial.segments.items
      → get_or l.segments.items r no_list ≡ turned_list (get_or l.initial.segments.items r no_list) (head_number l.initial.segments.items l.branch r) l.branch (get_or (map arc_value l.initial.heads.items) r no_own);
}

abbrev pub decreases-loop-own : goal.decreases-loop-own
decreases-loop-own l = vec_len l.heads
