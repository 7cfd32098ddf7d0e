use Rattle.std.proofs.Common.{◌≡◌, ◌≤◌, ◌<◌, ℕ, map, length, get_or, vec_len}
use Rattle.std.specs.Arc.{arc_value}
use Rattle.bit_rows.specs.Segments.{no_list, with_records}
use Rattle.hybrid_store.specs.Ready.{no_own}
use Rattle.hybrid_store.specs.Stored.{head_number}
use Rattle.hybrid_store.proofs.install.put_records.Given as goal

abbrev pub invariant-loop-own : goal.invariant-loop-own
invariant-loop-own l = record {
  count : length l.segments.items ≡ length l.initial.segments.items;
  within : length l.records.items ≤ length l.initial.segments.items;
  left : (r : ℕ) → r < length l.records.items → get_or (map arc_value l.records.items) r no_own ≡ get_or (map arc_value l.initial.records.items) r no_own;
  same : (r : ℕ) → r < length l.records.items → get_or l.segments.items r no_list ≡ get_or l.initial.segments.items r no_list;
  done : (r : ℕ) → length l.records.items ≤ r → r < length l.initial.segments.items
      → get_or l.segments.items r no_list ≡ with_records (get_or l.initial.segments.items r no_list) (head_number l.initial.segments.items l.branch r) (get_or (map arc_value l.initial.records.items) r no_own);
}

abbrev pub decreases-loop-own : goal.decreases-loop-own
decreases-loop-own l = vec_len l.records
