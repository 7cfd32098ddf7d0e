use Rattle.std.proofs.Common.{◌≡◌, ◌≤◌, ◌<◌, ℕ, length, vec_len}
use Rattle.bit_rows.specs.Rows.{kept_row_at, next_at, pushed_row}
use Rattle.bit_rows.proofs.rows.push_each.Given as goal

abbrev pub invariant-loop-next : goal.invariant-loop-next
invariant-loop-next l = record {
  count : length l.rows.items ≡ length l.initial.rows.items;
  within : length l.nexts.items ≤ length l.initial.rows.items;
  left : (i : ℕ) → i < length l.nexts.items → next_at l.nexts.items i ≡ next_at l.initial.nexts.items i;
  same : (i : ℕ) → i < length l.nexts.items → kept_row_at l.rows.items i ≡ kept_row_at l.initial.rows.items i;
  done : (i : ℕ) → length l.nexts.items ≤ i → i < length l.initial.rows.items → kept_row_at l.rows.items i ≡ pushed_row (kept_row_at l.initial.rows.items i) (next_at l.initial.nexts.items i);
}

abbrev pub decreases-loop-next : goal.decreases-loop-next
decreases-loop-next l = vec_len l.nexts
