use Rattle.std.proofs.Common.{◌≡◌, ◌≤◌, ◌<◌, ℕ, [], length, get_or, vec_len}
use Rattle.bit_rows.specs.Rows.{kept_row_at, next_at, pushed_row}
use Rattle.bit_rows.specs.Kept.{nexts_at}
use Rattle.bit_rows.proofs.lane.push_all.Given as goal

abbrev pub invariant-loop-nexts : goal.invariant-loop-nexts
invariant-loop-nexts l = record {
  count : length l.rows.items ≡ length l.initial.rows.items;
  within : length l.deltas.items ≤ length l.initial.rows.items;
  left : (r : ℕ) → r < length l.deltas.items → nexts_at l.deltas.items r ≡ nexts_at l.initial.deltas.items r;
  same : (r : ℕ) → r < length l.deltas.items → get_or l.rows.items r [] ≡ get_or l.initial.rows.items r [];
  counts : (r : ℕ) → length l.deltas.items ≤ r → r < length l.initial.rows.items → length (get_or l.rows.items r []) ≡ length (get_or l.initial.rows.items r []);
  done : (r i : ℕ) → length l.deltas.items ≤ r → r < length l.initial.rows.items → i < length (get_or l.initial.rows.items r [])
      → kept_row_at (get_or l.rows.items r []) i ≡ pushed_row (kept_row_at (get_or l.initial.rows.items r []) i) (next_at (nexts_at l.initial.deltas.items r) i);
}

abbrev pub decreases-loop-nexts : goal.decreases-loop-nexts
decreases-loop-nexts l = vec_len l.deltas
