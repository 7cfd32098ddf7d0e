use Rattle.std.proofs.Common.{◌≡◌, ◌≤◌, ◌<◌, ◌++◌, ◌∷◌, ℕ, [], length, get_or, vec_len}
use Rattle.bit_rows.specs.Kept.{more_at}
use Rattle.bit_rows.proofs.lane.add_rows.Given as goal

abbrev pub invariant-loop-next : goal.invariant-loop-next
invariant-loop-next l = record {
  count : length l.rows.items ≡ length l.initial.rows.items;
  within : length l.more.items ≤ length l.initial.rows.items;
  left : (r : ℕ) → r < length l.more.items → more_at l.more.items r ≡ more_at l.initial.more.items r;
  same : (r : ℕ) → r < length l.more.items → get_or l.rows.items r [] ≡ get_or l.initial.rows.items r [];
  done : (r : ℕ) → length l.more.items ≤ r → r < length l.initial.rows.items → get_or l.rows.items r [] ≡ get_or l.initial.rows.items r [] ++ (more_at l.initial.more.items r).row ∷ [];
}

abbrev pub decreases-loop-next : goal.decreases-loop-next
decreases-loop-next l = vec_len l.more
