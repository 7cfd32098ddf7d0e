use Rattle.std.proofs.Common.{◌≡◌, ℕ, ◌<◌, length}
use Rattle.commit_history.specs.Runs.{next_of}
use Rattle.hybrid_view.specs.Live.{piece_at}
use Rattle.bit_rows.specs.Short.{shortest}
use Rattle.bit_rows.specs.Rows.{next_at, kept_row_at}
use Rattle.bit_rows.specs.Differences.{difference_of}
use Rattle.bit_rows.proofs.changed.next_deltas.Given as goal

abbrev pub invariant-loop-index : goal.invariant-loop-index
invariant-loop-index l = record {
  count : length l.nexts.items ≡ l.index;
  each : (j : ℕ) → j < l.index → next_at l.nexts.items j ≡ next_of (kept_row_at l.rows j).deltas (shortest (difference_of (piece_at l.old.pieces j) (piece_at l.new.pieces j)));
}
