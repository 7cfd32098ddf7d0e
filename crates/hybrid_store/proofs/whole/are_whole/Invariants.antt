use Rattle.std.proofs.Common.{◌≡◌, ◌<◌, ℕ, length}
use Rattle.hybrid_view.specs.Live.{piece_at}
use Rattle.bit_rows.specs.Segments.{kept_at}
use Rattle.hybrid_store.proofs.whole.are_whole.Given as goal

abbrev pub invariant-loop-index : goal.invariant-loop-index
invariant-loop-index l = (i : ℕ) → i < l.index → length (piece_at l.live.pieces i).rows.records ≡ length (kept_at l.kept.all (piece_at l.live.pieces i).segment).rows.records
