use Rattle.std.proofs.Common.{◌≡◌, ℕ, ◌<◌, length}
use Rattle.hybrid_view.specs.Live.{piece_at}
use Rattle.hybrid_view.specs.RowPlaces.{Next}
use Rattle.hybrid_view.proofs.live.LiveRelation.parts_after.Given as goal

abbrev pub invariant-loop-part : goal.invariant-loop-part
invariant-loop-part l = (length l.parts.items ≡ l.part-index) × ((j : ℕ) → j < l.part-index → Next l.places l.head l.rows (piece_at l.self.pieces j) (piece_at l.parts.items j))
