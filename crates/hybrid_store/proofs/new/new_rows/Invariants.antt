use Rattle.std.proofs.Common.{◌≡◌, ◌∷◌, [], ℕ, ◌<◌, length, get_or}
use Rattle.bit_rows.specs.Kept.{first_row}
use Rattle.hybrid_store.proofs.new.new_rows.Given as goal

abbrev pub invariant-loop-relation : goal.invariant-loop-relation
invariant-loop-relation l = record {
  count : length l.all.items ≡ l.relation;
  each : (r : ℕ) → r < l.relation → get_or l.all.items r [] ≡ first_row ∷ [];
}
