use Rattle.std.proofs.Common.{◌≡◌, [], ℕ, ◌<◌, length, map}
use Rattle.std.specs.Arc.{arc_value}
use Rattle.db_value.specs.Relations.{widths_at}
use Rattle.hybrid_store.specs.New.{own_at}
use Rattle.hybrid_store.proofs.new.new_heads.Given as goal

abbrev pub invariant-loop-relation : goal.invariant-loop-relation
invariant-loop-relation l = record {
  count : length l.heads.items ≡ l.relation-index;
  each : (r : ℕ) → r < l.relation-index → own_at (map arc_value l.heads.items) r ≡ record { widths = widths_at l.relations r; records = [] };
}
