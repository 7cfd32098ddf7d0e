use Rattle.std.proofs.Common.{◌<◌, length}
use Rattle.std.specs.List.{All}
use Rattle.db_store.specs.Parts.{AreOf}
use Rattle.store_tests.proofs.read_tests.views_of.Given as goal

abbrev pub invariant-loop-position : goal.invariant-loop-position
invariant-loop-position g l = record {
  wide : All (λ w. 0 < length (g.St.View.View.table w.view)) l.views.items;
  parts : All (λ w. AreOf (g.St.Store.state l.store) (g.St.View.View.parts_of w.view)) l.views.items;
}
