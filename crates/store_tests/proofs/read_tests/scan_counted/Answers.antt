use Rattle.std.proofs.Common.{List, sym, subst}
use Rattle.multi_scan.specs.Agree.{AllAgree}
use Rattle.multi_scan.specs.Places.{shown}
use Rattle.multi_scan.proofs.Agreeing.{all_of_one_state}
use Rattle.store_tests.specs.declared.watched.Watched.{Watched}
use Rattle.store_tests.proofs.read_tests.scan_counted.Goals as goal

pub scan-requires-clause-agree : goal.scan-requires-clause-agree
scan-requires-clause-agree g c =
    subst (λ (ws : List (Watched g.row.St-View.Denot)). AllAgree (shown (λ w. g.St.View.View.parts_of w.view) 0 ws)) (sym c.deref.ensures.value)
    (all_of_one_state (g.St.Store.state c.args.store.now) (λ (w : Watched g.row.St-View.Denot). g.St.View.View.parts_of w.view) 0 c.in_ok-views.views.items c.in_ok-views.ensures.parts)
