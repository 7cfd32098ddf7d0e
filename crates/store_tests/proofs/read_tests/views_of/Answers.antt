use Rattle.std.proofs.Common.{◌<◌, length, sym, subst}
use Rattle.std.specs.List.{All}
use Rattle.std.proofs.lemmas.List.Elements.{All-push}
use Rattle.db_store.specs.Parts.{AreOf}
use Rattle.store_tests.specs.declared.watched.Watched.{Watched}
use Rattle.store_tests.proofs.read_tests.views_of.Goals as goal

pub loop-position-preserved : goal.loop-position-preserved
loop-position-preserved g c =
    let Wide : Watched g.row.St-View.Denot → Type 0 = λ w. 0 < length (g.St.View.View.table w.view) in
    let Parts : Watched g.row.St-View.Denot → Type 0 = λ w. AreOf (g.St.Store.state c.args.store.now) (g.St.View.View.parts_of w.view) in
    record {
      wide = subst (All Wide) (sym c.in_ok-push.ensures.items) (All-push Wide c.loop-position.views.items _ c.loop-position.invariant.wide c.in_ok-view.ensures.some);
      parts = subst (All Parts) (sym c.in_ok-push.ensures.items) (All-push Parts c.loop-position.views.items _ c.loop-position.invariant.parts c.in_ok-view.ensures.parts);
    }
