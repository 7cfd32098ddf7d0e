use Rattle.std.proofs.Common.{◌≡◌, sym, subst}
use Rattle.db_store.specs.State.{State}
use Rattle.db_core.proofs.Standing.{stands_new}
use Rattle.db_core.specs.Kept.{Stands, new_kept}
use Rattle.thread_tests.proofs.boards.new_board.Goals as goal

pub returns-clause-stands : goal.returns-clause-stands
returns-clause-stands g c =
    let opens : g.T.Opened.opened ≡ g.St.Store.state c.args.store = c.requires.0 in
    subst Stands (sym c.in-Ok.ensures.kept) (subst (λ (s : State). Stands (new_kept s g.T.Opened.first)) (sym opens)
    (stands_new (g.St.Store.state c.args.store) _ (g.met.St.Store.sound c.args.store) (g.met.St.Store.counted c.args.store) (g.met.St.Store.ordered c.args.store)))
