use Rattle.std.proofs.Common.{List, ◌∷◌, sym, subst}
use Rattle.db_value.specs.declared.schema.Relation.{Relation}
use Rattle.branch_tx.specs.Granted.{Granted, AreAllOf}
use Rattle.branch_tx.specs.Shown.{Shown, parts_by}
use Rattle.branch_tx.specs.TxState.{AreMet}
use Rattle.branch_tx.proofs.ShownLemmas.{one_state, of_front, of_rest, view_of}
use Rattle.store_tx.proofs.granting.hold.Goals as goal

pub hold-requires-clause-agree : goal.hold-requires-clause-agree
hold-requires-clause-agree g c =
    let st = g.St.Store.state c.args.store.now in
    let tx : Granted = c.args.tx.now in
    let shows : Shown = parts_by (g.St.View.View.parts_of c.in_ok-view.view) in
    one_state st (shows ∷ tx.shown) (of_front st shows tx.shown (view_of st (g.St.View.View.parts_of c.in_ok-view.view) c.in_ok-view.ensures.parts) (of_rest st tx.below tx.shown c.requires.on.shown))

pub hold-requires-clause-met : goal.hold-requires-clause-met
hold-requires-clause-met g c = subst (λ (rs : List Relation). AreMet rs (g.St.View.View.table c.in_ok-view.view)) (sym c.requires.on.schema) c.in_ok-view.ensures.met

pub returns-clause-shown : goal.returns-clause-shown
returns-clause-shown g c =
    let st = g.St.Store.state c.args.store.now in
    let tx : Granted = c.args.tx.now in
    let shows : Shown = parts_by (g.St.View.View.parts_of c.in_ok-view.view) in
    subst (AreAllOf st) (sym c.hold.ensures) (of_front st shows tx.shown (view_of st (g.St.View.View.parts_of c.in_ok-view.view) c.in_ok-view.ensures.parts) (of_rest st tx.below tx.shown c.requires.on.shown))
