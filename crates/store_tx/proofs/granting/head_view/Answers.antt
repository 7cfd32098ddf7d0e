use Rattle.std.proofs.Common.{sym, subst}
use Rattle.std.proofs.lemmas.Result.{IfOk-weaker}
use Rattle.db_store.specs.State.{dataset_of}
use Rattle.branch_tx.specs.TxState.{AreMet}
use Rattle.store_tx.proofs.granting.head_view.Goals as goal

pub returns-clause-met : goal.returns-clause-met
returns-clause-met g c =
    let store = c.args.store.now in
    let schema = (dataset_of (g.St.Store.state store)).schema in
    IfOk-weaker c.view.result _ _ (λ v e. subst (AreMet schema) (sym e) ((g.met.St.Store.counted store).tables c.head_place.result c.head_place.ensures.made).counted) c.view.ensures.table
