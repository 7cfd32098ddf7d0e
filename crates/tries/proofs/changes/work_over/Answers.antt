use Rattle.std.proofs.Common.{List, sym, subst}
use Rattle.db_value.specs.declared.schema.Relation.{Relation}
use Rattle.db_store.specs.State.{dataset_of}
use Rattle.branch_tx.specs.TxState.{AreMet}
use Rattle.tries.proofs.Works.{over_new}
use Rattle.tries.proofs.changes.work_over.Goals as goal

pub returns-clause-over : goal.returns-clause-over
returns-clause-over g c =
    let store = c.args.store.now in
    let schema : List Relation = (dataset_of (g.St.Store.state store)).schema in
    let met = subst (AreMet schema) (sym c.in_ok-view.ensures.table) ((g.met.St.Store.counted store).tables c.args.at c.requires).counted in
    over_new schema c.schema.result.now c.in_ok-view.view c.over.result c.schema.ensures c.in_ok-view.ensures.wide met c.over.ensures.under c.over.ensures.overlays c.over.ensures.widths
