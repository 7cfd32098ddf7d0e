use Rattle.std.proofs.Common.{rules, sym, subst}
use Rattle.db_store.specs.Counted.{IsTable}
use Rattle.db_store.specs.State.{dataset_of}
use Rattle.store_tests.proofs.watched.version.Goals as goal

pub returns-clause-table : goal.returns-clause-table
returns-clause-table g c = subst (IsTable (dataset_of (g.St.Store.state c.args.store.now)).schema) (sym c.in_ok-view.ensures.table)
    ((g.met.St.Store.counted c.args.store.now).tables c.at-asked.result (search rules))
