use Rattle.std.proofs.Common.{◌<◌, ℕ, refl, sym, subst}
use Rattle.std.proofs.lemmas.Bool.{ltb-true}
use Rattle.decibel_main.specs.Imports.{ImportsLog}
use Rattle.decibel_main.specs.declared.status.Status.TheVariants.{Memory}
use Rattle.decibel_main.proofs.ImportLemmas.{counted_less, imports_none, imports_told}
use Rattle.decibel_main.proofs.import.import_on.Goals as goal

pub returns-in-Err-clause-imports : goal.returns-in-Err-clause-imports
returns-in-Err-clause-imports g c =
    let old : g.row.J.Denot = c.args.log in
    subst (λ (l : g.row.J.Denot). ImportsLog g.J.Log (g.St.Store.state c.args.store) old l c.args.relation.now c.args.input.now Memory (g.K.Sink.written c.args.sink.now) (g.K.Sink.written c.args.sink.now))
    (sym c.in-Err.ensures.given_back.1)
    (imports_none g.J.Log (g.St.Store.state c.args.store) old c.args.relation.now c.args.input.now (g.K.Sink.written c.args.sink.now))

pub returns-clause-imports : goal.returns-clause-imports
returns-clause-imports g c =
    imports_told g.J.Log c.in-Ok.core c.import-imported.new.core (g.St.Store.state c.args.store) c.args.log _ c.args.relation.now c.args.input.now _ c.ended-status.result _ _ c.import-imported.result _ _
    c.in-Ok.ensures.stands c.in-Ok.ensures.log c.into_log-log.ensures.log c.fault_count-before.ensures c.fault_count.ensures refl c.import-imported.ensures.told c.import-imported.ensures.first c.import-imported.ensures.all c.import-imported.ensures.stops c.ended-status.ensures.told

pub returns-clause-disk : goal.returns-clause-disk
returns-clause-disk g c = λ is.
    counted_less (g.J.Log.faults c.args.log) (g.J.Log.faults c.into_log-log.result)
    (subst (λ (p : ℕ × ℕ). p.0 < p.1) (λ i. (c.fault_count-before.ensures i, c.fault_count.ensures i)) (ltb-true _ _ (c.ended-status.ensures.disk is)))
