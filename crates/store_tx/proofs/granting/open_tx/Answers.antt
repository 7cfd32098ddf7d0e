use Rattle.std.proofs.Common.{◌≡◌, List, [], ◌∷◌, sym, subst}
use Rattle.db_value.specs.declared.schema.Relation.{Relation}
use Rattle.db_store.specs.Parts.{AreOf}
use Rattle.db_store.specs.WorkState.{under_of, overlays_of}
use Rattle.branch_tx.specs.Granted.{Granted, AreAllOf}
use Rattle.branch_tx.specs.Shown.{parts_by}
use Rattle.branch_tx.specs.TxState.{AreMet}
use Rattle.branch_tx.proofs.Works.{met_untouched}
use Rattle.branch_tx.proofs.ShownLemmas.{one_state}
use Rattle.store_tx.proofs.Shows.{one_of, if_ok}
use Rattle.store_tx.proofs.granting.open_tx.Goals as goal

pub over-requires-2-clause-agree : goal.over-requires-2-clause-agree
over-requires-2-clause-agree g c =
    let st = g.St.Store.state c.args.store.now in
    let parts = g.St.View.View.parts_of c.in_ok-work.work.view in
    let of = subst (λ v. AreOf st (g.St.View.View.parts_of v)) (sym c.in_ok-work.ensures.under) c.in_ok-below.ensures.parts in
    one_state st (parts_by parts ∷ []) (one_of st parts of)

pub over-requires-2-clause-met : goal.over-requires-2-clause-met
over-requires-2-clause-met g c =
    let work = c.in_ok-work.work in
    let schema : List Relation = c.schema-schema.result.now in
    met_untouched schema (g.St.View.View.table (under_of work)) (overlays_of work) c.in_ok-work.ensures.overlays
    (subst (λ v. AreMet schema (g.St.View.View.table v)) (sym c.in_ok-work.ensures.under) (subst (λ (rs : List Relation). AreMet rs (g.St.View.View.table c.in_ok-below.below)) (sym c.schema-schema.ensures) c.in_ok-below.ensures.met))

pub returns-clause-shown : goal.returns-clause-shown
returns-clause-shown g c =
    let st = g.St.Store.state c.args.store.now in
    let parts = g.St.View.View.parts_of c.in_ok-work.work.view in
    let of = subst (λ v. AreOf st (g.St.View.View.parts_of v)) (sym c.in_ok-work.ensures.under) c.in_ok-below.ensures.parts in
    if_ok _ (λ (t : Granted). t ≡ _) (AreAllOf st) (λ t e. subst (AreAllOf st) (sym e) (one_of st parts of)) c.over-2.ensures
