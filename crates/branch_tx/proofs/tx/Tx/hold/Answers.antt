use Rattle.std.proofs.Common.{◌∷◌, ◌∙◌, ap, sym, subst, length}
use Rattle.branch_tx.specs.Shown.{parts_by, ViewsAgree}
use Rattle.branch_tx.specs.Granted.{Granted}
use Rattle.branch_tx.specs.TxState.{AreMet}
use Rattle.db_store.specs.WorkState.{overlays_of}
use Rattle.branch_tx.proofs.Works.{met_untouched}
use Rattle.branch_tx.proofs.tx.Tx.hold.Goals as goal

pub invariant_of-self : goal.invariant_of-self
invariant_of-self g c = (
  ap (λ v. length (g.St.View.View.table v)) c.rest_on.ensures.under ∙ c.requires.wide ∙ ap (λ (x : Granted). length x.schema) (sym c.self.view_is),
  c.self.invariant.1,
  subst (λ (x : Granted). ViewsAgree (parts_by (g.St.View.View.parts_of c.rest_on.new.self.view) ∷ x.shown)) (sym c.self.view_is)
      (subst (λ v. ViewsAgree (parts_by (g.St.View.View.parts_of v) ∷ c.args.self.now.shown)) (sym c.rest_on.ensures.under) c.requires.agree),
  c.rest_on.ensures.widths ∙ c.self.invariant.3,
  met_untouched c.self.inside.schema (g.St.View.View.table c.rest_on.new.self.view) (overlays_of c.rest_on.new.self) (c.rest_on.ensures.overlays ∙ ap (λ (x : Granted). x.overlays) c.self.view_is ∙ c.requires.untouched)
      (subst (λ v. AreMet c.self.inside.schema (g.St.View.View.table v)) (sym c.rest_on.ensures.under) (subst (λ (x : Granted). AreMet x.schema (g.St.View.View.table c.args.view)) (sym c.self.view_is) c.requires.met)),
)
