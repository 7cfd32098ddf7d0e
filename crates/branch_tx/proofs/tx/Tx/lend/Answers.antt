use Rattle.std.proofs.Common.{[], ◌∷◌, ◌++◌, ◌∙◌, ap, sym, subst, length, map}
use Rattle.branch_tx.specs.TxState.{AllWide}
use Rattle.branch_tx.specs.Shown.{Shown, parts_by, ViewsAgree}
use Rattle.branch_tx.specs.Granted.{Granted, views_of}
use Rattle.branch_tx.specs.Lending.{Views}
use Rattle.branch_tx.proofs.WideLemmas.{wide_more}
use Rattle.branch_tx.proofs.tx.Tx.lend.Goals as goal

pub invariant_of-self-2 : goal.invariant_of-self-2
invariant_of-self-2 g c =
    let n = length c.self.inside.schema in
    let below : Shown = parts_by (g.St.View.View.parts_of c.self.inside.work.view) in
    let shown : Shown = parts_by (g.St.View.View.parts_of c.args.view) in
    let table = g.St.View.View.table c.args.view in (
      c.self.invariant.0,
      subst (λ (vs : Views). AllWide n (map (λ l. l.1) vs.0)) (sym c.in_ok-push.ensures.ok) (wide_more n c.self.inside.lent.0 (c.args.name, table) c.self.invariant.1 (c.requires.wide ∙ ap (λ (x : Granted). length x.schema) (sym c.self.view_is))),
      subst (λ (vs : Views). ViewsAgree (below ∷ vs.1)) (sym c.in_ok-push.ensures.ok) (subst (λ (x : Granted). ViewsAgree (views_of x ++ shown ∷ [])) (sym c.self.view_is) c.requires.agree),
      c.self.invariant.3,
      c.self.invariant.4,
    )
