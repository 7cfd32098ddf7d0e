use Rattle.std.proofs.Common.{◌∷◌, suc, length, map, subst, sym}
use Rattle.branch_tx.specs.TxState.{AllWide}
use Rattle.branch_tx.specs.Shown.{Shown, parts_by, ViewsAgree}
use Rattle.branch_tx.specs.Lending.{Views}
use Rattle.branch_tx.proofs.WideLemmas.{wide_taken}
use Rattle.branch_tx.proofs.ShownLemmas.{agree_taken}
use Rattle.branch_tx.proofs.tx.Tx.back_to.Goals as goal

pub invariant_of-self : goal.invariant_of-self
invariant_of-self g c =
    let n = length c.self.inside.schema in
    let below : Shown = parts_by (g.St.View.View.parts_of c.self.inside.work.view) in (
      c.self.invariant.0,
      subst (λ (vs : Views). AllWide n (map (λ l. l.1) vs.0)) (sym c.keep_first.ensures) (wide_taken n c.mark.inside.lent c.self.inside.lent.0 c.self.invariant.1),
      subst (λ (vs : Views). ViewsAgree (below ∷ vs.1)) (sym c.keep_first.ensures) (agree_taken (suc c.mark.inside.lent) (below ∷ c.self.inside.lent.1) c.self.invariant.2),
      c.self.invariant.3,
      c.self.invariant.4,
    )
