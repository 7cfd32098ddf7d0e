use Rattle.std.proofs.Common.{◌<◌, ◌∙◌, ap, sym, subst, length}
use Rattle.branch_tx.specs.Granted.{Granted}
use Rattle.branch_tx.proofs.SeenLemmas.{lent_wide}
use Rattle.branch_tx.proofs.tx.Tx.get_lent.Goals as goal

pub find_row-requires : goal.find_row-requires
find_row-requires g c =
    let wide = lent_wide (length c.self.inside.schema) c.self.inside.lent.0 c.args.version.now _ c.self.invariant.1 c.in-Some.ensures.some ∙ ap (λ (x : Granted). length x.schema) c.self.view_is in
    subst (λ n. c.args.relation < n) (sym wide) c.requires
