use Rattle.std.proofs.Common.{◌∙◌, ap, length}
use Rattle.db_store.specs.OverlayRules.{length_laid}
use Rattle.db_store.specs.WorkState.{overlays_of}
use Rattle.branch_tx.specs.Granted.{Granted}
use Rattle.branch_tx.proofs.SeenLemmas.{lent_wide}
use Rattle.branch_tx.proofs.tx.Tx.see.Goals as goal

pub returns-in-Some-clause-wide : goal.returns-in-Some-clause-wide
returns-in-Some-clause-wide g c =
    lent_wide (length c.self.inside.schema) c.self.inside.lent.0 c.args.version.now _ c.self.invariant.1 c.in-Some.ensures.some ∙ ap (λ (x : Granted). length x.schema) c.self.view_is

pub returns-then-is_current-clause-wide : goal.returns-then-is_current-clause-wide
returns-then-is_current-clause-wide g c =
    length_laid (g.St.View.View.table c.args.work.now.view) (overlays_of c.args.work.now) ∙ ap length c.requires.head ∙ c.requires.wide
