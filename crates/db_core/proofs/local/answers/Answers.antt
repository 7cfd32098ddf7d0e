use Rattle.std.proofs.Common.{◌∙◌, ap, sym, false, Option}
use Rattle.branch_tx.specs.Granted.{Granted}
use Rattle.line_needs.specs.Known.{is_refusal}
use Rattle.line_needs.proofs.Knowing.{known_early}
use Rattle.db_core.specs.Desk.{answers}
use Rattle.db_core.specs.Sits.{known_with}
use Rattle.db_core.proofs.local.answers.Goals as goal

pub covers-requires : goal.covers-requires
covers-requires g c = record { known = c.requires ∙ ap (λ (o : Option Granted). known_with c.args._schema.now o c.args.stmt.now) c.in-Some.is }

pub returns-in-None : goal.returns-in-None
returns-in-None g c =
    let own = c.args._schema.now in
    let x = c.args.stmt.now in
    c.is_refused.ensures ∙ ap is_refusal (c.requires ∙ ap (λ (o : Option Granted). known_with own o x) c.in-None.is) ∙ known_early own false false x
    ∙ ap (λ (o : Option Granted). answers own o x) (sym c.in-None.is)
