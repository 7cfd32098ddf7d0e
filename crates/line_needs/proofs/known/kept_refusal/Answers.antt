use Rattle.std.proofs.Common.{sym, ap, ◌∙◌}
use Rattle.db_value.specs.Widths.{meets}
use Rattle.line_needs.proofs.MisfitLemmas.{met_refusal}
use Rattle.line_needs.proofs.known.kept_refusal.Goals as goal

pub returns-then-meets : goal.returns-then-meets
returns-then-meets c = met_refusal c.args.schema.now c.args.name.now c.args.kept.now c.args.relation (ap (λ ws. meets ws c.args.kept.now) (sym c.widths.ensures) ∙ sym c.meets.ensures ∙ c.if-meets.true)
