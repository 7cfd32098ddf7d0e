use Rattle.std.proofs.Common.{◌∙◌, sym}
use Rattle.db_value.specs.Relations.{columns_at, widths_at}
use Rattle.line_needs.proofs.MisfitLemmas.{sets_step, sets_stop}
use Rattle.line_needs.proofs.misfits.sets_misfit.Goals as goal

pub returns-in-Some : goal.returns-in-Some
returns-in-Some c = sym (c.loop-set.invariant ∙ sets_stop (widths_at c.args.schema.now c.args.relation) (columns_at c.args.schema.now c.args.relation) c.args.sets.now c.loop-set.set-index c.set-item.result _ c.in-Some.why c.loop-set-test.true (sym c.set-item.is) (sym c.set_misfit.ensures ∙ c.in-Some.is))

pub loop-set-preserved : goal.loop-set-preserved
loop-set-preserved c = c.loop-set.invariant ∙ sets_step (widths_at c.args.schema.now c.args.relation) (columns_at c.args.schema.now c.args.relation) c.args.sets.now c.loop-set.set-index c.set-item.result _ c.loop-set-test.true (sym c.set-item.is) (sym c.set_misfit.ensures ∙ c.in_default.is)
