use Rattle.std.proofs.Common.{◌∙◌, sym, drop}
use Rattle.line_needs.proofs.MisfitLemmas.{row_step, row_stop, row_end}
use Rattle.line_needs.proofs.misfits.row_misfit.Goals as goal

pub returns-in_default : goal.returns-in_default
returns-in_default c = sym (c.loop-column.invariant ∙ row_end (drop c.loop-column.column-index c.args.columns.now) c.loop-column.walk c.in_default.ensures.none)

pub returns-in-Some-misfit : goal.returns-in-Some-misfit
returns-in-Some-misfit c = sym (c.loop-column.invariant ∙ row_stop c.args.columns.now c.loop-column.walk c.loop-column.column-index c.column-item.result _ c.in-Some.value c.next.new.self c.in-Some-misfit.why c.loop-column-test.true (sym c.column-item.is) c.in-Some.ensures.some (sym c.misfit.ensures ∙ c.in-Some-misfit.is))

pub loop-column-preserved : goal.loop-column-preserved
loop-column-preserved c = c.loop-column.invariant ∙ row_step c.args.columns.now c.loop-column.walk c.loop-column.column-index c.column-item.result _ c.in-Some.value c.next.new.self c.loop-column-test.true (sym c.column-item.is) c.in-Some.ensures.some (sym c.misfit.ensures ∙ c.in_default-misfit.is)
