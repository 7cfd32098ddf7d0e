use Rattle.std.proofs.Common.{◌∙◌, sym}
use Rattle.db_value.specs.Relations.{columns_at}
use Rattle.db_value.proofs.TermLemmas.{known_step, unknown_stop}
use Rattle.db_value.proofs.pred.first_unknown.Goals as goal

pub returns-in-Some : goal.returns-in-Some
returns-in-Some c = sym (c.loop-term.invariant ∙ unknown_stop (columns_at c.args.schema.now c.args.relation) c.args.terms.now c.loop-term.term-index c.term-item.result _ c.in-Some.column c.loop-term-test.true (sym c.term-item.is) (sym c.unknown_column.ensures ∙ c.in-Some.is))

pub loop-term-preserved : goal.loop-term-preserved
loop-term-preserved c = c.loop-term.invariant ∙ known_step (columns_at c.args.schema.now c.args.relation) c.args.terms.now c.loop-term.term-index c.term-item.result _ c.loop-term-test.true (sym c.term-item.is) (sym c.unknown_column.ensures ∙ c.in-None.is)
