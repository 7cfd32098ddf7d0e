use Rattle.std.proofs.Common.{sym, ap, ◌∙◌}
use Rattle.stmt_text.specs.Line.{session_with}
use Rattle.std.proofs.lemmas.Bool.{eq-eqb, ne_eqb}
use Rattle.stmt_text.proofs.SectionLemmas.{session_alone, session_first, session_one}
use Rattle.stmt_text.proofs.sections.session_at.Goals as goal

pub returns-in-None : goal.returns-in-None
returns-in-None c = sym (session_alone c.args.text.now (sym c.in-None.ensures.place))

pub returns-in-Some : goal.returns-in-Some
returns-in-Some c = c.session_from.ensures ∙ ap session_with c.read_key.ensures ∙ sym (session_first c.args.text.now c.in-Some.at (sym c.in-Some.ensures.place))

pub returns-then-text-ne32 : goal.returns-then-text-ne32
returns-then-text-ne32 c = c.one_digit.ensures ∙ sym (session_one c.args.text.now c.if-text-gt1.true (eq-eqb _ _ c.if-text-eq32.true) (ne_eqb _ _ c.if-text-ne32.true))
