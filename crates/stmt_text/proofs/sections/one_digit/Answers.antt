use Rattle.std.proofs.Common.{◌∙◌, sym}
use Rattle.stmt_text.proofs.SectionLemmas.{digit_known, digit_none}
use Rattle.stmt_text.proofs.sections.one_digit.Goals as goal

pub returns-then-is_ascii_digit : goal.returns-then-is_ascii_digit
returns-then-is_ascii_digit c =
    let b = c.if-is_ascii_digit.ensures.cases in
    c.from.ensures ∙ digit_known c.args.digit b.0 b.1

pub returns-else-is_ascii_digit : goal.returns-else-is_ascii_digit
returns-else-is_ascii_digit c = digit_none c.args.digit (sym c.is_ascii_digit.ensures.value ∙ c.if-is_ascii_digit.false)
