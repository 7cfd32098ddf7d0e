use Rattle.std.proofs.Common.{false, sym, ◌∙◌, ◌+◌}
use Rattle.std.proofs.lemmas.List.{take_rest}
use Rattle.stmt_text.proofs.CutLemmas.{parts_cut, parts_none}
use Rattle.stmt_text.proofs.cut.first_part.Goals as goal

pub returns-in-Some-clause-parts : goal.returns-in-Some-clause-parts
returns-in-Some-clause-parts c =
    rw (take_rest c.args.text.now (c.in-Some.at + 1)) (parts_cut c.in-Some.at false c.args.text.now (sym c.cut_in.ensures.place ∙ c.in-Some.is))

pub returns-in-None-clause-whole : goal.returns-in-None-clause-whole
returns-in-None-clause-whole c = parts_none 0 false c.args.text.now (sym c.cut_in.ensures.place ∙ c.in-None.is)
