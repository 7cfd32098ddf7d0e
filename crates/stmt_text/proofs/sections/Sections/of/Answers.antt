use Rattle.std.proofs.Common.{◌≤◌, List, length, subst, sym, arith}
use Rattle.stmt_text.specs.declared.sections.Section.{Section}
use Rattle.stmt_text.specs.Sections.{AllOwn, Above}
use Rattle.stmt_text.proofs.SectionLemmas.{own_from, above_from, few_from}
use Rattle.stmt_text.proofs.sections.Sections.of.Goals as goal

pub invariant_of-result : goal.invariant_of-result
invariant_of-result c =
    let ls = c.requires.0 in
    subst (λ (x : List Section). AllOwn x × Above 0 x × length x ≤ 65) (sym c.requires.1) (own_from 0 65 ls, above_from 0 0 65 ls (omega arith), few_from 0 65 ls)
