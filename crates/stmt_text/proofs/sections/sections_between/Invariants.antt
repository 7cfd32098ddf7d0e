use Rattle.std.proofs.Common.{◌≡◌, ◌++◌, ◌+◌, ◌-◌, length}
use Rattle.stmt_text.specs.Sections.{sections_from, input_lines}
use Rattle.stmt_text.proofs.SectionLemmas.{lists_from}
use Rattle.stmt_text.proofs.sections.sections_between.Given as goal

abbrev pub invariant-loop-list : goal.invariant-loop-list
invariant-loop-list l = record {
  done : l.items.items ++ sections_from l.session (l.fn.first + l.fn.count - l.session) (input_lines l.fn.text) ≡ sections_from l.fn.first l.fn.count (input_lines l.fn.text);
  left : l.list-iterator.rest.items ≡ lists_from l.session (l.fn.first + l.fn.count - l.session) (input_lines l.fn.text);
  count : l.session + length l.list-iterator.rest.items ≡ l.fn.first + l.fn.count;
}
