use Rattle.std.proofs.Common.{◌≤◌, ◌+◌, length}
use Rattle.db_value.specs.Text.{lines}
use Rattle.stmt_text.specs.Sections.{numbered, AddUp}
use Rattle.stmt_text.proofs.sections.gather.Given as goal

abbrev pub invariant-loop-rest : goal.invariant-loop-rest
invariant-loop-rest l = record {
  all : AddUp l.fn.first l.fn.count l.lists.items (numbered (l.number + 1) (lines l.rest)) (numbered 1 (lines l.fn.text));
  room : l.number + length l.rest ≤ length l.fn.text;
}

abbrev pub decreases-loop-rest : goal.decreases-loop-rest
decreases-loop-rest l = length l.rest
