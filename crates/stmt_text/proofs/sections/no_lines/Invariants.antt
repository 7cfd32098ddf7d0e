use Rattle.std.proofs.Common.{◌≡◌, replicate, []}
use Rattle.stmt_text.proofs.sections.no_lines.Given as goal

abbrev pub invariant-loop-session : goal.invariant-loop-session
invariant-loop-session l = l.lists.items ≡ replicate l._session []
