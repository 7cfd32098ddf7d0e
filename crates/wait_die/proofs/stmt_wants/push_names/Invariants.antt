use Rattle.std.proofs.Common.{◌≡◌, ◌++◌, drop}
use Rattle.wait_die.specs.Wants.{names_wants}
use Rattle.wait_die.proofs.stmt_wants.push_names.Given as goal

abbrev pub invariant-loop-name : goal.invariant-loop-name
invariant-loop-name l = l.list.items ++ names_wants (drop l.name-index l.fn.names) ≡ l.initial.list.items ++ names_wants l.fn.names
