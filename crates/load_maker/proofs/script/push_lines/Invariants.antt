use Rattle.std.proofs.Common.{◌≡◌, ◌++◌}
use Rattle.load_maker.specs.Script.{drawn, first_lines}
use Rattle.load_maker.proofs.script.push_lines.Given as goal

-- the lines so far are written, and x is drawn for the last of them
abbrev pub invariant-loop-before : goal.invariant-loop-before
invariant-loop-before l = record {
  drawn_is : l.x ≡ drawn l.n l.before;
  written : l.out.items ≡ l.initial.out.items ++ first_lines l.n l.before;
}
