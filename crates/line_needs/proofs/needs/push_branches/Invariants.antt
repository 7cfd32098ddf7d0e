use Rattle.std.proofs.Common.{◌≡◌, ◌++◌}
use Rattle.line_needs.specs.Needs.{branch_needs}
use Rattle.line_needs.proofs.needs.push_branches.Given as goal

-- the needs of the branches so far
abbrev pub invariant-loop-branch : goal.invariant-loop-branch
invariant-loop-branch l = l.needs.items ≡ l.initial.needs.items ++ branch_needs l.branch
