use Rattle.std.proofs.Common.{◌≡◌, false, drop}
use Rattle.stmt_text.specs.Cut.{cut_from}
use Rattle.stmt_text.proofs.cut.cut_in.Given as goal

-- no byte so far cuts
abbrev pub invariant-loop-at : goal.invariant-loop-at
invariant-loop-at l = cut_from l.at l.inside (drop l.at l.text) ≡ cut_from 0 false l.text
