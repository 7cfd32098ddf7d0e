use Rattle.std.proofs.Common.{◌≡◌, ◌++◌, map, length}
use Rattle.stmt_text.specs.Cut.{parts_of}
use Rattle.stmt_text.proofs.cut.parts_of.Given as goal

-- the parts so far, and those of what is left, are all parts
abbrev pub invariant-cutting : goal.invariant-cutting
invariant-cutting l = map (λ w. w.now) l.parts.items ++ parts_of l.rest ≡ parts_of l.text

abbrev pub decreases-cutting : goal.decreases-cutting
decreases-cutting l = length l.rest
