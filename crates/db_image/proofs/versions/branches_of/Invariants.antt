use Rattle.std.proofs.Common.{◌≡◌, map, take}
use Rattle.db_image.specs.Parts.{branch_part}
use Rattle.db_image.proofs.versions.branches_of.Given as goal

abbrev pub invariant-loop-branch : goal.invariant-loop-branch
invariant-loop-branch l = l.parts.items ≡ map branch_part (take l.branch-index l.branches)
