use Rattle.std.proofs.Common.{◌≡◌, ◌+◌, ◌++◌, length, drop}
use Rattle.field_merge.specs.Walk.{record_changes, record_clashes, AreSides}
use Rattle.field_merge.proofs.walk.merge_rows.Given as goal

-- the changes so far with those of what is left are all, and so far there is no conflict
abbrev pub invariant-keys : goal.invariant-keys
invariant-keys l =
    let base = drop l.at.base l.sides.base in
    let left = drop l.at.left l.sides.left in
    let right = drop l.at.right l.sides.right in
    record {
      sides : AreSides base left right;
      changes : l.all ++ record_changes l.widths l.prefer l.relation base left right ≡ l.initial.all ++ record_changes l.widths l.prefer l.relation l.sides.base l.sides.left l.sides.right;
      clashes : record_clashes l.prefer l.relation base left right ≡ record_clashes l.prefer l.relation l.sides.base l.sides.left l.sides.right;
    }

abbrev pub decreases-keys : goal.decreases-keys
decreases-keys l = length (drop l.at.base l.sides.base) + length (drop l.at.left l.sides.left) + length (drop l.at.right l.sides.right)
