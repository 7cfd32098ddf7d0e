use Rattle.std.proofs.Common.{◌≡◌, ◌++◌, ◌∷◌, [], length, take}
use Rattle.std.specs.Int.{w32, w64, to_le_bytes, cast_unsigned}
use Rattle.std.specs.List.{flat_map}
use Rattle.image_text.specs.Spelling.{branch_bytes}
use Rattle.image_parts.proofs.writing.put_branches.Given as goal

abbrev pub invariant-loop-branch : goal.invariant-loop-branch
invariant-loop-branch l = l.out.items ≡ (l.fn.out.items ++ to_le_bytes w32 (length l.branches)) ++ flat_map branch_bytes (take l.branch-index l.branches)
