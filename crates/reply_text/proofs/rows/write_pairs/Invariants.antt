use Rattle.std.proofs.Common.{◌≡◌, ◌++◌, take}
use Rattle.std.specs.List.{flat_map}
use Rattle.reply_text.specs.Rows.{pair_text}
use Rattle.reply_text.proofs.rows.write_pairs.Given as goal

-- what was written before, and the lines so far
abbrev pub invariant-loop-index : goal.invariant-loop-index
invariant-loop-index l = l.out ≡ l.initial.out ++ flat_map pair_text (take l.index l.pairs)
