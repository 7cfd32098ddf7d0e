use Rattle.std.proofs.Common.{◌≡◌, ◌++◌, take}
use Rattle.std.specs.List.{flat_map}
use Rattle.reply_text.specs.Rows.{marked_text}
use Rattle.reply_text.proofs.rows.write_rows.Given as goal

-- what was written before, and the lines so far
abbrev pub invariant-loop-index : goal.invariant-loop-index
invariant-loop-index l = l.out ≡ l.initial.out ++ flat_map (marked_text l.names) (take l.index l.rows)
