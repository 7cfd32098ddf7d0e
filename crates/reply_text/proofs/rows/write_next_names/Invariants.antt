use Rattle.std.proofs.Common.{◌≡◌, ◌++◌, take}
use Rattle.std.specs.List.{flat_map}
use Rattle.reply_text.specs.Rows.{next_name}
use Rattle.reply_text.proofs.rows.write_next_names.Given as goal

-- what was written before, and the pieces so far
abbrev pub invariant-loop-place : goal.invariant-loop-place
invariant-loop-place l = l.out ≡ l.initial.out ++ flat_map (next_name l.names) (take l.place-index l.places)
