use Rattle.std.proofs.Common.{◌≡◌, ◌++◌, take}
use Rattle.std.specs.List.{flat_map}
use Rattle.reply_text.specs.Report.{next_live}
use Rattle.reply_text.proofs.report.write_next_lives.Given as goal

-- what was written before, and the pieces so far
abbrev pub invariant-loop-live : goal.invariant-loop-live
invariant-loop-live l = l.out ≡ l.initial.out ++ flat_map next_live (take l.live-index l.lives)
