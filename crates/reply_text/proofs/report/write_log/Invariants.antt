use Rattle.std.proofs.Common.{◌≡◌, ◌++◌, take}
use Rattle.std.specs.List.{flat_map}
use Rattle.reply_text.specs.Report.{log_text}
use Rattle.reply_text.proofs.report.write_log.Given as goal

-- what was written before, and the pieces so far
abbrev pub invariant-loop-line : goal.invariant-loop-line
invariant-loop-line l = l.out ≡ l.initial.out ++ flat_map log_text (take l.line-index l.lines)
