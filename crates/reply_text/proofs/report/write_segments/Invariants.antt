use Rattle.std.proofs.Common.{◌≡◌, ◌++◌, take}
use Rattle.std.specs.List.{flat_map}
use Rattle.reply_text.specs.Report.{segment_text}
use Rattle.reply_text.proofs.report.write_segments.Given as goal

-- what was written before, and the pieces so far
abbrev pub invariant-loop-segment : goal.invariant-loop-segment
invariant-loop-segment l = l.out ≡ l.initial.out ++ flat_map segment_text (take l.segment-index l.segments)
