use Rattle.std.proofs.Common.{◌≡◌, drop}
use Rattle.std.specs.Prelude.{replicate}
use Rattle.image_parts.specs.Whole.{counts_from}
use Rattle.image_parts.proofs.whole.counts_of.Given as goal

abbrev pub invariant-loop-segment : goal.invariant-loop-segment
invariant-loop-segment l = counts_from l.counts.items (drop l.segment-index l.segments) ≡ counts_from (replicate l.branches 0) l.segments
