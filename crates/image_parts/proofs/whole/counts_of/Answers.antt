use Rattle.std.specs.Prelude.{replicate}
use Rattle.image_parts.specs.Whole.{counts_from}
use Rattle.image_parts.proofs.Heads.{goes_on, ends}
use Rattle.image_parts.proofs.whole.counts_of.Goals as goal

pub loop-segment-preserved : goal.loop-segment-preserved
loop-segment-preserved c = goes_on c.loop-segment.counts.items c.count_head.new.counts.items c.args.segments.now c.loop-segment.segment-index c.segment-item.result (counts_from (replicate c.args.branches 0) c.args.segments.now) c.loop-segment-test.true c.segment-item.is c.count_head.ensures c.loop-segment.invariant

pub returns : goal.returns
returns c = ends c.loop-segment.counts.items c.args.segments.now c.loop-segment.segment-index (counts_from (replicate c.args.branches 0) c.args.segments.now) c.loop-segment-test.false c.loop-segment.invariant
