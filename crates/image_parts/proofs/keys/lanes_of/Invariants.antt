use Rattle.std.proofs.Common.{◌≡◌, map, take}
use Rattle.image_text.specs.declared.image.SegmentPart.{SegmentPart}
use Rattle.image_parts.specs.Whole.{lane_of}
use Rattle.image_parts.proofs.keys.lanes_of.Given as goal

abbrev pub invariant-loop-part : goal.invariant-loop-part
invariant-loop-part l = l.lanes.items ≡ map (λ (s : SegmentPart). lane_of l.branch s.rows) (take l.part-index l.segments)
