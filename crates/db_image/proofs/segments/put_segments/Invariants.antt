use Rattle.std.proofs.Common.{◌≡◌, ◌++◌, map, take}
use Rattle.db_image.specs.Parts.{segment_with}
use Rattle.db_image.proofs.segments.put_segments.Given as goal

abbrev pub invariant-loop-part : goal.invariant-loop-part
invariant-loop-part l = l.made.items ≡ l.initial.made.items ++ map (segment_with l.relation l.widths) (take l.part-index l.parts)
