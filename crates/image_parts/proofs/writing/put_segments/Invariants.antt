use Rattle.std.proofs.Common.{◌≡◌, ◌++◌, ◌∷◌, [], length, take}
use Rattle.std.specs.Int.{w32, w64, to_le_bytes, cast_unsigned}
use Rattle.std.specs.List.{flat_map}
use Rattle.image_text.specs.Spelling.{segment_bytes}
use Rattle.image_parts.proofs.writing.put_segments.Given as goal

abbrev pub invariant-loop-segment : goal.invariant-loop-segment
invariant-loop-segment l = l.out.items ≡ (l.fn.out.items ++ to_le_bytes w32 (length l.segments)) ++ flat_map (segment_bytes l.widths) (take l.segment-index l.segments)
