use Rattle.std.proofs.Common.{◌≡◌, ◌++◌, drop}
use Rattle.image_text.specs.Spelling.{segments_bytes}
use Rattle.image_parts.proofs.writing.put_all.Given as goal

abbrev pub invariant-loop-i : goal.invariant-loop-i
invariant-loop-i l = l.out.items ++ segments_bytes (drop l.i l.relations) (drop l.i l.segments) ≡ l.fn.out.items ++ segments_bytes l.relations l.segments
