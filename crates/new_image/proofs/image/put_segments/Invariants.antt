use Rattle.std.proofs.Common.{◌≡◌, ◌++◌, drop}
use Rattle.new_image.specs.Image.{segments_bytes}
use Rattle.new_image.proofs.image.put_segments.Given as goal

abbrev pub invariant-loop-relation : goal.invariant-loop-relation
invariant-loop-relation l = l.out.items ++ segments_bytes (drop l._relation-index l.relations) ≡ l.initial.out.items ++ segments_bytes l.relations
