use Rattle.std.proofs.Common.{◌≡◌, take}
use Rattle.image_parts.specs.Walk.{all_keys}
use Rattle.image_parts.proofs.keys.keys_of.Given as goal

abbrev pub invariant-loop-part : goal.invariant-loop-part
invariant-loop-part l = l.keys.items ≡ all_keys (take l.part-index l.segments)
