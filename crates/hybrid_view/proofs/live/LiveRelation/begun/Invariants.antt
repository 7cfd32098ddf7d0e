use Rattle.std.proofs.Common.{◌≡◌, take}
use Rattle.std.specs.Prelude.{filter}
use Rattle.hybrid_view.specs.Live.{has_live}
use Rattle.hybrid_view.proofs.live.LiveRelation.begun.Given as goal

abbrev pub invariant-loop-part : goal.invariant-loop-part
invariant-loop-part l = l.parts.items ≡ filter has_live (take l.part-index l.part-items)
