use Rattle.std.proofs.Common.{◌≡◌, ℕ, map}
use Rattle.image_text.specs.declared.image.SegmentPart.{SegmentPart}
use Rattle.image_parts.specs.Whole.{lane_of}
use Rattle.image_parts.specs.Walk.{Agrees, base_of, Shows}
use Rattle.image_parts.proofs.Steps.{Between}
use Rattle.image_parts.proofs.keys.Walk.step.Given as goal

abbrev pub invariant-segments : goal.invariant-segments
invariant-segments l = (l.base ≡ base_of l.segments l.i) × Agrees l.numbers l.self
    × ((b : ℕ) → l.lanes ≡ map (λ (s : SegmentPart). lane_of b s.rows) l.segments → Shows b l.segments l.n l.fn.self.bits.items → Between b l.segments l.n l.i l.self.bits.items)
