use Rattle.std.proofs.Common.{◌≡◌, ◌≤◌, ℕ, length, refl, sym, ap, ◌∙◌, arith}
use Rattle.image_parts.proofs.Steps.{between_end}
use Rattle.image_parts.proofs.keys.Walk.step.Goals as goal

pub returns-clause-shows : goal.returns-clause-shows
returns-clause-shows c = λ b lanes shown. between_end b c.args.segments.now c.args.n c.segments.i c.segments.self.bits.items (omega (arith, c.segments-test.false)) (c.segments.invariant.2 b lanes shown)
