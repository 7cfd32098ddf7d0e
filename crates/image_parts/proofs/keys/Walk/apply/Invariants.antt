use Rattle.std.proofs.Common.{◌≡◌}
use Rattle.image_parts.specs.Walk.{Agrees, Flips}
use Rattle.image_parts.proofs.Flips.{first_words}
use Rattle.image_parts.proofs.keys.Walk.apply.Given as goal

abbrev pub invariant-words : goal.invariant-words
invariant-words l = Agrees l.numbers l.self × Flips l.base l.size (first_words l.delta.first l.delta.words l.i) l.fn.self.bits.items l.self.bits.items
