use Rattle.image_parts.proofs.Order.{AreNumbered}
use Rattle.image_parts.proofs.keys.numbers_of.Given as goal

abbrev pub invariant-order : goal.invariant-order
invariant-order l = AreNumbered l.fn.keys l.order.items l.i l.number l.numbers.items
