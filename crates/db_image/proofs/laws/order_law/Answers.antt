use Rattle.db_image.proofs.OrderKept.{new_in_order, stays_in_order}
use Rattle.db_image.proofs.PartsInOrder.{parts_in_order}
use Rattle.db_image.proofs.laws.order_law.Goals as goal

pub returns-clause-first : goal.returns-clause-first
returns-clause-first c = new_in_order

pub returns-clause-stays : goal.returns-clause-stays
returns-clause-stays c = stays_in_order

pub returns-clause-parts : goal.returns-clause-parts
returns-clause-parts c = parts_in_order
