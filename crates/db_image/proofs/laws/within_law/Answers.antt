use Rattle.db_image.proofs.StoreWithin.{are_within}
use Rattle.db_image.proofs.laws.within_law.Goals as goal

pub returns : goal.returns
returns c =
    let s = c.args.store.now in
    are_within s.schema s.lanes.items s.order.items s.segments.items s.laid
