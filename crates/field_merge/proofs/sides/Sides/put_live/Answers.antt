use Rattle.field_merge.specs.declared.sides.Sides.{Sides}
use Rattle.field_merge.specs.Shared.{live_row}
use Rattle.field_merge.proofs.SplitLemmas.{grown}
use Rattle.field_merge.proofs.sides.Sides.put_live.Goals as goal

pub returns : goal.returns
returns c =
    let new : Sides = record { base = c.put.new.rows; left = c.put-2.new.rows; right = c.put-3.new.rows } in
    grown (live_row c.args.base c.args.row.now) (live_row c.args.left c.args.row.now) (live_row c.args.right c.args.row.now) c.args.self.now new c.in_ok-put.ensures c.in_ok-put-2.ensures c.in_ok-put-3.ensures
