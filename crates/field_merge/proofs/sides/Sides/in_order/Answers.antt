use Rattle.db_store.specs.Table.{rows_of}
use Rattle.field_merge.specs.declared.sides.Sides.{Sides}
use Rattle.field_merge.proofs.SplitLemmas.{split_sorted}
use Rattle.field_merge.proofs.sides.Sides.in_order.Goals as goal

pub returns : goal.returns
returns c = λ base left right s.
    let new : Sides = record { base = c.in_order.result; left = c.in_order-2.result; right = c.in_order-3.result } in
    record {
      split = split_sorted (rows_of base) (rows_of left) (rows_of right) c.args.self new c.in_order.ensures.permutation c.in_order-2.ensures.permutation c.in_order-3.ensures.permutation s;
      base_up = c.in_order.ensures.sorted;
      left_up = c.in_order-2.ensures.sorted;
      right_up = c.in_order-3.ensures.sorted;
    }
