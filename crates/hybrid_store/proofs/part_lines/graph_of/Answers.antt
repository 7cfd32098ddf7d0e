use Rattle.std.proofs.Common.{◌+◌, sym, subst, arith, ℕ, List}
use Rattle.hybrid_store.specs.PartLines.{AreLined}
use Rattle.hybrid_store.proofs.PartLines.{lined_more}
use Rattle.hybrid_store.proofs.part_lines.graph_of.Goals as goal

pub loop-index-preserved : goal.loop-index-preserved
loop-index-preserved c =
    let v = c.loop-index.invariant in
    record {
      later = omega (arith, v.later);
      lined = subst (λ (vs : List (List ℕ)). AreLined c.args.lanes.now c.args.order.now (c.loop-index.index + 1) vs) (sym c.add_next.ensures.versions) (lined_more c.args.lanes.now c.args.order.now c.loop-index.index c.loop-index.graph.versions v.later v.lined);
      room = omega (arith, v.room, c.add_next.ensures.room);
    }
