use Rattle.std.proofs.Common.{◌∙◌, ap, sym, arith}
use Rattle.std.proofs.lemmas.List.{length-map}
use Rattle.db_store.specs.Layout.{Lane}
use Rattle.bit_rows.specs.Kept.{KeptLane}
use Rattle.hybrid_store.specs.Lanes.{lane_of}
use Rattle.hybrid_store.proofs.LayoutLemmas.{lane_kept}
use Rattle.hybrid_store.proofs.store.HybridStore.origin.Goals as goal

pub lane-requires : goal.lane-requires
lane-requires c =
    let s = c.args.self.now in
    let n = length-map s.lanes.items (lane_of s.schema) in
    omega (arith, n, c.requires)

pub returns : goal.returns
returns c =
    let s = c.args.self.now in
    let n = length-map s.lanes.items (lane_of s.schema) in
    c.origin.ensures
    ∙ ap (λ (k : KeptLane). k.origin) c.lane.ensures.lane
    ∙ sym (ap (λ (x : Lane). x.origin) (lane_kept s.schema s.lanes.items s.order.items s.segments.items c.args.branch (omega (arith, n, c.requires))))
