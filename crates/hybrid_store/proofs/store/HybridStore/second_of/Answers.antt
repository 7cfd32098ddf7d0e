use Rattle.std.proofs.Common.{◌∙◌, ap, arith, length, get_or, None}
use Rattle.bit_rows.specs.Kept.{KeptLane}
use Rattle.hybrid_store.proofs.StoredLemmas.{kept_count, kept_second}
use Rattle.hybrid_store.proofs.store.HybridStore.second_of.Goals as goal

pub returns : goal.returns
returns c =
    let s = c.args.self.now in
    let n = kept_count s.schema s.lanes.items s.order.items s.segments.items in
    let k = ap (λ (x : KeptLane). length x.seconds) c.lane.ensures.lane in
    let m = c.lane.ensures.count in
    c.second.ensures
    ∙ ap (λ (x : KeptLane). get_or x.seconds c.args.at.position None) c.lane.ensures.lane
    ∙ kept_second s.schema s.lanes.items s.order.items s.segments.items c.args.at (omega (arith, n, c.requires.0)) (omega (arith, k, m, c.requires.1))
