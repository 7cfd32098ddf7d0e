use Rattle.std.proofs.Common.{◌∙◌, ◌-◌, ◌==◌, ap, sym, length, ℕ}
use Rattle.db_store.specs.Layout.{Lane}
use Rattle.bit_rows.specs.Kept.{KeptLane}
use Rattle.hybrid_store.proofs.LayoutLemmas.{lane_kept}
use Rattle.hybrid_store.proofs.ViewLemmas.{made_kept}
use Rattle.hybrid_store.proofs.store.HybridStore.is_last.Goals as goal

pub lane-requires : goal.lane-requires
lane-requires c =
    let s = c.args.self.now in
    let place = made_kept s.schema s.lanes.items s.order.items s.segments.items c.args.at c.requires in
    place.0

pub returns : goal.returns
returns c =
    let s = c.args.self.now in
    let o = c.args.at in
    let place = made_kept s.schema s.lanes.items s.order.items s.segments.items o c.requires in
    ap (λ (n : ℕ). o.position == n - 1) (c.count.ensures ∙ ap (λ (k : KeptLane). length k.seconds) c.lane.ensures.lane)
    ∙ ap (λ (x : Lane). o.position == length x.seconds - 1) (sym (lane_kept s.schema s.lanes.items s.order.items s.segments.items o.branch place.0))
