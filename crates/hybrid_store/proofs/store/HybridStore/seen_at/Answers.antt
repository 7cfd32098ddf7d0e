use Rattle.std.proofs.Common.{◌≡◌, ◌∙◌, ap, sym, subst, get_or, true, List}
use Rattle.std.specs.Arc.{arc_value}
use Rattle.db_store.specs.LayoutGrowth.{is_last}
use Rattle.hybrid_view.specs.Live.{Lived}
use Rattle.bit_rows.specs.Kept.{KeptLane, no_kept}
use Rattle.hybrid_store.specs.Store.{layout_of}
use Rattle.hybrid_store.specs.Stored.{IsSeen}
use Rattle.hybrid_store.proofs.PrepareLemmas.{head_seen}
use Rattle.hybrid_store.proofs.ViewLemmas.{made_kept, last_kept}
use Rattle.hybrid_store.proofs.store.HybridStore.seen_at.Goals as goal

pub lane-requires : goal.lane-requires
lane-requires c =
    let s = c.args.self.now in
    let place = made_kept s.schema s.lanes.items s.order.items s.segments.items c.args.at c.requires in
    place.0

pub returns-then-is_last : goal.returns-then-is_last
returns-then-is_last c =
    let s = c.args.self.now in
    let o = c.args.at in
    let k : KeptLane = get_or s.lanes.items o.branch no_kept in
    let place = made_kept s.schema s.lanes.items s.order.items s.segments.items o c.requires in
    let last : is_last (layout_of s) o ≡ true = sym c.is_last.ensures ∙ c.if-is_last.true in
    subst (λ (ls : List Lived). IsSeen s.schema s.segments.items k o.position ls) (sym (c.in_ok-view.ensures ∙ c.view.ensures ∙ ap (λ (x : KeptLane). x.head) c.lane.ensures.lane))
    (head_seen s.schema s.lanes.items s.order.items s.segments.items o.branch o.position s.stored s.laid place.0 (last_kept s.schema s.lanes.items s.order.items s.segments.items o place.0 last))

pub returns : goal.returns
returns c =
    let s = c.args.self.now in
    let o = c.args.at in
    let k : KeptLane = get_or s.lanes.items o.branch no_kept in
    subst (λ (ls : List Lived). IsSeen s.schema s.segments.items k o.position ls) (sym (ap arc_value c.of.ensures ∙ c.in_ok-shared.ensures.ok)) c.in_ok-table.ensures
