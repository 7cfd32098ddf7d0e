use Rattle.std.proofs.Common.{◌≡◌, ◌∙◌, ap, sym, subst, List}
use Rattle.std.specs.Arc.{arc_value}
use Rattle.hybrid_view.specs.Live.{Lived, lived_at, parts_in}
use Rattle.bit_rows.specs.Segments.{list_at}
use Rattle.hybrid_store.specs.Store.{layout_of}
use Rattle.hybrid_store.specs.Sees.{parts_at}
use Rattle.hybrid_store.specs.Whole.{AreWhole}
use Rattle.hybrid_store.proofs.ViewLemmas.{made_kept}
use Rattle.hybrid_store.proofs.WholeLemmas.{parts_seen}
use Rattle.hybrid_store.proofs.store.HybridStore.view_at.Goals as goal

pub returns-then-shows_whole-clause-parts : goal.returns-then-shows_whole-clause-parts
returns-then-shows_whole-clause-parts c =
    let s = c.args.self.now in
    let o = c.args.at in
    let place = made_kept s.schema s.lanes.items s.order.items s.segments.items o c.requires in
    λ r g. parts_seen s.schema s.lanes.items s.order.items s.segments.items s.laid o place.0 (arc_value c.in_ok-view.view.table) c.in_ok-view.ensures r g
    (subst (λ (ls : List Lived). AreWhole (list_at s.segments.items r) (lived_at ls r).pieces) c.table.ensures (c.shows_whole.ensures c.if-shows_whole.true r g))

pub returns-clause-parts : goal.returns-clause-parts
returns-clause-parts c =
    let s = c.args.self.now in
    let o = c.args.at in
    let place = made_kept s.schema s.lanes.items s.order.items s.segments.items o c.requires in
    λ r g. subst (λ (ls : List Lived). parts_in (lived_at ls r) ≡ parts_at (layout_of s) o r) (sym (ap arc_value c.of.ensures ∙ c.in_ok-shared.ensures.ok))
    (parts_seen s.schema s.lanes.items s.order.items s.segments.items s.laid o place.0 c.in_ok-table.table c.in_ok-table.ensures.seen r g (c.in_ok-table.ensures.whole r g))
