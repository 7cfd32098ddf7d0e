use Rattle.std.proofs.Common.{◌∙◌}
use Rattle.std.specs.Arc.{arc_value}
use Rattle.std.proofs.lemmas.List.{length-map}
use Rattle.hybrid_view.specs.Live.{contents_in}
use Rattle.hybrid_store.proofs.ViewLemmas.{made_kept, seen_is, seen_parts, seen_viewable}
use Rattle.hybrid_store.proofs.store.HybridStoreStore.view.Goals as goal

pub returns-clause-table : goal.returns-clause-table
returns-clause-table c =
    let s = c.args.self.now in
    let place = made_kept s.schema s.lanes.items s.order.items s.segments.items c.args.at c.requires in
    seen_is s.schema s.lanes.items s.order.items s.segments.items c.args.at (arc_value c.in_ok-view.view.table) place.0 place.1 c.in_ok-view.ensures.seen

pub returns-clause-wide : goal.returns-clause-wide
returns-clause-wide c = length-map (arc_value c.in_ok-view.view.table) contents_in ∙ c.in_ok-view.ensures.seen.wide

pub returns-clause-viewable : goal.returns-clause-viewable
returns-clause-viewable c =
    let s = c.args.self.now in
    seen_viewable s.schema s.lanes.items s.order.items s.segments.items c.args.at (arc_value c.in_ok-view.view.table) c.requires c.in_ok-view.ensures.seen s.few_relations s.counted

pub returns-clause-parts : goal.returns-clause-parts
returns-clause-parts c =
    let s = c.args.self.now in
    let place = made_kept s.schema s.lanes.items s.order.items s.segments.items c.args.at c.requires in
    seen_parts s.schema s.lanes.items s.order.items s.segments.items c.args.at.branch c.args.at.position (arc_value c.in_ok-view.view.table) place.0 c.in_ok-view.ensures.seen s.laid
