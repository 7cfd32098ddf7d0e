use Rattle.std.proofs.Common.{◌∙◌, ap, sym, length, List}
use Rattle.std.proofs.lemmas.List.{length-map}
use Rattle.db_store.specs.Layout.{Segment}
use Rattle.bit_rows.specs.Segments.{list_at}
use Rattle.hybrid_store.specs.Lanes.{segment_of}
use Rattle.hybrid_store.proofs.LayoutLemmas.{segments_kept}
use Rattle.hybrid_store.proofs.store.HybridStore.segments.Goals as goal

pub returns : goal.returns
returns c =
    let s = c.args.self.now in
    c.next_segment.ensures.result
    ∙ sym (length-map (list_at s.segments.items c.args.relation) segment_of)
    ∙ ap (λ (ss : List Segment). length ss) (sym (segments_kept s.schema s.lanes.items s.order.items s.segments.items c.args.relation c.requires))
