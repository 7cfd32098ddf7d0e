use Rattle.std.proofs.Common.{◌<◌, sym, subst, arith, length, ℕ, List}
use Rattle.hybrid_view.specs.Live.{Lived}
use Rattle.bit_rows.specs.Segments.{KeptRecords, list_at}
use Rattle.hybrid_store.specs.Whole.{AreThere}
use Rattle.hybrid_store.proofs.ViewLemmas.{made_kept}
use Rattle.hybrid_store.proofs.WholeLemmas.{seen_pieces}
use Rattle.hybrid_store.proofs.store.HybridStore.shows_whole.Goals as goal

pub are_whole-requires : goal.are_whole-requires
are_whole-requires c =
    let s = c.args.self.now in
    let o = c.args.at in
    let r : ℕ = c.loop-relation.relation in
    let place = made_kept s.schema s.lanes.items s.order.items s.segments.items o c.requires.made in
    let lt : r < length s.schema = omega (arith, c.loop-relation-test.true, c.width-relation-end.ensures) in
    subst (λ (ks : List KeptRecords). AreThere ks c.relation-live.result.now.pieces) (sym c.list-kept.ensures)
    (subst (λ (l : Lived). AreThere (list_at s.segments.items r) l.pieces) (sym c.relation-live.ensures)
    (seen_pieces s.schema s.lanes.items s.order.items s.segments.items s.laid o place.0 c.args.table.now c.requires.seen r lt))
