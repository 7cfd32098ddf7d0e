use Rattle.std.proofs.Common.{◌<◌, ap, sym, ◌∙◌, List, length, subst}
use Rattle.std.specs.Arc.{arc_value}
use Rattle.record_page.specs.Page.{record_at}
use Rattle.hybrid_view.specs.Live.{Piece, Lived, piece_at, lived_at}
use Rattle.hybrid_view.proofs.ViewLemmas.{row_is, slot_there}
use Rattle.hybrid_view.proofs.view.HybridViewView.read.Goals as goal

pub read-requires : goal.read-requires
read-requires g c =
    subst (λ (p : Piece). c.args.spot.slot < length p.rows.records)
    (sym (c.part.ensures ∙ ap (λ (l : Lived). piece_at l.pieces c.args.spot.part) (c.relation.ensures ∙ ap (λ (t : List Lived). lived_at t c.args.relation) c.deref.ensures)))
    (slot_there (lived_at (arc_value c.args.self.now.table) c.args.relation) c.args.spot.part c.args.spot.slot c.requires.part c.requires.slot)

pub returns-clause-row : goal.returns-clause-row
returns-clause-row g c =
    c.read.ensures.row
    ∙ ap (λ (p : Piece). record_at p.rows.records c.args.spot.slot) (c.part.ensures ∙ ap (λ (l : Lived). piece_at l.pieces c.args.spot.part) (c.relation.ensures ∙ ap (λ (t : List Lived). lived_at t c.args.relation) c.deref.ensures))
    ∙ sym (row_is (lived_at (arc_value c.args.self.now.table) c.args.relation) c.args.spot.part c.args.spot.slot c.requires.part c.requires.slot)
