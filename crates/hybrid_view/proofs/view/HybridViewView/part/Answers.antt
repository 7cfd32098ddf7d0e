use Rattle.std.proofs.Common.{ap, sym, ◌∙◌, List, length}
use Rattle.std.specs.Arc.{arc_value}
use Rattle.hybrid_view.specs.Live.{Piece, Lived, piece_at, lived_at}
use Rattle.hybrid_view.proofs.ViewLemmas.{count_is}
use Rattle.hybrid_view.proofs.view.HybridViewView.part.Goals as goal

pub returns-clause-slots : goal.returns-clause-slots
returns-clause-slots c =
    c.slots.ensures
    ∙ ap (λ (p : Piece). length p.rows.records) (c.part-part.ensures ∙ ap (λ (l : Lived). piece_at l.pieces c.args.index) (c.relation.ensures ∙ ap (λ (t : List Lived). lived_at t c.args.relation) c.deref.ensures))
    ∙ sym (count_is (lived_at (arc_value c.args.self.now.table) c.args.relation) c.args.index c.requires.index)
