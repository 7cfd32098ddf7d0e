use Rattle.std.proofs.Common.{ap, sym, ◌∙◌, List}
use Rattle.std.specs.Arc.{arc_value}
use Rattle.plain_bits.specs.Truth.{bit_of}
use Rattle.hybrid_view.specs.Live.{Piece, Lived, piece_at, lived_at}
use Rattle.hybrid_view.proofs.ViewLemmas.{live_is}
use Rattle.hybrid_view.proofs.view.HybridViewView.live.Goals as goal

pub returns : goal.returns
returns c =
    c.live.ensures
    ∙ ap (λ (p : Piece). bit_of p.bits c.args.slot) (c.part.ensures ∙ ap (λ (l : Lived). piece_at l.pieces c.args.index) (c.relation.ensures ∙ ap (λ (t : List Lived). lived_at t c.args.relation) c.deref.ensures))
    ∙ sym (live_is (lived_at (arc_value c.args.self.now.table) c.args.relation) c.args.index c.args.slot c.requires.index c.requires.slot)
