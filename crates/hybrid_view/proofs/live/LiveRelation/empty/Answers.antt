use Rattle.std.proofs.Common.{◌≡◌, ◌∷◌, [], ◌++◌, ap, sym, ◌∙◌, subst, List}
use Rattle.hybrid_view.specs.Live.{Piece, IsLived}
use Rattle.hybrid_view.proofs.EmptyLemmas.{empty_is_lived}
use Rattle.hybrid_view.proofs.live.LiveRelation.empty.Goals as goal

pub of-requires : goal.of-requires
of-requires c =
    let items : c.push.new.self.items ≡ c.args.head ∷ [] = c.in_ok-push.ensures.items ∙ ap (λ (ps : List Piece). ps ++ c.args.head ∷ []) c.new-parts.ensures.items in
    subst IsLived (λ i. record { pieces = sym items i; places = sym c.new-index.ensures i; count = 0 }) (empty_is_lived c.args.head c.requires.records c.requires.bits)
