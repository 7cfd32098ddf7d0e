use Rattle.std.proofs.Common.{List, ap, sym, subst}
use Rattle.hybrid_view.specs.Live.{Lived, Piece, IsLived}
use Rattle.hybrid_view.specs.RowPlaces.{AllNext}
use Rattle.hybrid_view.proofs.live.LiveRelation.after_many.Goals as goal

pub unindexed-requires : goal.unindexed-requires
unindexed-requires c = c.requires.lived c.in_ok-parts.parts.items c.in_ok-parts.ensures

pub returns-clause-parts : goal.returns-clause-parts
returns-clause-parts c =
    let s = c.requires.lived c.in_ok-parts.parts.items c.in_ok-parts.ensures in
    subst (λ (l : Lived). AllNext c.args.places.now c.args.head c.args.rows.now c.args.self.now.pieces l.pieces) (sym (c.unindexed.ensures s.0 s.1)) c.in_ok-parts.ensures

pub returns-clause-places : goal.returns-clause-places
returns-clause-places c =
    let s = c.requires.lived c.in_ok-parts.parts.items c.in_ok-parts.ensures in
    λ spots lived. ap (λ (l : Lived). l.places) (c.unindexed.ensures spots (subst (λ (ps : List Piece). IsLived (record { pieces = ps; places = spots; count = c.args.count })) (ap (λ (l : Lived). l.pieces) (c.unindexed.ensures s.0 s.1)) lived))

pub returns-clause-count : goal.returns-clause-count
returns-clause-count c =
    let s = c.requires.lived c.in_ok-parts.parts.items c.in_ok-parts.ensures in
    ap (λ (l : Lived). l.count) (c.unindexed.ensures s.0 s.1)
