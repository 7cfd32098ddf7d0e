use Rattle.std.proofs.Common.{sym, subst}
use Rattle.hybrid_view.specs.Live.{Lived, IsLived}
use Rattle.hybrid_view.proofs.AnewLemmas.{anew_is}
use Rattle.hybrid_view.proofs.live.LiveRelation.unindexed.Goals as goal

pub invariant_of-result : goal.invariant_of-result
invariant_of-result c =
    let l : Lived = record { pieces = c.args.parts.items; places = c.requires.0; count = c.args.count } in
    subst IsLived (λ i. record { pieces = l.pieces; places = sym (anew_is l c.requires.1) i; count = l.count }) c.requires.1

pub returns : goal.returns
returns c = λ places lived i. record { pieces = c.args.parts.items; places = anew_is (record { pieces = c.args.parts.items; places = places; count = c.args.count }) lived i; count = c.args.count }
