use Rattle.std.proofs.Common.{ℕ, sym, subst}
use Rattle.hybrid_view.specs.Live.{IsLived}
use Rattle.hybrid_view.specs.Spots.{places_anew}
use Rattle.hybrid_view.proofs.live.LiveRelation.of_parts.Goals as goal

pub invariant_of-result : goal.invariant_of-result
invariant_of-result c = subst (λ (n : ℕ). IsLived (record { pieces = c.args.parts.items; places = places_anew c.args.parts.items; count = n })) (sym c.requires.count) c.requires.lived

pub returns : goal.returns
returns c = λ i. record { pieces = c.args.parts.items; places = places_anew c.args.parts.items; count = c.requires.count i }
