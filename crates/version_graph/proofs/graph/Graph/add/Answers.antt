use Rattle.std.proofs.Common.{◌≡◌, ◌<◌, ◌∷◌, [], ◌++◌, ℕ, List, map, length, ap, ◌∙◌, sym, subst, arith}
use Rattle.std.specs.List.{All}
use Rattle.std.proofs.lemmas.List.{map_push, length_push}
use Rattle.version_graph.specs.Ancestors.{Lineage, AllEarlier}
use Rattle.version_graph.specs.Parents.{list_of}
use Rattle.version_graph.proofs.Reaching.{earlier_more}
use Rattle.version_graph.proofs.graph.Graph.add.Goals as goal

pub invariant_of-self : goal.invariant_of-self
invariant_of-self c =
    let old = c.self.inside.versions.items in
    let new : map list_of c.push_reserved.new.self.items ≡ map list_of old ++ c.args.parents.now ∷ [] =
    ap (map list_of) c.push_reserved.ensures.items ∙ map_push list_of old c.parents_from.result ∙ ap (λ (ps : List ℕ). map list_of old ++ ps ∷ []) c.parents_from.ensures in
    let earlier : All (λ p. p < length (map list_of old)) c.args.parents.now = subst (λ (t : Lineage). All (λ p. p < length t.versions) c.args.parents.now) (sym c.self.view_is) c.requires.earlier in
    let long = ap length c.push_reserved.ensures.items ∙ length_push old c.parents_from.result in
    let spare : 0 < c.self.inside.spare = subst (λ (t : Lineage). 0 < t.spare) (sym c.self.view_is) c.requires.spare in
    record {
      earlier = subst AllEarlier (sym new) (earlier_more (map list_of old) c.args.parents.now c.self.invariant.earlier earlier);
      few = let few = c.self.invariant.few in omega (arith, few, long, spare);
      roomy = let roomy = c.self.invariant.roomy in let same = c.push_reserved.ensures.capacity in omega (arith, roomy, long, spare, same);
    }

pub returns-clause-earlier : goal.returns-clause-earlier
returns-clause-earlier c = (invariant_of-self c).earlier
