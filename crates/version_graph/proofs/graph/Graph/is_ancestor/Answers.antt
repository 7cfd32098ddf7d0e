use Rattle.std.proofs.Common.{List, ℕ, map, ap, ◌∙◌, sym, subst, arith}
use Rattle.std.proofs.lemmas.Bool.{false≢true}
use Rattle.version_graph.specs.declared.parents.Parents.{Parents}
use Rattle.version_graph.specs.Ancestors.{Lineage, Reaches, AllEarlier}
use Rattle.version_graph.specs.Parents.{list_of}
use Rattle.version_graph.proofs.Reaching.{order_law, answer_is}
use Rattle.version_graph.proofs.graph.Graph.is_ancestor.Goals as goal

pub returns-then-a-b : goal.returns-then-a-b
returns-then-a-b c =
    let earlier : AllEarlier c.args.self.now.versions = subst (λ (t : Lineage). AllEarlier t.versions) c.self.view_is c.self.invariant.earlier in (
      λ t. absurd (false≢true t),
      λ r. let le = order_law c.args.self.now.versions c.args.b c.args.a earlier r in absurd (omega (arith, le, c.if-a-b.true)),
    )

pub last_common_from-requires-clause-earlier : goal.last_common_from-requires-clause-earlier
last_common_from-requires-clause-earlier c =
    subst (λ (vs : List Parents). AllEarlier (map list_of vs)) (sym c.as_slice.ensures.value) c.self.invariant.earlier

pub returns : goal.returns
returns c =
    let vs = map list_of c.as_slice.result.now in
    let same = ap (map list_of) c.as_slice.ensures.value ∙ ap (λ (t : Lineage). t.versions) c.self.view_is in
    let earlier : AllEarlier vs = subst AllEarlier (ap (map list_of) (sym c.as_slice.ensures.value)) c.self.invariant.earlier in
    let answer = answer_is vs c.args.a c.args.b c.in_ok-found.found earlier c.in_ok-found.ensures in (
      λ t. subst (λ (xs : List (List ℕ)). Reaches xs c.args.b c.args.a) same (answer.0 (sym c.is_some.ensures ∙ t)),
      λ r. c.is_some.ensures ∙ answer.1 (subst (λ (xs : List (List ℕ)). Reaches xs c.args.b c.args.a) (sym same) r),
    )
