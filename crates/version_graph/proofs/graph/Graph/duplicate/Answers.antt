use Rattle.std.proofs.Common.{ap, map, length, ◌∙◌, sym, subst, arith}
use Rattle.version_graph.specs.Ancestors.{AllEarlier}
use Rattle.version_graph.specs.Parents.{list_of}
use Rattle.version_graph.proofs.graph.Graph.duplicate.Goals as goal

pub invariant_of-result : goal.invariant_of-result
invariant_of-result c =
    let same = c.in_ok-from_slice.ensures.items ∙ c.as_slice.ensures.value in
    let long = ap length same in
    let copy = c.in_ok-from_slice.field-0 in
    record {
      earlier = subst AllEarlier (ap (map list_of) (sym same)) c.self.invariant.earlier;
      few = let few = c.self.invariant.few in omega (arith, few, long);
      roomy = let len = copy.ok.0 in let cap = copy.ok.1 in omega (arith, len, cap);
    }
