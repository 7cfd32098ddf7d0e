use Rattle.std.proofs.Common.{◌+◌, ◌<◌, ◌^◌, ap, map, length, sym, subst, arith}
use Rattle.std.proofs.lemmas.List.{length-map}
use Rattle.version_graph.specs.Ancestors.{Lineage, AllEarlier}
use Rattle.version_graph.specs.Parents.{list_of}
use Rattle.version_graph.proofs.graph.Graph.reserve.Goals as goal

pub invariant_of-self : goal.invariant_of-self
invariant_of-self c =
    let same = c.reserve.ensures.items in
    let long = ap length same in
    record {
      earlier = subst AllEarlier (ap (map list_of) (sym same)) c.self.invariant.earlier;
      few = let few = c.self.invariant.few in omega (arith, few, long);
      roomy = let roomy = c.self.invariant.roomy in let cap = c.reserve.ensures.capacity in omega (arith, roomy, long, cap);
    }

pub invariant_of-self-2 : goal.invariant_of-self-2
invariant_of-self-2 c =
    let same = c.reserve.ensures.items in
    let long = ap length same in
    let few : length (map list_of c.self.inside.versions.items) + c.self.inside.spare + c.args.more < 2 ^ 32 = subst (λ (t : Lineage). length t.versions + t.spare + c.args.more < 2 ^ 32) (sym c.self.view_is) c.requires in
    let old = length-map c.self.inside.versions.items list_of in
    record {
      earlier = subst AllEarlier (ap (map list_of) (sym same)) c.self.invariant.earlier;
      few = omega (arith, few, old, long);
      roomy = let room = c.in_ok-reserve.ensures.ok in let len = c.self.inside.versions.ok.0 in omega (arith, room, len, long);
    }
