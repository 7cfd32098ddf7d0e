use Rattle.std.proofs.Common.{◌≡◌, ◌≤◌, ℕ, List, Option, map, ap, sym, subst}
use Rattle.std.specs.Option.{MatchOption}
use Rattle.version_graph.specs.declared.parents.Parents.{Parents}
use Rattle.version_graph.specs.Ancestors.{Lineage, AllEarlier, IsLastCommon, NoneFrom}
use Rattle.version_graph.specs.Parents.{list_of}
use Rattle.version_graph.proofs.Reaching.{one_law}
use Rattle.version_graph.proofs.Passes.{last_law}
use Rattle.version_graph.proofs.graph.Graph.common.Goals as goal

pub last_common_from-requires-clause-earlier : goal.last_common_from-requires-clause-earlier
last_common_from-requires-clause-earlier c =
    subst (λ (vs : List Parents). AllEarlier (map list_of vs)) (sym c.as_slice.ensures.value) c.self.invariant.earlier

pub returns-in-Some-clause-number : goal.returns-in-Some-clause-number
returns-in-Some-clause-number c =
    let a = c.args.a in
    let b = c.args.b in
    let low = c.loop-last.low in
    let kept : List (List ℕ) = map list_of c.self.inside.versions.items in
    let versions : List (List ℕ) = c.args.self.now.versions in
    let same : kept ≡ versions = ap (λ (t : Lineage). t.versions) c.self.view_is in
    let found : MatchOption c.in_ok-last.field-0 (NoneFrom kept a b low) (λ l. (low ≤ l) × IsLastCommon kept a b l) =
    subst (λ (ps : List Parents). MatchOption c.in_ok-last.field-0 (NoneFrom (map list_of ps) a b low) (λ l. (low ≤ l) × IsLastCommon (map list_of ps) a b l)) c.as_slice.ensures.value c.in_ok-last.ensures in
    let last : (low ≤ c.in-Some.last) × IsLastCommon kept a b c.in-Some.last =
    subst (λ (o : Option ℕ). MatchOption o (NoneFrom kept a b low) (λ l. (low ≤ l) × IsLastCommon kept a b l)) c.in-Some.is found in
    one_law versions a b c.in-Some.last _ (subst (λ (vs : List (List ℕ)). IsLastCommon vs a b c.in-Some.last) same last.1)
    (last_law versions a b (subst AllEarlier same c.self.invariant.earlier) c.requires.a_there c.requires.b_there c.requires.a_descends c.requires.b_descends)
