use Rattle.std.proofs.Common.{◌≡◌, ◌<◌, ◌∙◌, ℕ, List, ap, sym, subst, arith, length, get_or}
use Rattle.std.proofs.lemmas.List.{get_or_default}
use Rattle.version_graph.specs.Ancestors.{Reaches}
use Rattle.version_graph.specs.LastCommon.{last_common}
use Rattle.db_store.specs.Dataset.{Dataset, root, IsMade}
use Rattle.db_store.specs.Order.{lineage, number_of}
use Rattle.db_store.proofs.OrderMade.{number_reaches, common_there, common_made}
use Rattle.hybrid_store.specs.Store.{dataset_in}
use Rattle.hybrid_store.proofs.store.HybridStoreStore.common.Goals as goal

pub common-requires-clause-a_descends : goal.common-requires-clause-a_descends
common-requires-clause-a_descends c =
    let s = c.args.self.now in
    let d : Dataset = dataset_in s in
    subst (λ (vs : List (List ℕ)). Reaches vs c.number.result 0) (sym s.lined) (subst (λ n. Reaches (lineage d) n 0) (sym c.number.ensures.number) (number_reaches d c.args.a s.ordered c.requires.a_made))

pub common-requires-clause-b_descends : goal.common-requires-clause-b_descends
common-requires-clause-b_descends c =
    let s = c.args.self.now in
    let d : Dataset = dataset_in s in
    subst (λ (vs : List (List ℕ)). Reaches vs c.number-2.result 0) (sym s.lined) (subst (λ n. Reaches (lineage d) n 0) (sym c.number-2.ensures.number) (number_reaches d c.args.b s.ordered c.requires.b_made))

pub index-requires : goal.index-requires
index-requires c =
    let s = c.args.self.now in
    let d : Dataset = dataset_in s in
    let is : c.in_ok-last.last ≡ last_common (lineage d) (number_of d c.args.a) (number_of d c.args.b) =
    c.in_ok-last.ensures.number ∙ (λ i. last_common (s.lined i) (c.number.ensures.number i) (c.number-2.ensures.number i)) in
    omega (arith, is, common_there d c.args.a c.args.b s.ordered c.requires.a_made c.requires.b_made, s.order.ok.0)

pub returns-clause-common : goal.returns-clause-common
returns-clause-common c =
    let s = c.args.self.now in
    let d : Dataset = dataset_in s in
    let is : c.in_ok-last.last ≡ last_common (lineage d) (number_of d c.args.a) (number_of d c.args.b) =
    c.in_ok-last.ensures.number ∙ (λ i. last_common (s.lined i) (c.number.ensures.number i) (c.number-2.ensures.number i)) in
    let within : c.in_ok-last.last < length s.order.items = omega (arith, is, common_there d c.args.a c.args.b s.ordered c.requires.a_made c.requires.b_made) in
    c.index.ensures ∙ get_or_default s.order.items c.in_ok-last.last c.index.result.now root within ∙ ap (λ n. get_or s.order.items n root) is

pub returns-clause-made : goal.returns-clause-made
returns-clause-made c =
    let s = c.args.self.now in
    let d : Dataset = dataset_in s in
    subst (IsMade d) (sym (returns-clause-common c)) (common_made d c.args.a c.args.b s.sound s.ordered c.requires.a_made c.requires.b_made)
