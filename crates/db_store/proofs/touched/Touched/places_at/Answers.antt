use Rattle.std.proofs.Common.{rules}
use Rattle.std.proofs.lemmas.List.Sorted.{IsNonDecreasingBy-from_sort_by_key}
use Rattle.db_store.proofs.ChangeLemmas.{sorted_places}
use Rattle.db_store.proofs.touched.Touched.places_at.Goals as goal

pub returns : goal.returns
returns c =
    sorted_places c.args.relation c.args.self.now.keys _ _ c.in_ok-places.ensures c.sort_unstable_by_key.ensures.permutation
    (IsNonDecreasingBy-from_sort_by_key (λ p. p.0) _ c.sort_unstable_by_key.ensures.sorted (λ a r q k. search rules))
