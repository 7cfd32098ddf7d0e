use Rattle.std.proofs.Common.{rules}
use Rattle.std.proofs.lemmas.List.Sorted.{IsNonDecreasingBy-from_sort_by_key, answers_always, ties_still_rise}
use Rattle.image_parts.proofs.Order.{order_is, places_rise}
use Rattle.image_parts.proofs.keys.ordered.Goals as goal

pub returns : goal.returns
returns c =
    order_is c.args.keys.now _ _ c.in_ok-order.ensures c.in_ok-sort_by_key.ensures.permutation
    (IsNonDecreasingBy-from_sort_by_key (λ e. e.0) _ c.in_ok-sort_by_key.ensures.sorted (λ a r q k. search rules))
    (ties_still_rise (λ e. e.1) (λ e. e.0) _ _ (places_rise _ _ c.in_ok-order.ensures) (c.sort_by_key.ensures.stable (λ e. e.0) (answers_always _ _ _ (λ f a r g h. search rules))))
