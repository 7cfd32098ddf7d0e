use Rattle.std.proofs.Common.{◌≡◌, ◌<◌, ◌≤◌, ◌+◌, ℕ, List, length, get_or, set, sym, ◌∙◌, subst, arith}
use Rattle.std.proofs.lemmas.List.{get_or_default}
use Rattle.image_parts.specs.Order.{number_after}
use Rattle.image_parts.proofs.Order.{AreNumbered, numbered, all_numbered}
use Rattle.image_parts.proofs.keys.numbers_of.Goals as goal

pub order-preserved : goal.order-preserved
order-preserved c =
    let keys : List ℕ = c.args.keys.now in
    let order : List (ℕ × ℕ) = c.in_ok-order.order.items in
    let i : ℕ = c.order.i in
    let here : i < length order = omega arith in
    let item : c.index.result.now ≡ get_or order i (0, 0) = c.index.ensures ∙ get_or_default order i c.index.result.now (0, 0) here in
    let number : c.number_at-number.result ≡ number_after order i c.order.number = rw c.deref.ensures.value at c.number_at-number.ensures in
    subst (λ n. AreNumbered keys order (i + 1) n (set c.order.numbers.items c.index.result.now.1 n)) (sym number)
    (subst (λ (e : ℕ × ℕ). AreNumbered keys order (i + 1) (number_after order i c.order.number) (set c.order.numbers.items e.1 (number_after order i c.order.number))) (sym item)
    (numbered keys order c.in_ok-order.ensures i c.order.number c.order.numbers.items here c.order.invariant))

pub returns : goal.returns
returns c =
    let order : List (ℕ × ℕ) = c.in_ok-order.order.items in
    let end : length order ≤ c.order.i = omega arith in
    all_numbered c.args.keys.now order c.in_ok-order.ensures c.order.i c.order.number c.order.numbers.items end c.order.invariant
