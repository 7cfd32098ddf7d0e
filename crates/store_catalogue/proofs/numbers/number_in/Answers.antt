use Rattle.std.proofs.Common.{◌≡◌, ◌<◌, ◌-◌, ◌∙◌, ℕ, List, true, false, ap, sym, arith, length, get_or}
use Rattle.std.proofs.lemmas.Bool.{false≢true}
use Rattle.db_value.specs.declared.version.VersionPlace.{VersionPlace}
use Rattle.db_store.specs.Dataset.{root}
use Rattle.db_store.specs.Order.{same_place, number_in}
use Rattle.db_store.proofs.OrderMade.{same_is, same_self, number_at}
use Rattle.store_catalogue.proofs.numbers.number_in.Goals as goal

pub returns-then-is_place : goal.returns-then-is_place
returns-then-is_place c =
    let order : List VersionPlace = c.args.order.now in
    let n : ℕ = c.below.number - 1 in
    let h : n < length order = omega (arith, c.below.invariant.within, c.below-test.true) in
    let same : same_place (get_or order n root) c.args.at ≡ true = sym c.is_place.ensures ∙ c.if-is_place.true in
    sym (ap (number_in order) (sym (same_is (get_or order n root) c.args.at same)) ∙ c.requires.once n h)

pub below-preserved : goal.below-preserved
below-preserved c =
    let order : List VersionPlace = c.args.order.now in
    let n : ℕ = c.below.number - 1 in
    let no : same_place (get_or order n root) c.args.at ≡ false = sym c.is_place.ensures ∙ c.if-is_place.false in
    let other : number_in order c.args.at ≡ n → ⊥ = λ e.
    false≢true (sym no ∙ ap (λ (v : VersionPlace). same_place v c.args.at) (ap (λ k. get_or order k root) (sym e) ∙ number_at order c.args.at c.requires.stands) ∙ same_self c.args.at) in
    record {
      stands = omega (arith, c.below.invariant.stands, other);
      within = omega (arith, c.below.invariant.within);
    }
