use Rattle.std.proofs.Common.{◌≡◌, ◌∙◌, sym, Some}
use Rattle.std.specs.BTreeMap.{get}
use Rattle.branch_tx.specs.Lending.{key_cmp}
use Rattle.branch_tx.proofs.LentLemmas.{places_less, places_kept, option_is, option_not}
use Rattle.branch_tx.proofs.lent.forget.Goals as goal

pub returns-then-eq : goal.returns-then-eq
returns-then-eq c =
    let last : get key_cmp c.args.places.now c.of-key.result ≡ Some c.args.place = sym (c.copied.ensures ∙ c.get.ensures.value) ∙ option_is c.copied.result c.args.place (sym c.eq.ensures ∙ c.if-eq.true) in
    λ names at a. places_less names c.args.name.now c.of-key.result c.args.places.now c.remove.new.self c.args.place c.of-key.ensures at last a c.remove.ensures.updates.0

pub returns-else-eq : goal.returns-else-eq
returns-else-eq c =
    let not_last = option_not c.copied.result c.args.place (sym c.eq.ensures ∙ c.if-eq.false) in
    λ names at a. places_kept names c.args.name.now c.of-key.result c.args.places.now c.args.place c.of-key.ensures at (λ h. not_last (c.copied.ensures ∙ c.get.ensures.value ∙ h)) a
