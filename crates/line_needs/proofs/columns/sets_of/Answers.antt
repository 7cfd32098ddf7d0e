use Rattle.std.proofs.Common.{arith, ◌≡◌, ◌∙◌, ◌<◌, ◌+◌, ◌++◌, ◌∷◌, [], ap, sym, refl, drop, get_or, length, List}
use Rattle.std.proofs.lemmas.List.{length-append}
use Rattle.db_value.specs.declared.condition.Set.{Set}
use Rattle.line_needs.specs.Columns.{set_at, sets_at}
use Rattle.line_needs.proofs.SetLemmas.{set_step}
use Rattle.line_needs.proofs.columns.sets_of.Goals as goal

pub loop-place-preserved : goal.loop-place-preserved
loop-place-preserved c =
    let numbers = c.as_slice-numbers.result.now in
    let values = c.as_slice-values.result.now in
    let i = c.loop-place.place in
    let value = c.index-values-place.result in
    let long : length numbers ≡ length values = ap length c.as_slice-numbers.ensures.columns ∙ c.requires ∙ sym (ap length c.as_slice-values.ensures.values) in
    let within : i < length numbers = omega (arith, long, c.loop-place-test.true) in
    let step = set_step numbers values (sets_at numbers values) c.loop-place.all i (get_or numbers i 0) 0 value value within c.loop-place-test.true refl (sym c.index-values-place.is) c.loop-place.invariant.0 in
    let pushed : c.push.new.self ≡ c.loop-place.all ++ set_at (get_or numbers i 0) value ∷ [] = c.push.ensures ∙ ap (λ (s : Set). c.loop-place.all ++ s ∷ []) c.set_at.ensures in (
      step ∙ ap (λ (t : List Set). t ++ sets_at (drop (i + 1) numbers) (drop (i + 1) values)) (sym pushed),
      omega (arith, ap length pushed, length-append c.loop-place.all (set_at (get_or numbers i 0) value ∷ []), c.loop-place.invariant.1),
    )
