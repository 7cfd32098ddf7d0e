use Rattle.std.proofs.Common.{◌+◌, ◌∷◌, arith, ap, sym, ◌∙◌, List, ℕ, drop}
use Rattle.std.proofs.lemmas.List.{drop_more}
use Rattle.db_value.specs.Value.{Value}
use Rattle.db_value.specs.declared.condition.Set.{Set}
use Rattle.db_store.specs.Work.{with_sets}
use Rattle.db_store.proofs.sets.put_values.Goals as goal

pub loop-set-preserved : goal.loop-set-preserved
loop-set-preserved c =
    let sets : List Set = c.as_slice-set-items.result.now in
    let i : ℕ = c.loop-set.set-index in
    let item : Set = c.set-item.result in
    let next = drop_more sets i item (omega (arith, c.loop-set-test.true)) ∙ ap (λ (s : Set). s ∷ drop (i + 1) sets) (sym c.set-item.is) in
    ap (λ (fs : List Value). with_sets fs (drop (i + 1) sets)) c.put_value.ensures
    ∙ sym (ap (λ (ss : List Set). with_sets c.loop-set.fields ss) next)
    ∙ c.loop-set.invariant
