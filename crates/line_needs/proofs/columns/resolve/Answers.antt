use Rattle.std.proofs.Common.{arith, ℕ, ◌≡◌, ◌∙◌, ◌+◌, ◌++◌, ◌∷◌, [], ap, sym, drop, length, List}
use Rattle.std.proofs.lemmas.List.{length-append}
use Rattle.db_value.specs.Relations.{columns_at}
use Rattle.line_needs.specs.Columns.{resolved, resolved_columns}
use Rattle.line_needs.proofs.SetLemmas.{behind, found_step, found_stop}
use Rattle.line_needs.proofs.columns.resolve.Goals as goal

pub returns-in-None : goal.returns-in-None
returns-in-None c =
    let columns = columns_at c.args.schema.now c.args.relation in
    let all = resolved_columns (resolved columns c.as_slice-sets.result.now) in
    let stop = found_stop columns c.as_slice-sets.result.now all c.loop-set.columns c.loop-set.set-index c.set-item.result _ c.loop-set-test.true (sym c.set-item.is) (sym c.column.ensures.place ∙ c.in-None.is) c.loop-set.invariant.0 in
    sym stop ∙ ap (λ s. resolved_columns (resolved columns s)) c.as_slice-sets.ensures.values

pub loop-set-preserved : goal.loop-set-preserved
loop-set-preserved c =
    let columns = columns_at c.args.schema.now c.args.relation in
    let all = resolved_columns (resolved columns c.as_slice-sets.result.now) in
    let step = found_step columns c.as_slice-sets.result.now all c.loop-set.columns c.loop-set.set-index c.set-item.result _ c.in-Some.column c.loop-set-test.true (sym c.set-item.is) (sym c.column.ensures.place ∙ c.in-Some.is) c.loop-set.invariant.0 in
    (step ∙ ap (λ (t : List ℕ). behind t (resolved columns (drop (c.loop-set.set-index + 1) c.as_slice-sets.result.now))) (sym c.push.ensures), omega (arith, ap length c.push.ensures, length-append c.loop-set.columns (c.in-Some.column ∷ []), c.loop-set.invariant.1))
