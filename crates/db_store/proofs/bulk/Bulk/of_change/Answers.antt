use Rattle.std.proofs.Common.{◌≡◌, ◌∙◌, ◌+◌, ℕ, List, Bool, true, false, Option, Some, None, ap, sym, arith, cond, length}
use Rattle.db_value.specs.RowForm.{row_size}
use Rattle.db_store.specs.declared.bulk.Bulk.{Bulk}
use Rattle.db_store.specs.Body.{any_of_texts}
use Rattle.db_store.specs.Bulk.{weight}
use Rattle.db_store.proofs.BodyLemmas.{same_bulk, wide_is}
use Rattle.db_store.proofs.bulk.Bulk.of_change.Goals as goal

pub returns-clause-weight : goal.returns-clause-weight
returns-clause-weight c =
    let ws : List ℕ = c.args.widths.now in
    let own = c.as_slice-own.ensures.value in
    let size : c.size_of_row-size.result ≡ row_size ws = c.size_of_row-size.ensures.value ∙ ap row_size own in
    let texts : c.one_if.result ≡ cond (any_of_texts ws) 1 0 = c.one_if.ensures ∙ ap (λ (b : Bool). cond b 1 0) (c.any_of_texts.ensures ∙ ap any_of_texts own) in
    let is : Bulk = record { plain = 10 + c.size_of_row-size.result; wide = 10 + (length c.as_slice-own.result.now + c.size_of_row-size.result); texts = c.one_if.result } in
    same_bulk is (weight (Some ws)) (ap (λ n. 10 + n) size) (omega (arith, size, ap length own, wide_is ws)) texts
    ∙ ap (λ (b : Bool). weight (cond b (Some ws) None)) (sym c.if-not-puts.false)
