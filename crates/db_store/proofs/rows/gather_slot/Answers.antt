use Rattle.std.proofs.Common.{◌++◌, ◌∙◌, List, ap, sym, append-nil}
use Rattle.db_value.specs.declared.record.Record.{Record}
use Rattle.db_store.proofs.RowLemmas.{no_row, one_row}
use Rattle.db_store.proofs.rows.gather_slot.Goals as goal

pub returns-then-not-row_at-clause-rows : goal.returns-then-not-row_at-clause-rows
returns-then-not-row_at-clause-rows g c =
    sym (append-nil c.args.rows.now)
    ∙ ap (λ (xs : List Record). c.args.rows.now ++ xs) (sym (no_row _ (sym c.row_at.ensures.there ∙ c.if-not-row_at.true)))

pub returns-clause-rows : goal.returns-clause-rows
returns-clause-rows g c =
    c.in_ok-push.ensures.pushed
    ∙ ap (λ (xs : List Record). c.args.rows.now ++ xs) (sym (one_row _ c.row_at.new.into (sym c.row_at.ensures.there ∙ c.if-not-row_at.false) c.row_at.ensures.row))
