use Rattle.std.proofs.Common.{ap, ◌∙◌, length}
use Rattle.std.specs.FinMap.{len}
use Rattle.db_store.specs.Table.{Contents}
use Rattle.plain_store.proofs.ShelfLemmas.{length_rows}
use Rattle.plain_store.proofs.plain_table.PlainTableKeyedTable.keys.Goals as goal

pub returns : goal.returns
returns c = c.len.ensures ∙ ap length c.rows.ensures.rows ∙ length_rows c.shelf.result.now ∙ ap (λ (m : Contents). len m) c.shelf.ensures
