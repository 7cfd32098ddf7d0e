use Rattle.std.proofs.Common.{◌≡◌, ◌∙◌, Some, refl, sym, subst, Option}
use Rattle.std.specs.FinMap as finite
use Rattle.std.specs.Prelude.{IfOk}
use Rattle.db_value.specs.declared.record.Record.{Record}
use Rattle.db_store.specs.Table.{relation_at}
use Rattle.branch_tx.specs.Act.{record_with}
use Rattle.branch_tx.proofs.RowLemmas.{record_none, record_some, far_if}
use Rattle.branch_tx.proofs.look.find_row.Goals as goal

pub returns-then-not-find_counted-clause-row : goal.returns-then-not-find_counted-clause-row
returns-then-not-find_counted-clause-row g c =
    c.none.ensures ∙ record_none c.args.key (finite.get (relation_at (g.V.View.table c.args.view.now) c.args.relation) c.args.key) (sym c.find_counted.ensures.there ∙ c.if-not-find_counted.true)

pub returns-clause-row : goal.returns-clause-row
returns-clause-row g c =
    let o = finite.get (relation_at (g.V.View.table c.args.view.now) c.args.relation) c.args.key in
    let row : Record = record { key = c.args.key; fields = c.find_counted.new.into.fields } in
    let is : Some row ≡ record_with c.args.key o = record_some c.args.key o row (sym c.find_counted.ensures.there ∙ c.if-not-find_counted.false) c.find_counted.ensures.fields refl in
    subst (λ (x : Option Record). IfOk c.some.result (λ r. r ≡ x)) is c.some.ensures.row

pub returns-clause-far : goal.returns-clause-far
returns-clause-far g c =
    let o = finite.get (relation_at (g.V.View.table c.args.view.now) c.args.relation) c.args.key in
    let row : Record = record { key = c.args.key; fields = c.find_counted.new.into.fields } in
    let is : Some row ≡ record_with c.args.key o = record_some c.args.key o row (sym c.find_counted.ensures.there ∙ c.if-not-find_counted.false) c.find_counted.ensures.fields refl in
    far_if c.some.result (record_with c.args.key o) row is c.some.ensures.memory
