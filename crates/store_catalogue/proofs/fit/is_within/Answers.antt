use Rattle.std.proofs.Common.{◌<◌, ◌∙◌, ap, sym, arith, length}
use Rattle.std.specs.Prelude.{nat_le}
use Rattle.std.specs.List.{list_all}
use Rattle.std.specs.FinMap.{len, empty}
use Rattle.std.proofs.lemmas.List.{take_all}
use Rattle.std.proofs.lemmas.List.Folds.{list_all_at}
use Rattle.db_store.specs.Table.{Contents, with_changes}
use Rattle.db_store.specs.Fits.{most_keys}
use Rattle.db_store.proofs.CountLemmas.{length_with_changes}
use Rattle.store_catalogue.proofs.fit.is_within.Goals as goal

pub returns-then-not-stays_within : goal.returns-then-not-stays_within
returns-then-not-stays_within g c =
    let t = with_changes (g.T.KeyedTable.table_of c.args.table.now) c.args.changes.now in
    let i = c.loop-relation.relation in
    let n = length_with_changes (g.T.KeyedTable.table_of c.args.table.now) c.args.changes.now in
    let here : i < length (g.T.KeyedTable.table_of c.args.table.now) = omega (arith, c.loop-relation-test.true, c.requires.width) in
    sym (list_all_at (λ (m : Contents). nat_le (len m) most_keys) t i empty (omega (arith, here, n)) (sym c.stays_within.ensures ∙ c.if-not-stays_within.true))

pub returns : goal.returns
returns g c =
    let t = with_changes (g.T.KeyedTable.table_of c.args.table.now) c.args.changes.now in
    let i = c.loop-relation.relation in
    let n = length_with_changes (g.T.KeyedTable.table_of c.args.table.now) c.args.changes.now in
    sym c.loop-relation.invariant ∙ ap (list_all (λ (m : Contents). nat_le (len m) most_keys)) (take_all i t (omega (arith, n, c.loop-relation-test.false, c.requires.width)))
