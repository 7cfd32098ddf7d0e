use Rattle.std.proofs.Common.{◌≡◌, true, take}
use Rattle.std.specs.Prelude.{nat_le}
use Rattle.std.specs.List.{list_all}
use Rattle.std.specs.FinMap.{len}
use Rattle.db_store.specs.Table.{with_changes}
use Rattle.db_store.specs.Fits.{most_keys}
use Rattle.store_catalogue.proofs.fit.is_within.Given as goal

abbrev pub invariant-loop-relation : goal.invariant-loop-relation
invariant-loop-relation g l = list_all (λ m. nat_le (len m) most_keys) (take l.relation (with_changes (g.T.KeyedTable.table_of l.table) l.changes)) ≡ true
