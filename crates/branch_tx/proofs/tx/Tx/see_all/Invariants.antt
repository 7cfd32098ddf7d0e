use Rattle.std.proofs.Common.{◌≡◌, ◌++◌, drop, map, length}
use Rattle.std.specs.List.{All}
use Rattle.db_store.specs.SeenState.{seen_table}
use Rattle.branch_tx.specs.Found.{first_lacking}
use Rattle.branch_tx.specs.Granted.{source_in, table_from}
use Rattle.branch_tx.specs.SeenFrom.{IsFrom}
use Rattle.branch_tx.proofs.tx.Tx.see_all.Given as goal

-- all names so far are there, and their tables are those of the views
abbrev pub invariant-loop-name : goal.invariant-loop-name
invariant-loop-name g l = record {
  there : first_lacking (map (source_in l.self) l.names) ≡ first_lacking (map (source_in l.self) (drop l.name-index l.names));
  tables : map (λ v. table_from l.self (source_in l.self v)) l.names ≡ map seen_table l.all.items ++ map (λ v. table_from l.self (source_in l.self v)) (drop l.name-index l.names);
  wide : All (λ s. length (seen_table s) ≡ length l.self.schema) l.all.items;
  from : All (IsFrom l.self l.work) l.all.items;
}
