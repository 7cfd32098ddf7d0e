use Rattle.std.proofs.Common.{◌≡◌, ◌&&◌, drop}
use Rattle.std.specs.List.{list_all}
use Rattle.db_store.specs.Fits.{ascends, change_fits}
use Rattle.store_catalogue.proofs.fit.ascend_and_fit.Given as goal

-- the changes that are left decide
abbrev pub invariant-loop-at : goal.invariant-loop-at
invariant-loop-at l = (ascends (drop l.at l.changes) && list_all (change_fits l.schema) (drop l.at l.changes)) ≡ (ascends l.changes && list_all (change_fits l.schema) l.changes)
