use Rattle.std.proofs.Common.{◌≡◌, ◌++◌, drop, map}
use Rattle.db_store.specs.State.{dataset_of}
use Rattle.db_store.specs.Found.{branch_names}
use Rattle.store_tx.proofs.granting.branch_names.Given as goal

-- the names so far, and those of the other branches, are all names
abbrev pub invariant-loop-branch : goal.invariant-loop-branch
invariant-loop-branch g l = branch_names (dataset_of (g.St.Store.state l.store)) ≡ l.names.items ++ map (λ b. b.name) (drop l.branch (dataset_of (g.St.Store.state l.store)).branches)
