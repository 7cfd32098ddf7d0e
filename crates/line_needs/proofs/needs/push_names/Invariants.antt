use Rattle.std.proofs.Common.{◌≡◌, ◌++◌, drop}
use Rattle.db_store.specs.State.{dataset_of}
use Rattle.line_needs.specs.Needs.{names_needs}
use Rattle.line_needs.proofs.needs.push_names.Given as goal

-- the needs so far, and those of the other names, are all needs
abbrev pub invariant-loop-name : goal.invariant-loop-name
invariant-loop-name g l = l.initial.needs.items ++ names_needs (dataset_of (g.St.Store.state l.store)) l.names ≡ l.needs.items ++ names_needs (dataset_of (g.St.Store.state l.store)) (drop l.name-index l.names)
