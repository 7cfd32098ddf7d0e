use Rattle.std.proofs.Common.{◌≡◌, true, take, drop}
use Rattle.std.specs.List.{list_all}
use Rattle.db_store.specs.State.{dataset_of}
use Rattle.branch_tx.specs.Covers.{has_version}
use Rattle.branch_tx.specs.Granted.{AreAllOf}
use Rattle.line_needs.specs.Needs.{names_needs}
use Rattle.store_tx.specs.Keeps.{KeepsWith, IsMore}
use Rattle.store_tx.specs.Statements.{lacking_of}
use Rattle.store_tx.proofs.granting.grant_names.Given as goal

-- the names so far are granted, and each of them is there
abbrev pub invariant-loop-name : goal.invariant-loop-name
invariant-loop-name g l = record {
  keeps : KeepsWith (g.St.Store.state l.store) l.branch (names_needs (dataset_of (g.St.Store.state l.store)) l.names) l.initial.tx l.tx;
  granted : list_all (has_version l.tx) (take l.name-index l.names) ≡ true;
  there : lacking_of (dataset_of (g.St.Store.state l.store)) l.branch l.names ≡ lacking_of (dataset_of (g.St.Store.state l.store)) l.branch (drop l.name-index l.names);
  more : IsMore l.initial.tx l.tx;
  shown : AreAllOf (g.St.Store.state l.store) l.tx;
}
