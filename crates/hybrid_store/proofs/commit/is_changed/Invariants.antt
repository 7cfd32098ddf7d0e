use Rattle.std.proofs.Common.{◌≡◌, drop}
use Rattle.db_store.specs.Adopt.{is_changed}
use Rattle.hybrid_store.proofs.commit.is_changed.Given as goal

-- what is asked of all changes is left to those that are left
abbrev pub invariant-loop-at : goal.invariant-loop-at
invariant-loop-at l = is_changed l.relation (drop l.at l.changes) ≡ is_changed l.relation l.changes
