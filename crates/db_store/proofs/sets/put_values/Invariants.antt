use Rattle.std.proofs.Common.{◌≡◌, drop}
use Rattle.db_store.specs.Work.{with_sets}
use Rattle.db_store.proofs.sets.put_values.Given as goal

-- the fields so far, with the new values that are left, give what all give
abbrev pub invariant-loop-set : goal.invariant-loop-set
invariant-loop-set l = with_sets l.fields (drop l.set-index l.set-items) ≡ with_sets l.initial.fields l.sets
