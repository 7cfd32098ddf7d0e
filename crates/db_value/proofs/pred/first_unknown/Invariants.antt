use Rattle.std.proofs.Common.{◌≡◌, drop}
use Rattle.db_value.specs.Relations.{columns_at}
use Rattle.db_value.specs.Pred.{first_unknown}
use Rattle.db_value.proofs.pred.first_unknown.Given as goal

-- all columns so far are there
abbrev pub invariant-loop-term : goal.invariant-loop-term
invariant-loop-term l = first_unknown (columns_at l.schema l.relation) l.terms ≡ first_unknown (columns_at l.schema l.relation) (drop l.term-index l.terms)
