use Rattle.std.proofs.Common.{◌≡◌, drop}
use Rattle.db_value.specs.Relations.{columns_at, widths_at}
use Rattle.db_value.specs.Pred.{first_wrong}
use Rattle.db_value.proofs.pred.first_wrong.Given as goal

-- all columns so far are of their values' kinds
abbrev pub invariant-loop-term : goal.invariant-loop-term
invariant-loop-term l =
    let columns = columns_at l.schema l.relation in
    let widths = widths_at l.schema l.relation in
    first_wrong columns widths l.terms ≡ first_wrong columns widths (drop l.term-index l.terms)
