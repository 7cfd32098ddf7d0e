use Rattle.std.proofs.Common.{◌≡◌, drop}
use Rattle.db_value.specs.Relations.{columns_at, widths_at}
use Rattle.line_needs.specs.Misfits.{sets_misfit}
use Rattle.line_needs.proofs.misfits.sets_misfit.Given as goal

-- all new values so far have their places
abbrev pub invariant-loop-set : goal.invariant-loop-set
invariant-loop-set l =
    let widths = widths_at l.schema l.relation in
    let columns = columns_at l.schema l.relation in
    sets_misfit widths columns l.sets ≡ sets_misfit widths columns (drop l.set-index l.sets)
