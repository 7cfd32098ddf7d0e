use Rattle.std.proofs.Common.{◌≡◌, drop}
use Rattle.line_needs.specs.Misfits.{row_misfit}
use Rattle.line_needs.proofs.misfits.row_misfit.Given as goal

-- all values so far have their places
abbrev pub invariant-loop-column : goal.invariant-loop-column
invariant-loop-column l = row_misfit l.columns l.fields ≡ row_misfit (drop l.column-index l.columns) l.walk
