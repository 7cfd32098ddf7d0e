use Rattle.std.proofs.Common.{arith, ap, length}
use Rattle.std.proofs.lemmas.List.{length-map}
use Rattle.db_value.specs.declared.schema.Column.{Column}
use Rattle.line_needs.specs.Columns.{columns_of}
use Rattle.line_needs.proofs.misfits.set_misfit.Goals as goal

pub bounds-as_slice-column : goal.bounds-as_slice-column
bounds-as_slice-column c =
    let columns = columns_of c.args.schema.now c.args.relation in
    let names = length-map columns (λ (k : Column). k.name) in
    let widths = length-map columns (λ (k : Column). k.width) in
    omega (arith, c.in-Some.ensures.within, names, widths, ap length c.requires.widths, ap length c.as_slice.ensures.value)
