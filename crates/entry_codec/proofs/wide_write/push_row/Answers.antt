use Rattle.std.proofs.Common.{arith, ap}
use Rattle.std.proofs.lemmas.List.{length-take}
use Rattle.db_value.specs.RowForm.{row_size}
use Rattle.db_value.proofs.RowForms.{row_few}
use Rattle.entry_codec.proofs.wide_write.push_row.Goals as goal

pub put_row-requires-clause-room : goal.put_row-requires-clause-room
put_row-requires-clause-room c =
    let few = row_few c.args.widths.now c.as_slice.ensures.are in
    let same = ap row_size c.as_slice.ensures.value in
    omega (arith, few, same)

pub slice_bounds-row-end : goal.slice_bounds-row-end
slice_bounds-row-end c =
    let few = row_few c.args.widths.now c.as_slice.ensures.are in
    let same = ap row_size c.as_slice-2.ensures.value in
    let size = c.size_of_row.ensures.value in
    let long = c.put_row.auto.to in
    omega (arith, few, same, size, long)

pub slice_bounds-extend_from_slice-end : goal.slice_bounds-extend_from_slice-end
slice_bounds-extend_from_slice-end c =
    let few = row_few c.args.widths.now c.as_slice.ensures.are in
    let same = ap row_size c.as_slice-2.ensures.value in
    let size = c.size_of_row.ensures.value in
    let long = c.put_row.auto.to in
    let taken = length-take c.size_of_row.result c.put_row.new.to in
    omega (arith, few, same, size, long, taken)
