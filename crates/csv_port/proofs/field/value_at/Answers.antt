use Rattle.std.proofs.Common.{◌∙◌, sym, ap}
use Rattle.csv.specs.Records.{fields_of}
use Rattle.csv.proofs.RecordFacts.{field-there}
use Rattle.csv_port.specs.Row.{cell_of}
use Rattle.csv_port.proofs.FieldLemmas.{field_is}
use Rattle.csv_port.proofs.field.value_at.Goals as goal

pub unreachable-requires : goal.unreachable-requires
unreachable-requires c = absurd (field-there (fields_of c.args.fields.now) c.args.at c.requires (sym c.in-None.ensures.value))

pub returns : goal.returns
returns c = c.read_cell.ensures ∙ ap (cell_of c.args.width) (sym (field_is (fields_of c.args.fields.now) c.args.at c.in-Some.cell.now (sym c.in-Some.ensures.value)))
