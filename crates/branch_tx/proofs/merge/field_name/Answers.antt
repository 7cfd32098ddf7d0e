use Rattle.std.proofs.Common.{◌∙◌, ◌<◌, [], Some, List, ap, sym, subst, length, map, get_or, arith}
use Rattle.std.proofs.lemmas.List.{length-map}
use Rattle.db_value.specs.Relations.{columns_at}
use Rattle.db_value.specs.declared.schema.Column.{Column}
use Rattle.field_merge.specs.Named.{IsFieldOf}
use Rattle.line_needs.specs.Columns.{columns_of}
use Rattle.branch_tx.specs.Merging.{field_name}
use Rattle.branch_tx.proofs.merge.field_name.Goals as goal

pub column_name-requires : goal.column_name-requires
column_name-requires c =
    let columns = columns_of c.args.schema.now c.args.relation in
    let within : c.in-Some.column < length (columns_at c.args.schema.now c.args.relation) = subst (IsFieldOf (length (columns_at c.args.schema.now c.args.relation))) c.in-Some.is c.requires.field in
    omega (arith, within, length-map columns (λ (k : Column). k.name), ap length c.columns_of.ensures.columns)

pub returns-in-Some : goal.returns-in-Some
returns-in-Some c =
    ap Some (c.column_name.ensures ∙ ap (λ (ks : List Column). get_or (map (λ (k : Column). k.name) ks) c.in-Some.column []) c.columns_of.ensures.columns)
    ∙ ap (field_name c.args.schema.now c.args.relation) (sym c.in-Some.is)
