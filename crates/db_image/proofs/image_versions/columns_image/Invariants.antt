use Rattle.std.proofs.Common.{◌≡◌, ◌≤◌, take, length}
use Rattle.std.specs.List.{All}
use Rattle.db_value.specs.declared.schema.Column.{Column}
use Rattle.db_image.proofs.image_versions.columns_image.Given as goal

abbrev pub invariant-loop-column : goal.invariant-loop-column
invariant-loop-column l = record {
  value : l.made.items ≡ take l.column-index l.columns;
  short : All (λ (c : Column). length c.name ≤ 32) l.made.items;
}
