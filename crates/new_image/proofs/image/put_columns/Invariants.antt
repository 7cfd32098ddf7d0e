use Rattle.std.proofs.Common.{◌≡◌, ◌++◌, drop}
use Rattle.new_image.specs.Image.{columns_bytes}
use Rattle.new_image.proofs.image.put_columns.Given as goal

abbrev pub invariant-loop-column : goal.invariant-loop-column
invariant-loop-column l = l.out.items ++ columns_bytes (drop l.column-index l.columns) ≡ l.initial.out.items ++ columns_bytes l.columns
