use Rattle.std.specs.Option.{option_copied}
use Rattle.field_merge.specs.Rows.{fields_if}
use Rattle.field_merge.proofs.FieldLemmas.{AreSoFar}
use Rattle.field_merge.proofs.one_key.merge_records.Given as goal

abbrev pub invariant-loop-column : goal.invariant-loop-column
invariant-loop-column l = AreSoFar l.prefer (fields_if (option_copied l.base)) l.left.fields l.right.fields l.column l.into
