use Rattle.std.proofs.Common.{◌+◌, ap, sym, ◌∙◌, subst, List, arith}
use Rattle.std.specs.Option.{option_copied}
use Rattle.db_value.specs.Value.{Value, field_at}
use Rattle.db_value.specs.declared.condition.Prefer.{Prefer}
use Rattle.field_merge.specs.Merge.{preferred}
use Rattle.field_merge.specs.Rows.{fields_if}
use Rattle.field_merge.proofs.FieldLemmas.{AreSoFar, left_kept, right_taken}
use Rattle.field_merge.proofs.one_key.merge_records.Goals.{in-Left, in-Right}
use Rattle.field_merge.proofs.one_key.merge_records.Goals as goal

pub loop-column-preserved : goal.loop-column-preserved
loop-column-preserved c =
    let base = fields_if (option_copied c.args.base) in
    let left : List Value = c.args.left.now.fields in
    let right : List Value = c.args.right.now.fields in
    elim c.match-side_of.branch [
      | in-Left w ↦ subst (λ (fields : List Value). AreSoFar c.args.prefer base left right (c.loop-column.column + 1) fields) (sym w.into-is)
          (left_kept c.args.prefer base left right c.loop-column.column c.loop-column.into c.requires.base c.requires.right (omega arith) c.loop-column.invariant
          (sym c.side_of.ensures ∙ ap (λ (p : Prefer). preferred p (field_at left c.loop-column.column) (field_at right c.loop-column.column)) w.in-Left.is))
      | in-Right w ↦ subst (λ (fields : List Value). AreSoFar c.args.prefer base left right (c.loop-column.column + 1) fields) (sym (w.into-is ∙ w.take_at.ensures))
          (right_taken c.args.prefer base left right c.loop-column.column c.loop-column.into c.requires.base c.requires.right (omega arith) c.loop-column.invariant
          (sym c.side_of.ensures ∙ ap (λ (p : Prefer). preferred p (field_at left c.loop-column.column) (field_at right c.loop-column.column)) w.in-Right.is))
    ]
